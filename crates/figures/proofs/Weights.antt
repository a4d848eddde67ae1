-- The weights are document 01's; and digits that are added, each to twice the sum of those to its left, weigh the same, by remainder
-- of 11.
use Rattle.std.proofs.Common.{◌≡◌, ℕ, ◌+◌, ◌-◌, ◌*◌, ◌/◌, ◌%◌, ◌^◌, eqb, List, [], ◌∷◌, map, length, sym, refl, ap, ◌∙◌, mul_assoc, mul_comm, add-mul, pow-suc, arith}
use native.Mathlib.Nat.{div-add-mod}
use Rattle.figures.specs.Parts.{doubled_after}
use Rattle.figures.specs.Accounts.{weight, weighed, passes}

-- 'digits of a part, from the right, times 1, 2, 4, 8, 5, 10, 9, 7, 3, 6' (document 01): no part has an eleventh
pub as_listed : map weight (0 ∷ 1 ∷ 2 ∷ 3 ∷ 4 ∷ 5 ∷ 6 ∷ 7 ∷ 8 ∷ 9 ∷ []) ≡ 1 ∷ 2 ∷ 4 ∷ 8 ∷ 5 ∷ 10 ∷ 9 ∷ 7 ∷ 3 ∷ 6 ∷ []
unfolding weight
as_listed = refl

-- a factor may be taken by its remainder
remainder : (a b w : ℕ) → (a % 11 * b + w) % 11 ≡ (a * b + w) % 11
remainder a b w =
    let e : a * b ≡ 11 * (a / 11 * b) + a % 11 * b =
    ap (λ (x : ℕ). x * b) (sym (div-add-mod a 11)) ∙ add-mul (11 * (a / 11)) (a % 11) b ∙ ap (λ (x : ℕ). x + a % 11 * b) (mul_assoc 11 (a / 11) b) in
    omega arith

-- one digit to the right of others, of the sum v
step : (v d p w : ℕ) → ((2 * v + d) * p + w) % 11 ≡ (v * (p * 2) + (p % 11 * d + w)) % 11
step v d p w =
    let a : (2 * v + d) * p ≡ 2 * (v * p) + d * p = add-mul (2 * v) d p ∙ ap (λ (x : ℕ). x + d * p) (mul_assoc 2 v p) in
    let b : v * (p * 2) ≡ 2 * (v * p) = sym (mul_assoc v p 2) ∙ mul_comm (v * p) 2 in
    let c : d * p ≡ p * d = mul_comm d p in
    let q : (p % 11 * d + (v * (p * 2) + w)) % 11 ≡ (p * d + (v * (p * 2) + w)) % 11 = remainder p d (v * (p * 2) + w) in
    omega arith

doubled : (v : ℕ) (s : List ℕ) → doubled_after v s % 11 ≡ (v * 2 ^ length s + weighed s) % 11
unfolding doubled_after weighed weight
doubled v [] = omega arith
doubled v (b ∷ s) = doubled (2 * v + (b - 48)) s ∙ step v (b - 48) (2 ^ length s) (weighed s) ∙ rw (pow-suc 2 (length s)) refl

-- so they divide by 11 together
pub doubled_passes : (s : List ℕ) → eqb (doubled_after 0 s % 11) 0 ≡ passes s
unfolding passes
doubled_passes s = let e : doubled_after 0 s % 11 ≡ weighed s % 11 = doubled 0 s ∙ omega arith in rw e
