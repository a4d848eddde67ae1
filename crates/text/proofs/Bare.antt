-- A number without zeros in front: it is the digits at the least width that holds it, and stands for the number.
use mathlib.Core.Path.{◌≡◌, refl, ap, ◌∙◌, sym}
use mathlib.Core.Bool.{Bool, true, false, cond}
use mathlib.Core.List.{List, [], ◌∷◌}
use Prim.Native.Nat.{ℕ, zero, suc, ◌+◌, ◌-◌, ◌*◌, ◌/◌, ◌%◌, ◌^◌, ◌≤◌, ◌<◌}
use native.Mathlib.Nat.{div-eq_of_lt, le-div_iff_mul-le, div-lt_iff_lt-mul, mod-eq_of_lt, one-le-pow, pow-le-pow_right, pow-succ', zero-add, suc-add}
use native.Mathlib.Numerals.{add-one}
use native.Mathlib.Omega.{arith}
use lib.Dec.{eqb}
use lib.ListN.{length}
use borrow.Author.Tests.{ne_eqb, eqb-true}
use Rattle.text.specs.Digits.{digits, value_after, value}
use Rattle.text.specs.Decimals.{bare, decimal}
use Rattle.text.proofs.Widths.{read_written, length_digits}

ten_pos : (n : ℕ) → 0 < 10 ^ n
ten_pos n = one-le-pow n 10 (omega arith)

-- a zero in front goes
shed : (n v : ℕ) → v < 10 ^ suc n → bare (digits (suc (suc n)) v) ≡ bare (digits (suc n) v)
unfolding digits bare
shed n v h = rw (div-eq_of_lt h)

-- another digit in front stays
full : (n v : ℕ) → 10 ^ suc n ≤ v → v < 10 ^ suc (suc n) → bare (digits (suc (suc n)) v) ≡ digits (suc (suc n)) v
unfolding digits bare
full n v l h =
    let one : 1 ≤ v / 10 ^ suc n = (le-div_iff_mul-le (ten_pos (suc n))).1 (omega arith) in
    let ten : v / 10 ^ suc n < 10 = (div-lt_iff_lt-mul (ten_pos (suc n))).1 (rw pow-succ' at h) in
    rw (ne_eqb (48 + v / 10 ^ suc n % 10) 48 (λ e. omega (arith, mod-eq_of_lt ten)))

shed_all : (k n v : ℕ) → v < 10 ^ suc n → bare (digits (suc (k + n)) v) ≡ bare (digits (suc n) v)
shed_all zero n v h = rw zero-add
shed_all (suc k) n v h =
    let e : suc n ≤ suc (k + n) = omega arith in
    rw suc-add (shed (k + n) v (omega (arith, pow-le-pow_right {n = 10} (omega arith) e)) ∙ shed_all k n v h)

-- 20 stands for any width that holds the number
width_free : (n v : ℕ) → n ≤ 19 → v < 10 ^ suc n → decimal v ≡ bare (digits (suc n) v)
unfolding decimal
width_free n v l h =
    let e : 20 ≡ suc (19 - n + n) = omega arith in
    ap (λ (m : ℕ). bare (digits m v)) e ∙ shed_all (19 - n) n v h

-- at the least width that holds the number there is no zero in front, but for the one digit of 0
pub least_width : (n v : ℕ) → 1 ≤ n → n ≤ 20 → v < 10 ^ n → (1 < n → 10 ^ (n - 1) ≤ v) → digits n v ≡ decimal v
unfolding bare digits
least_width zero v o l h f = absurd (omega arith)
least_width (suc zero) v o l h f = sym (width_free 0 v (omega arith) h)
least_width (suc (suc n)) v o l h f =
    let e : suc (suc n) - 1 ≡ suc n = omega arith in
    sym (width_free (suc n) v (omega arith) h ∙ full n v (rw e at (f (omega arith))) h)

-- ---- how long it is

bare_length : (bs : List ℕ) → length (bare bs) ≤ length bs
unfolding bare
bare_length [] = omega arith
bare_length (b ∷ []) = omega arith
bare_length (b ∷ d ∷ bs) = go (eqb b 48) (bare_length (d ∷ bs))
  where
    go : (t : Bool) → length (bare (d ∷ bs)) ≤ length (d ∷ bs) → length (cond t (bare (d ∷ bs)) (b ∷ d ∷ bs)) ≤ length (b ∷ d ∷ bs)
    go true h = omega (arith, h)
    go false h = omega arith

pub decimal_length : (v : ℕ) → length (decimal v) ≤ 20
unfolding decimal
decimal_length v = omega (arith, bare_length (digits 20 v), length_digits 20 v)

-- .. so 20 bytes have room for it
pub room_for : (v at n : ℕ) → at + 20 ≤ n → at + length (decimal v) ≤ n
room_for v at n h = omega (arith, h, decimal_length v)

-- .. no longer than a width that holds the number
pub decimal_within : (n v : ℕ) → n ≤ 19 → v < 10 ^ suc n → length (decimal v) ≤ suc n
decimal_within n v l h = omega (arith, ap length (width_free n v l h), bare_length (digits (suc n) v), length_digits (suc n) v)

-- ---- what it stands for

-- zeros in front add nothing
bare_value : (bs : List ℕ) → value (bare bs) ≡ value bs
unfolding bare value_after
bare_value [] = refl
bare_value (b ∷ []) = refl
bare_value (b ∷ d ∷ bs) = go (eqb b 48) refl (bare_value (d ∷ bs))
  where
    go : (t : Bool) → eqb b 48 ≡ t → value (bare (d ∷ bs)) ≡ value (d ∷ bs) → value (cond t (bare (d ∷ bs)) (b ∷ d ∷ bs)) ≡ value (b ∷ d ∷ bs)
    go true e r = r ∙ rw (eqb-true b 48 e)
    go false e r = refl

-- reading a number written without zeros in front gives it back
pub decimal_value : (v : ℕ) → v < 10 ^ 20 → value (decimal v) ≡ v
unfolding decimal
decimal_value v h = bare_value (digits 20 v) ∙ read_written 20 v h

-- ---- how many digits it has

pub one_digit : (v : ℕ) → v ≡ 0 → digits 1 v ≡ decimal v
one_digit v e = least_width 1 v (omega arith) (omega arith) (omega (arith, e)) (λ l. absurd (omega arith))

-- one more than stand before the last
pub digits_before : (n v : ℕ) → n < 20 → 10 ^ n ≤ v → v < 10 * 10 ^ n → digits (n + 1) v ≡ decimal v
digits_before n v h l u =
    let e : n + 1 - 1 ≡ n = omega arith in
    least_width (n + 1) v (omega arith) (omega arith) (rw (add-one, pow-succ') u) (λ _. rw e l)
