-- A number without zeros in front, as the layouts of fields read it: digits, one at least, and no zero in front of another digit.
use mathlib.Core.Path.{◌≡◌, refl, sym, ◌∙◌}
use mathlib.Core.Bool.{Bool, true, false, cond}
use mathlib.Core.List.{List, [], ◌∷◌}
use Prim.Native.Nat.{ℕ, ◌+◌, ◌/◌, ◌%◌, ◌^◌, ◌≤◌, ◌<◌}
use native.Mathlib.Omega.{arith}
use lib.ListN.{length}
use lib.Dec.{eqb}
use Rattle.laws.proofs.Truth.{both_right}
use Rattle.text.specs.Digits.{is_digit, all_are_digits, digits}
use Rattle.text.specs.Decimals.{bare, decimal}
use Rattle.text.proofs.Widths.{digits_are}
use Rattle.text.proofs.Bare.{least_width}

-- a zero stands in front of another digit
abbrev pub zero_led : List ℕ → Bool
zero_led [] = false
zero_led (b ∷ []) = false
zero_led (b ∷ d ∷ bs) = eqb b 48

bare_digits : (bs : List ℕ) → all_are_digits bs ≡ true → all_are_digits (bare bs) ≡ true
unfolding bare all_are_digits
bare_digits [] e = refl
bare_digits (b ∷ []) e = e
bare_digits (b ∷ d ∷ bs) e = go (eqb b 48) (bare_digits (d ∷ bs) (both_right (is_digit b) (all_are_digits (d ∷ bs)) e))
  where
    go : (t : Bool) → all_are_digits (bare (d ∷ bs)) ≡ true → all_are_digits (cond t (bare (d ∷ bs)) (b ∷ d ∷ bs)) ≡ true
    go true r = r
    go false r = e

bare_some : (b : ℕ) (bs : List ℕ) → 1 ≤ length (bare (b ∷ bs))
unfolding bare
bare_some b [] = omega arith
bare_some b (d ∷ bs) = go (eqb b 48) (bare_some d bs)
  where
    go : (t : Bool) → 1 ≤ length (bare (d ∷ bs)) → 1 ≤ length (cond t (bare (d ∷ bs)) (b ∷ d ∷ bs))
    go true r = r
    go false r = omega arith

bare_bare : (bs : List ℕ) → zero_led (bare bs) ≡ false
unfolding bare
bare_bare [] = refl
bare_bare (b ∷ []) = refl
bare_bare (b ∷ d ∷ bs) = go (eqb b 48) refl (bare_bare (d ∷ bs))
  where
    go : (t : Bool) → eqb b 48 ≡ t → zero_led (bare (d ∷ bs)) ≡ false → zero_led (cond t (bare (d ∷ bs)) (b ∷ d ∷ bs)) ≡ false
    go true e r = r
    go false e r = e

pub decimal_digits : (v : ℕ) → all_are_digits (decimal v) ≡ true
unfolding decimal
decimal_digits v = bare_digits (digits 20 v) (digits_are 20 v)

pub decimal_some : (v : ℕ) → 1 ≤ length (decimal v)
unfolding decimal digits
decimal_some v = bare_some _ _

pub decimal_bare : (v : ℕ) → zero_led (decimal v) ≡ false
unfolding decimal
decimal_bare v = bare_bare (digits 20 v)

-- a number below ten is one digit
pub decimal_one : (d : ℕ) → d < 10 → decimal d ≡ (48 + d) ∷ []
unfolding digits
decimal_one d h = let e : 48 + d / 10 ^ 0 % 10 ≡ 48 + d = omega arith in sym (least_width 1 d (omega arith) (omega arith) h (λ l. absurd (omega arith))) ∙ rw e
