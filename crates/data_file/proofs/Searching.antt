-- The first place of a byte, as `position` answers it: a number, or none where the byte does not stand.
use Rattle.std.proofs.Common.{◌≡◌, ℕ, ◌+◌, ◌-◌, ◌≤◌, cond, eqb, List, [], ◌∷◌, length, take, drop, sym, refl, ap, ◌∙◌, arith, take_all, length-drop, eq-eqb, ne_eqb, eqb-true}
use lib.Dec.{ltb}
use borrow.Author.Tests.{eqb-false, ltb-false}
use Rattle.std.specs.Prelude.{Option, Some, None}
use Rattle.std.specs.Option.{unwrap_or}
use Rattle.std.specs.List.{position_or_len}
use Rattle.laws.proofs.Truth.{by_test}
use Rattle.fields.specs.Kinds.{place}
use Rattle.fields.proofs.Places.{place_most}

placed : (x : ℕ) (s : List ℕ) → position_or_len (λ b. eqb b x) s ≡ place x s
unfolding place
placed x [] = refl
placed x (y ∷ s) = by_test (eqb y x)
    (λ e. rw (e, eq-eqb x y (sym (eqb-true y x e))))
    (λ e. rw (e, ne_eqb x y (λ q. eqb-false y x e (sym q)), placed x s) (omega arith))

-- .. with the text's length for none
or_length : (p n : ℕ) → p ≤ n → unwrap_or (cond (ltb p n) (Some p) None) n ≡ p
or_length p n h = by_test (ltb p n)
    (λ e. rw e)
    (λ e. rw e (omega (arith, ltb-false p n e)))

-- what is left of a text from a place on, as the code lends it
module _ (s : List ℕ) (at x : ℕ) (h : at ≤ length s) where
  abbrev left : List ℕ
  left = take (length s - at) (drop at s)

  left_is : left ≡ drop at s
  left_is = take_all (length s - at) (drop at s) (rw (length-drop at s) (omega arith))

  pub answered : {r : Option ℕ} {n : ℕ} → r ≡ cond (ltb (position_or_len (λ b. eqb b x) left) (length left)) (Some (position_or_len (λ b. eqb b x) left)) None
      → n ≡ unwrap_or r (length left) → (at + n ≡ at + place x (drop at s)) × (at ≤ at + n) × (at + n ≤ length s)
  answered p q =
      let m : place x (drop at s) ≤ length (drop at s) = place_most x (drop at s) in
      let e = q ∙ rw (p, left_is, placed x (drop at s)) (or_length (place x (drop at s)) (length (drop at s)) m) in
      (ap (λ (k : ℕ). at + k) e, omega arith, omega (arith, e, m, length-drop at s))
