-- std's test of a text's start is the definition's; and a text that begins with another is as long.
use mathlib.Core.Path.{◌≡◌, refl, sym}
use mathlib.Core.Bool.{Bool, true, false, false≢true}
use mathlib.Core.List.{List, [], ◌∷◌}
use Prim.Native.Nat.{ℕ, ◌≤◌}
use native.Mathlib.Omega.{arith}
use lib.Dec.{eqb}
use lib.ListN.{length}
use borrow.Author.Tests.{eqb-true, eqb-false, eq-eqb, ne_eqb}
use Rattle.std.specs.List.{starts_with}
use Rattle.laws.proofs.Truth.{both_right}
use Rattle.text.specs.Strings.{begins}

either_way : (a b : ℕ) → eqb a b ≡ eqb b a
either_way a b = go (eqb a b) refl
  where
    go : (t : Bool) → eqb a b ≡ t → t ≡ eqb b a
    go true e = sym (eq-eqb b a (sym (eqb-true a b e)))
    go false e = sym (ne_eqb b a (λ q. eqb-false a b e (sym q)))

pub starts_begins : (s x : List ℕ) → starts_with eqb s x ≡ begins s x
unfolding begins
starts_begins s [] = refl
starts_begins [] (b ∷ x) = refl
starts_begins (a ∷ s) (b ∷ x) = rw (either_way b a, starts_begins s x)

pub begins_length : (s x : List ℕ) → begins s x ≡ true → length x ≤ length s
unfolding begins
begins_length s [] e = omega arith
begins_length [] (b ∷ x) e = absurd (false≢true e)
begins_length (a ∷ s) (b ∷ x) e = omega (arith, begins_length s x (both_right (eqb a b) (begins s x) e))
