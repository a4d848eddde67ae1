-- A row of tests `(x == a) | (x == b) | ..`, as code writes it, says whether x stands in the list.
use mathlib.Core.Path.{◌≡◌, refl, sym, ◌∙◌}
use mathlib.Core.Bool.{Bool, false, ◌||◌, or_assoc, or-false}
use mathlib.Core.List.{List, [], ◌∷◌}
use Prim.Native.Nat.{ℕ}
use lib.Dec.{eqb}
use Rattle.laws.specs.Tests.{among}

-- the row, taken from the left, after tests that say b
abbrev onward : Bool → ℕ → List ℕ → Bool
onward b x [] = b
onward b x (y ∷ ys) = onward (b || eqb x y) x ys

abbrev tests : ℕ → List ℕ → Bool
tests x [] = false
tests x (y ∷ ys) = onward (eqb x y) x ys

onward_is : (b : Bool) (x : ℕ) (ys : List ℕ) → onward b x ys ≡ (b || among x ys)
onward_is b x [] = sym (or-false b)
onward_is b x (y ∷ ys) = onward_is (b || eqb x y) x ys ∙ or_assoc b (eqb x y) (among x ys)

pub one_of : (x : ℕ) (ys : List ℕ) → tests x ys ≡ among x ys
one_of x [] = refl
one_of x (y ∷ ys) = onward_is (eqb x y) x ys
