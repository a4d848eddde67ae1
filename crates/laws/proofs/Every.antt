-- A list of tests: where all hold, each one does.
use mathlib.Core.Path.{◌≡◌, refl}
use mathlib.Core.Bool.{Bool, true, false, false≢true}
use mathlib.Core.List.{List, [], ◌∷◌}
use Prim.Native.Nat.{ℕ, zero, suc}
use lib.ListN.{get_or}
use Rattle.laws.specs.Tests.{every}

-- where all hold, so does the one at a place
pub each_holds : (bs : List Bool) → every bs ≡ true → (k : ℕ) → get_or bs k true ≡ true
each_holds [] e k = refl
each_holds (true ∷ bs) e zero = refl
each_holds (true ∷ bs) e (suc k) = each_holds bs e k
each_holds (false ∷ bs) e zero = e
each_holds (false ∷ bs) e (suc k) = absurd (false≢true e)
