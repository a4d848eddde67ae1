-- A test that holds at each entry of a list, by computing it at each: one law for every table.
use mathlib.Core.Bool.{Bool, true, false, ◌&&◌}
use mathlib.Core.List.{List, [], ◌∷◌}
use Prim.Native.Nat.{ℕ, zero, suc, ◌<◌}
use native.Mathlib.Nat.{not-suc-le-zero, le_of_suc-le-suc}
use lib.ListN.{length, get_or}
use lib.Dec.{T}

pub and_left : (a b : Bool) → T (a && b) → T a
and_left true b t = tt
and_left false b t = t

pub and_right : (a b : Bool) → T (a && b) → T b
and_right true b t = t
and_right false b t = absurd t

abbrev pub passes_all : (ℕ → Bool) → List ℕ → Bool
passes_all f [] = true
passes_all f (x ∷ xs) = f x && passes_all f xs

pub at : (f : ℕ → Bool) (xs : List ℕ) → T (passes_all f xs) → (k : ℕ) → k < length xs → T (f (get_or xs k 0))
at f [] t k h = absurd (not-suc-le-zero h)
at f (x ∷ xs) t zero h = and_left (f x) (passes_all f xs) t
at f (x ∷ xs) t (suc k) h = at f xs (and_right (f x) (passes_all f xs) t) k (le_of_suc-le-suc h)
