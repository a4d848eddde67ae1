-- The table's cells: a test that is computed at every row and every outcome holds at each. By it an
-- outgoing type has two digits.
use mathlib.Core.Path.{◌≡◌, refl}
use mathlib.Core.Bool.{Bool, true, false, cond, ◌&&◌}
use mathlib.Core.List.{List, [], ◌∷◌}
use Prim.Native.Nat.{ℕ, ◌-◌, ◌≤◌, ◌<◌}
use lib.ListN.{get_or}
use lib.Dec.{T, eqb, ltb}
use borrow.Author.Tests.{ltb-true}
use Rattle.laws.proofs.Entries.{and_left, and_right}
use Rattle.outcome_tables.specs.Outcomes.{TypeRow, row, table, entries, outgoing}
use Rattle.outcome_tables.proofs.Seven.{seven}

-- what every row and the empty one have, the row of a type has
abbrev each : (List ℕ → Bool) → List TypeRow → Bool
each f [] = f []
each f (row k es ∷ rs) = f es && each f rs

at : (f : List ℕ → Bool) (rs : List TypeRow) → T (each f rs) → (k : ℕ) → T (f (entries rs k))
at f [] t k = t
at f (row j es ∷ rs) t k = go (eqb k j) (at f rs (and_right (f es) (each f rs) t) k)
  where
    go : (b : Bool) → T (f (entries rs k)) → T (f (cond b es (entries rs k)))
    go true r = and_left (f es) (each f rs) t
    go false r = r

true_of : (b : Bool) → T b → b ≡ true
true_of true t = refl
true_of false t = absurd t

abbrev short : ℕ → List ℕ → Bool
short o es = ltb (get_or es (o - 1) 0) 100

module _ (kind o : ℕ) (l : 1 ≤ o) (h : o ≤ 7) where
  pub two_digits : outgoing kind o < 100
  unfolding outgoing
  two_digits = ltb-true _ _ (true_of _ (at (short o) table (seven (λ o. T (each (short o) table)) tt tt tt tt tt tt tt o l h) kind))
