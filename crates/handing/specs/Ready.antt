-- The test whether two slices hold pairs in order.
use Rattle.std.specs.Prelude.{ℕ, Bool, true, ◌&&◌, List, [], ◌∷◌, length, leb, eqb}
use Rattle.rules.specs.Faults.{Fault}
use Rattle.ledger.specs.Marks.{key}
use Rattle.ledger.specs.Slices.{held}

-- no key is below k, nor below the one before it
abbrev pub ascends : ℕ → List Fault → Bool
ascends k [] = true
ascends k (x ∷ xs) = leb k (key x) && ascends (key x) xs

-- the n pairs are there, the slices are of one length, and the pairs are in order
unfoldable pub is_ready : ℕ → List ℕ → List ℕ → Bool
is_ready n ls rs = leb n (length ls) && (eqb (length ls) (length rs) && ascends 0 (held n ls rs))
