use Prim.Native.Nat.{◌-◌}
use lib.ListN.{length}
use Rattle.surveying.proofs.Counting.{Count}
use Rattle.surveying.proofs.count_items.Given as goal

abbrev pub invariant-loop-at : goal.invariant-loop-at
invariant-loop-at l = Count l.s l.n l.at

abbrev pub decreases-loop-at : goal.decreases-loop-at
decreases-loop-at l = length l.s - l.at
