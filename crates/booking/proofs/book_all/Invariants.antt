use Prim.Native.Nat.{◌-◌}
use lib.ListN.{length}
use Rattle.booking.proofs.Walks.{Walk}
use Rattle.booking.proofs.book_all.Given as goal

abbrev pub invariant-loop-at : goal.invariant-loop-at
invariant-loop-at l = Walk l.codes l.initial.ts l.s l.ts l.t l.at

abbrev pub decreases-loop-at : goal.decreases-loop-at
decreases-loop-at l = length l.s - l.at
