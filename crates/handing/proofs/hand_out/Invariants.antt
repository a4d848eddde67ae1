use Prim.Native.Nat.{◌-◌}
use Rattle.handing.proofs.Handed.{Handing}
use Rattle.handing.proofs.hand_out.Given as goal

abbrev pub invariant-loop-i : goal.invariant-loop-i
invariant-loop-i l = Handing l.from l.n l.initial.to l.to l.i

abbrev pub decreases-loop-i : goal.decreases-loop-i
decreases-loop-i l = l.n - l.i
