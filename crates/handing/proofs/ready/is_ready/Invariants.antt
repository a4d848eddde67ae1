use Rattle.handing.proofs.Order.{Looking}
use Rattle.handing.proofs.ready.is_ready.Given as goal

abbrev pub invariant-loop-i : goal.invariant-loop-i
invariant-loop-i l = Looking l.n l.lines l.rules l.low l.i
