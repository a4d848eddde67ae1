use Rattle.number_reader.proofs.Scanning.{Going}
use Rattle.number_reader.proofs.number_at.Given as goal

abbrev pub invariant-loop-i : goal.invariant-loop-i
invariant-loop-i l = Going l.t l.at l.most l.stop l.v l.i
