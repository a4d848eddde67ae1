use Rattle.figures.proofs.Reading.{Read}
use Rattle.figures.proofs.parts.weighed_at.Given as goal

abbrev pub invariant-loop-i : goal.invariant-loop-i
invariant-loop-i l = Read l.t l.at l.most l.stop l.sum l.any l.i
