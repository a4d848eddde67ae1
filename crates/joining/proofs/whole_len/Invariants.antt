use Rattle.joining.proofs.Behind.{Sought}
use Rattle.joining.proofs.whole_len.Given as goal

abbrev pub invariant-loop-end : goal.invariant-loop-end
invariant-loop-end l = Sought l.s l.end
