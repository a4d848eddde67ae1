use Rattle.sign_finder.specs.Signs.{Quiet}
use Rattle.sign_finder.proofs.near.Given as goal

abbrev pub invariant-loop-i : goal.invariant-loop-i
invariant-loop-i l = Quiet l.s l.a l.b l.at l.i
