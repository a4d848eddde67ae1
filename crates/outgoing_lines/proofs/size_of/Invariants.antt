use Rattle.std.proofs.Common.{length, ◌-◌}
use Rattle.outgoing_lines.proofs.Loops.{Sizing}
use Rattle.outgoing_lines.proofs.size_of.Given as goal

abbrev pub invariant-loop-at : goal.invariant-loop-at
invariant-loop-at l = Sizing l.s l.outcomes l.size l.k l.o l.at

abbrev pub decreases-loop-at : goal.decreases-loop-at
decreases-loop-at l = length l.s - l.at
