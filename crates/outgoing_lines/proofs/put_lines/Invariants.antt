use Rattle.std.proofs.Common.{length, ◌-◌}
use Rattle.outgoing_lines.proofs.Loops.{Putting}
use Rattle.outgoing_lines.proofs.put_lines.Given as goal

abbrev pub invariant-loop-at : goal.invariant-loop-at
invariant-loop-at l =
    Putting (record { outcomes = l.outcomes; standings = l.standings; start = l.start }) l.s l.initial.out l.out l.next l.k l.o l.at

abbrev pub decreases-loop-at : goal.decreases-loop-at
decreases-loop-at l = length l.s - l.at
