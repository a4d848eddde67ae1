use Rattle.std.proofs.Common.{◌≡◌, ◌-◌, length}
use Rattle.words.specs.Words.{flagged}
use Rattle.lines.specs.Reading.{after, line_at}
use Rattle.lines.proofs.line_at.Given as goal

abbrev pub invariant-loop-i : goal.invariant-loop-i
invariant-loop-i l = line_at l.s l.at ≡ after (flagged l.odd) (line_at l.s l.i)

abbrev pub decreases-loop-i : goal.decreases-loop-i
decreases-loop-i l = length l.s - l.i
