use Rattle.std.proofs.Common.{◌≡◌}
use Rattle.lines.specs.Reading.{after, line_at}
use Rattle.lines.proofs.line_by_bytes.Given as goal

abbrev pub invariant-loop-i : goal.invariant-loop-i
invariant-loop-i l = after l.before (line_at l.s l.at) ≡ after l.odd (line_at l.s l.i)
