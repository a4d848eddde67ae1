use Rattle.std.proofs.Common.{◌≡◌, length, ◌+◌, ◌≤◌}
use Rattle.lines.specs.Lines.{body}
use Rattle.file_body.proofs.body_len.Given as goal

abbrev pub invariant-loop-block : goal.invariant-loop-block
invariant-loop-block l = record { within : length l.rest ≤ length l.file; same : length (body l.file) + length l.rest ≡ length l.file + length (body l.rest) }

abbrev pub decreases-loop-block : goal.decreases-loop-block
decreases-loop-block l = length l.rest
