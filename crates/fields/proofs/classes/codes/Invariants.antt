use Rattle.std.proofs.Common.{◌≡◌, ◌-◌, ◌≤◌}
use Rattle.fields.proofs.Codes.{grouped}
use Rattle.fields.proofs.classes.codes.Given as goal

abbrev pub invariant-loop-group : goal.invariant-loop-group
invariant-loop-group l = (l.group ≤ 1018) × (l.t ≡ grouped (l.group - 1008))
