use Rattle.std.proofs.Common.{◌≡◌, ◌+◌, ◌≤◌, ◌^◌}
use Rattle.blocks.proofs.Ten.{marks_to}
use Rattle.blocks.proofs.groups.group_marks.Given as goal

abbrev pub invariant-loop-d : goal.invariant-loop-d
invariant-loop-d l = (l.marks ≡ marks_to l.counts l.sums l.groups l.d) × (l.marks + 2 ^ 30 ≤ 2 ^ (30 + l.d))
