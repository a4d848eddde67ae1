use Rattle.std.proofs.Common.{◌≡◌, ◌+◌, ◌*◌, ◌≤◌, length}
use Rattle.closing_lines.proofs.Rows.{SumsSoFar}
use Rattle.closing_lines.proofs.put_groups.Given as goal

abbrev pub invariant-loop-group : goal.invariant-loop-group
invariant-loop-group l = record {
  written : SumsSoFar l.initial.out l.initial.next l.counts l.sums l.group l.out l.next;
  within : l.next ≤ l.initial.next + 65 * l.group;
  long : length l.out ≡ length l.initial.out;
}
