use Rattle.std.proofs.Common.{◌+◌, ◌-◌, ◌≤◌, length}
use Rattle.accounts_table.proofs.show_all.Given as goal

abbrev pub invariant-loop-at : goal.invariant-loop-at
invariant-loop-at _ l = (l.at ≤ length l.s + 1) × (l.hold ≤ l.at) × (l.fail ≤ l.at) × (l.differ ≤ l.at)

abbrev pub decreases-loop-at : goal.decreases-loop-at
decreases-loop-at _ l = length l.s + 1 - l.at
