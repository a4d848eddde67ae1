use Rattle.std.proofs.Common.{◌-◌, ◌≤◌, length, ℕ}
use Rattle.vetting.proofs.Tail.{Tailing}
use Rattle.vetting.proofs.own_field.tail_end.Given as goal

abbrev pub invariant-loop-l : goal.invariant-loop-l
invariant-loop-l l = record {
  from : l.at ≤ l.p;
  within : l.p ≤ length l.s;
  tailing : (n : ℕ) → Tailing l.s l.at n l.class l.p l.tail;
}

abbrev pub decreases-loop-l : goal.decreases-loop-l
decreases-loop-l l = length l.s - l.p
