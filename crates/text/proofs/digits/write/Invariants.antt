use Prim.Native.Nat.{◌+◌, ◌-◌, ◌/◌, ◌^◌, ◌≤◌}
use mathlib.Core.Path.{◌≡◌}
use Rattle.text.proofs.Writing.{written}
use Rattle.text.proofs.digits.write.Given as goal

abbrev pub invariant-loop-i : goal.invariant-loop-i
invariant-loop-i l = record {
  from : l.at ≤ l.i;
  text : l.s ≡ written l.initial.s (l.at + l.n) l.i l.value;
  left : l.rest ≡ l.value / 10 ^ (l.at + l.n - l.i);
}
