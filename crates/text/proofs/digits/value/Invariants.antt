use Prim.Native.Nat.{◌^◌, ◌<◌}
use mathlib.Core.Path.{◌≡◌}
use mathlib.Core.Bool.{true}
use lib.ListN.{drop}
use Rattle.text.specs.Digits.{all_are_digits, value_after, value}
use Rattle.text.proofs.digits.value.Given as goal

abbrev pub invariant-loop-digit : goal.invariant-loop-digit
invariant-loop-digit l = record {
  to_come : all_are_digits (drop l.digit-index l.s) ≡ true;
  known : value l.s ≡ value_after l.v (drop l.digit-index l.s);
  small : l.v < 10 ^ l.digit-index;
}
