use mathlib.Core.Path.{◌≡◌}
use mathlib.Core.Bool.{false}
use Rattle.sign_finder.specs.Signs.{Apart}
use Rattle.sign_finder.proofs.holds_pair.Given as goal

abbrev pub invariant-loop-i : goal.invariant-loop-i
invariant-loop-i l = l.found ≡ false → Apart l.s l.a l.b l.i
