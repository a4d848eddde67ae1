use Prim.Native.Nat.{◌+◌, ◌-◌, ◌*◌}
use mathlib.Core.Path.{◌≡◌}
use mathlib.Core.Bool.{◌&&◌}
use lib.ListN.{drop}
use Rattle.register.specs.Register.{all_stand, in_order, ranges_in}
use Rattle.register_reader.proofs.Standing.{after}
use Rattle.register_reader.proofs.ranges_stand.Given as goal

abbrev pub invariant-loop-i : goal.invariant-loop-i
invariant-loop-i l = (all_stand l.latest (ranges_in l.n (drop 13 l.s)) && in_order (ranges_in l.n (drop 13 l.s))) ≡ after l.latest l.day l.last (ranges_in (l.n - l.i) (drop (13 + 12 * l.i) l.s))
