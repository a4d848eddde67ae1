use Prim.Native.Nat.{◌+◌, ◌-◌, ◌*◌}
use mathlib.Core.Path.{◌≡◌}
use lib.ListN.{length}
use Rattle.gathering.proofs.Items.{Keeping}
use Rattle.gathering.proofs.keep.Given as goal

abbrev pub invariant-loop-i : goal.invariant-loop-i
invariant-loop-i l = Keeping l.register l.day l.n l.starts l.ends l.k (13 + 12 * l.i) (l.n - l.i) × (length l.starts ≡ length l.initial.starts) × (length l.ends ≡ length l.initial.ends)
