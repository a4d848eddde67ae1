use Prim.Native.Nat.{◌+◌, ◌-◌}
use mathlib.Core.Path.{◌≡◌}
use lib.ListN.{length}
use Rattle.merging.proofs.Turns.{Going}
use Rattle.merging.proofs.merge.Given as goal

abbrev pub invariant-loop-i : goal.invariant-loop-i
invariant-loop-i l = Going l.keys l.starts l.ends l.from l.to l.count l.i l.j (length l.keys + length l.starts - (l.i + l.j)) l.froms l.tos × (length l.froms ≡ length l.initial.froms) × (length l.tos ≡ length l.initial.tos)

abbrev pub decreases-loop-i : goal.decreases-loop-i
decreases-loop-i l = length l.keys + length l.starts - (l.i + l.j)
