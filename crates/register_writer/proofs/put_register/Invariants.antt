use Prim.Native.Nat.{◌+◌, ◌*◌}
use mathlib.Core.Path.{◌≡◌}
use lib.ListN.{length}
use Rattle.register_writer.proofs.Putting.{So}
use Rattle.register_writer.proofs.put_register.Given as goal

abbrev pub invariant-loop-i : goal.invariant-loop-i
invariant-loop-i l = So l.initial.out l.initial.at l.starts l.ends l.i l.out l.at × (l.at ≡ l.initial.at + 12 * l.i) × (length l.out ≡ length l.initial.out)
