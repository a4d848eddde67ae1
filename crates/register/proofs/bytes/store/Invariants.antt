use Prim.Native.Nat.{◌+◌, ◌-◌, ◌/◌, ◌^◌, ◌≤◌}
use mathlib.Core.Path.{◌≡◌}
use lib.ListN.{length}
use Rattle.register.proofs.Backwards.{written}
use Rattle.register.proofs.bytes.store.Given as goal

abbrev pub invariant-loop-p : goal.invariant-loop-p
invariant-loop-p l = (length l.s ≡ length l.initial.s) × (l.s ≡ written l.initial.s (l.at + l.n) l.p l.value) × (l.v ≡ l.value / 256 ^ (l.at + l.n - l.p)) × (l.at ≤ l.p)
