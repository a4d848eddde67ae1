use Prim.Native.Nat.{◌≤◌}
use mathlib.Core.Path.{◌≡◌}
use Rattle.fields.proofs.Places.{filled}
use Rattle.fields.proofs.kinds.places.Given as goal

abbrev pub invariant-loop-k : goal.invariant-loop-k
invariant-loop-k l = (l.k ≤ 36) × (l.t ≡ filled l.k)
