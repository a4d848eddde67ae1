use mathlib.Core.Path.{ap}
use mathlib.Core.Bool.{false}
use mathlib.Core.List.{List}
use Prim.Native.Nat.{ℕ}
use Rattle.joining.specs.declared.Held.{Held}
use Rattle.joining.proofs.Padded.{padded_none}
use Rattle.joining.proofs.none.Goals as goal

pub returns : goal.returns
returns c = ap {B = Held} (λ (l : List ℕ). record { text = l; len = 0; cr = false }) padded_none
