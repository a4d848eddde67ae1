use mathlib.Core.Path.{◌≡◌}
use Prim.Native.Nat.{ℕ}
use lib.ListN.{length}
use Rattle.ledger.specs.Slices.{Kept}
use Rattle.ledger.proofs.Entering.{Entering}
use Rattle.ledger.proofs.enter.Given as goal

abbrev pub invariant-loop-m : goal.invariant-loop-m
invariant-loop-m l = Entering l.initial.lines l.initial.rules l.initial.kept l.line l.marks l.lines l.rules l.kept l.m × (length l.offsets ≡ length l.initial.offsets) × Kept (λ (off : ℕ → ℕ). off l.line ≡ l.at) l.initial.kept l.initial.lines l.initial.offsets l.kept l.lines l.offsets

abbrev pub decreases-loop-m : goal.decreases-loop-m
decreases-loop-m l = l.m
