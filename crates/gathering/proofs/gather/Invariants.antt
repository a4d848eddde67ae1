use Prim.Native.Nat.{◌-◌}
use mathlib.Core.Path.{◌≡◌}
use lib.ListN.{length}
use Rattle.text.specs.Digits.{value}
use Rattle.words.specs.Words.{bytes_of}
use Rattle.gathering.proofs.Items.{Gathering}
use Rattle.gathering.proofs.gather.Given as goal

abbrev pub invariant-loop-at : goal.invariant-loop-at
invariant-loop-at l = Gathering l.s l.keys l.n l.at × (length l.keys ≡ length l.initial.keys) × (value (bytes_of 8 l.word) ≡ l.day)

abbrev pub decreases-loop-at : goal.decreases-loop-at
decreases-loop-at l = length l.s - l.at
