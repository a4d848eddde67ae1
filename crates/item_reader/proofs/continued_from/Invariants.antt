use Rattle.std.proofs.Common.{length, ◌-◌, ◌≡◌, ℕ, ◌≤◌, drop}
use Rattle.lines.specs.Lines.{lines}
use Rattle.item_reader.proofs.Passing.{top_in}
use Rattle.item_reader.proofs.continued_from.Given as goal

abbrev pub invariant-loop-place : goal.invariant-loop-place
invariant-loop-place l = (l.place ≤ length l.s) × ((n : ℕ) → top_in n (lines (drop l.at l.s)) ≡ top_in n (lines (drop l.place l.s)))

abbrev pub decreases-loop-place : goal.decreases-loop-place
decreases-loop-place l = length l.s - l.place
