use mathlib.Core.Path.{◌≡◌}
use Rattle.text.proofs.Admissible.{others_to}
use Rattle.text.proofs.characters.table.Given as goal

abbrev pub invariant-loop-b : goal.invariant-loop-b
invariant-loop-b l = l.t ≡ others_to l.b-index
