-- The set of marks of each line below a heading, as the sum in which the code makes it.
use Prim.Native.Nat.{ℕ, ◌+◌}
use mathlib.Core.Path.{◌≡◌, ◌∙◌}
use mathlib.Core.List.{List}
use native.Mathlib.Omega.{arith}
use lib.ListN.{length}
use Rattle.laws.specs.Tests.{mark}
use Rattle.lines.specs.Lines.{body, lines}
use Rattle.rules.specs.Terms.{Terms}
use Rattle.rules.specs.Rows.{FieldRow, LowRow, rows_from}
use Rattle.rules.specs.Tree.{Owned, tree}
use Rattle.rules.specs.LineRules.{Place, prelude, rule2, rule3}
use Rattle.rules.specs.FieldRules.{rule5, rule6, rule7, rule8_at, rule9_at, rule23, rule24}
use Rattle.rules.specs.Spots.{low_tests, field_tests, loose_tests}
use Rattle.rules.specs.Faults.{faults}
use Rattle.rules.specs.Demand.{spots_of}
use Rattle.rules.proofs.Orderly.{spots_orderly}
use Rattle.rules.proofs.Demand.{total_of_sizes}
use Rattle.ledger.specs.Marks.{set_of, set_sizes}
use Rattle.ledger.proofs.Faults.{sizes_of_sets}
use Rattle.closing.proofs.Sets.{line_marks}
use Rattle.headings.specs.declared.Heading.{Heading}
use Rattle.std.specs.Prelude.{Option}

unfoldable pub low_marks : Place → LowRow → ℕ
low_marks p l = line_marks l.row + mark 2 (rule2 p l) + mark 3 (rule3 p)

pub low_set : (p : Place) (l : LowRow) → set_of (low_tests p l) ≡ low_marks p l
unfolding low_tests low_marks line_marks
low_set p l = omega arith

unfoldable pub field_marks : Terms → Option Heading → List (Owned FieldRow) → Owned FieldRow → ℕ
field_marks terms h above g =
    line_marks g.owner.row
    + (mark 5 (rule5 above g) + mark 6 (rule6 g) + mark 7 (rule7 g) + mark 8 (rule8_at terms h above g) + mark 9 (rule9_at h above g) + mark 23 (rule23 g) + mark 24 (rule24 g))

pub field_set : (terms : Terms) (h : Option Heading) (above : List (Owned FieldRow)) (g : Owned FieldRow) → set_of (field_tests terms h above g) ≡ field_marks terms h above g
unfolding field_tests field_marks line_marks
field_set terms h above g = omega arith

unfoldable pub loose_marks : Owned FieldRow → ℕ
loose_marks g = line_marks g.owner.row + mark 3 (rule3 prelude)

pub loose_set : (g : Owned FieldRow) → set_of (loose_tests g) ≡ loose_marks g
unfolding loose_tests loose_marks line_marks
loose_set g = omega arith

-- 'the total is the sum of their sizes': of each line's set of marks, whose size is its count of ones
pub total_of_sets : (terms : Terms) (file : List ℕ) → length (faults terms file) ≡ set_sizes (spots_of terms file)
total_of_sets terms file = total_of_sizes terms file ∙ sizes_of_sets (spots_of terms file) (spots_orderly terms (tree (rows_from 1 (lines (body file)))))
