-- Which rules are tested at which line, each under its number, and all lines of a file in their order. What stands above a line is listed
-- with the nearest first.
use Rattle.std.specs.Prelude.{ℕ, Bool, List, [], ◌∷◌, ◌++◌, map, None, Option, Some}
use Rattle.std.proofs.Math.Option.{Option as Maybe, none, some}
use Rattle.headings.specs.HeadRules.{rule10, rule13, rule14}
use Rattle.lines.specs.Lines.{lines}
use Rattle.rules.specs.declared.Digest.{Digest}
use Rattle.rules.specs.Terms.{Terms}
use Rattle.rules.specs.Rows.{Row, FieldRow, LowRow, rows_from}
use Rattle.rules.specs.Tree.{Owned, Item, File, tree}
use Rattle.rules.specs.Said.{head_of, digest}
use Rattle.rules.specs.Tests.{Test, ◌if◌, Spot}
use Rattle.rules.specs.LineRules.{Place, nowhere, prelude, inside, rule1, rule2, rule3, rule4}
use Rattle.rules.specs.FieldRules.{rule5, rule6, rule7, rule8_at, rule9_at, rule23, rule24}
use Rattle.rules.specs.HeadingRules.{rule6_at, rule11, rule12, rule15}
use Rattle.rules.specs.BlockRules.{rule16, rule17, rule18, rule19, rule20, rule21, rule30}
use Rattle.headings.specs.declared.Heading.{Heading}

-- ---- the tests at a line
-- at a continuation, or a line of no kind
unfoldable pub low_tests : Place → LowRow → List Test
low_tests p l =
    (1 if rule1 l.row) ∷
    (2 if rule2 p l) ∷
    (3 if rule3 p) ∷
    (4 if rule4 l.row) ∷ []

-- at a field of an item, by what its heading reads as and the fields above it
unfoldable pub field_tests : Terms → Option Heading → List (Owned FieldRow) → Owned FieldRow → List Test
field_tests terms h above g =
    (1 if rule1 g.owner.row) ∷
    (4 if rule4 g.owner.row) ∷
    (5 if rule5 above g) ∷
    (6 if rule6 g) ∷
    (7 if rule7 g) ∷
    (8 if rule8_at terms h above g) ∷
    (9 if rule9_at h above g) ∷
    (23 if rule23 g) ∷
    (24 if rule24 g) ∷ []

-- at a field above the first heading: 5 to 9, and so 23 and 24, are of 'Fields inside items'
unfoldable pub loose_tests : Owned FieldRow → List Test
loose_tests g =
    (1 if rule1 g.owner.row) ∷
    (3 if rule3 prelude) ∷
    (4 if rule4 g.owner.row) ∷ []

-- at a heading, 10 to 15: 'At a readable heading'
unfoldable pub own_tests : Terms → Digest → Option Heading → List Test
own_tests terms it None = []
own_tests terms it (Some h) =
    (10 if rule10 h) ∷
    (11 if rule11 terms h) ∷
    (12 if rule12 terms h) ∷
    (13 if rule13 h) ∷
    (14 if rule14 h) ∷
    (15 if rule15 h it.kc) ∷ []

-- 17 to 21 and 30 to 39, by the items above: these 'concern readable headings'
unfoldable pub block_tests : List Digest → Digest → Option Heading → List Test
block_tests above it None = []
block_tests above it (Some h) =
    (17 if rule17 above h) ∷
    (18 if rule18 above h) ∷
    (19 if rule19 above h) ∷
    (20 if rule20 above h) ∷
    (21 if rule21 above h it.span) ∷
    (30 if rule30 0 above h it.sums) ∷
    (31 if rule30 1 above h it.sums) ∷
    (32 if rule30 2 above h it.sums) ∷
    (33 if rule30 3 above h it.sums) ∷
    (34 if rule30 4 above h it.sums) ∷
    (35 if rule30 5 above h it.sums) ∷
    (36 if rule30 6 above h it.sums) ∷
    (37 if rule30 7 above h it.sums) ∷
    (38 if rule30 8 above h it.sums) ∷
    (39 if rule30 9 above h it.sums) ∷ []

-- 16, at any heading, by the items above and below
abbrev pub rule16_at : List Item → Item → List Item → Bool
rule16_at above i below = rule16 (map digest above) (digest i) (map digest below)

-- all of them at the heading of an item, by the items above and below it
unfoldable pub head_tests : Terms → List Item → Item → List Item → List Test
head_tests terms above i below =
    (1 if rule1 i.head.owner) ∷
    (4 if rule4 i.head.owner) ∷
    (6 if rule6_at i.head) ∷
    (own_tests terms (digest i) (head_of i.head) ++
    ((16 if rule16_at above i below) ∷
    block_tests (map digest above) (digest i) (head_of i.head)))

-- ---- the lines of a file
abbrev pub spot : ℕ → List Test → Spot
spot n ts = record { line = n; tests = ts }

unfoldable pub low_spot : Place → LowRow → Spot
low_spot p l = spot l.row.no (low_tests p l)

abbrev pub lows : Place → List LowRow → List Spot
lows p [] = []
lows p (l ∷ ls) = low_spot p l ∷ lows p ls

abbrev pub place_in : Maybe (Owned Row) → Place
place_in none = prelude
place_in (some h) = inside

module _ (terms : Terms) where
  -- a field, with the heading of its item if it has one, and the fields above it there
  abbrev pub field_tests_in : Maybe (Owned Row) → List (Owned FieldRow) → Owned FieldRow → List Test
  field_tests_in none above g = loose_tests g
  field_tests_in (some h) above g = field_tests terms (head_of h) above g

  unfoldable pub field_spot : Maybe (Owned Row) → List (Owned FieldRow) → Owned FieldRow → Spot
  field_spot h above g = spot g.owner.row.no (field_tests_in h above g)

  abbrev pub fields : Maybe (Owned Row) → List (Owned FieldRow) → List (Owned FieldRow) → List Spot
  fields h above [] = []
  fields h above (g ∷ gs) = field_spot h above g ∷ (lows (place_in h) g.below ++ fields h (g ∷ above) gs)

  -- all lines of an item but its heading
  abbrev pub inner : Item → List Spot
  inner i = lows inside i.head.below ++ fields (some i.head) [] i.fields

  -- a heading, with the items above and below its own
  abbrev pub head_spot : List Item → Item → List Item → Spot
  head_spot above i below = spot i.head.owner.no (head_tests terms above i below)

  abbrev pub items : List Item → List Item → List Spot
  items above [] = []
  items above (i ∷ below) = head_spot above i below ∷ (inner i ++ items (i ∷ above) below)

  -- all lines of a file
  abbrev pub spots : File → List Spot
  spots f = lows nowhere f.top ++ (fields none [] f.loose ++ items [] f.items)

  -- those of the bytes before the end mark
  abbrev pub spots_in : List ℕ → List Spot
  spots_in s = spots (tree (rows_from 1 (lines s)))
