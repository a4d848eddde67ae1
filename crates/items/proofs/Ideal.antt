-- One forward pass whose state is the open pieces of the tree themselves, nearest first, and what is then left of the file's
-- spots. No rule is opened here.
use mathlib.Core.Path.{◌≡◌, refl}
use mathlib.Core.Bool.{Bool, true, false}
use mathlib.Core.Option.{none, some}
use mathlib.Core.List.{List, [], ◌∷◌, ◌++◌, map, reverse_aux}
use Rattle.rules.specs.Terms.{Terms}
use Rattle.rules.specs.Tests.{Test, ◌if◌, Spot}
use Rattle.rules.specs.Rows.{Row, FieldRow, LowRow, Sorted, heading, field, low}
use Rattle.rules.specs.Tree.{Owned, Item, File}
use Rattle.rules.specs.LineRules.{nowhere, prelude, inside, rule1, rule4}
use Rattle.rules.specs.Blocks.{empty, closes, none_closes, block_above}
use Rattle.rules.specs.Said.{digest, head_of}
use Rattle.rules.specs.Spots.{own_tests, block_tests, rule16_at, head_tests, spot, low_spot, lows, field_spot, fields, head_spot, items, spots}
use Rattle.rules.specs.HeadingRules.{rule6_at}

-- an item ends a block; no item of the open block stands above; no block ends from here on
abbrev pub ends : Item → Bool
ends i = closes (digest i)

abbrev pub fresh : List Item → Bool
fresh above = empty (block_above (map digest above))

abbrev pub none_ends : List Item → Bool
none_ends is = none_closes (map digest is)

-- what is open: in each, first the items above that are complete
pub data Pieces : Type 0 where
  start : Pieces
  early : List (Owned FieldRow) → FieldRow → List LowRow → Pieces
  at_head : List Item → Row → List LowRow → Pieces
  at_field : List Item → Row → List LowRow → List (Owned FieldRow) → FieldRow → List LowRow → Pieces

abbrev pub closed : {A : Type 0} → A → List LowRow → Owned A
closed a ls = record { owner = a; below = reverse_aux ls [] }

abbrev pub item : Owned Row → List (Owned FieldRow) → Item
item g ups = record { head = g; fields = reverse_aux ups [] }

abbrev pub push : Pieces → Sorted → Pieces
push start (low l) = start
push start (field y) = early [] y []
push start (heading k) = at_head [] k []
push (early ups x ls) (low l) = early ups x (l ∷ ls)
push (early ups x ls) (field y) = early (closed x ls ∷ ups) y []
push (early ups x ls) (heading k) = at_head [] k []
push (at_head b h ls) (low l) = at_head b h (l ∷ ls)
push (at_head b h ls) (field y) = at_field b h ls [] y []
push (at_head b h ls) (heading k) = at_head (item (closed h ls) [] ∷ b) k []
push (at_field b h hl ups x ls) (low l) = at_field b h hl ups x (l ∷ ls)
push (at_field b h hl ups x ls) (field y) = at_field b h hl (closed x ls ∷ ups) y []
push (at_field b h hl ups x ls) (heading k) = at_head (item (closed h hl) (closed x ls ∷ ups) ∷ b) k []

module _ (terms : Terms) where
  -- the tests at a heading, with 16 decided: the pass holds a heading back for it
  unfoldable pub tests_as : Bool → List Item → Item → List Test
  tests_as z above i =
      (1 if rule1 i.head.owner) ∷ (4 if rule4 i.head.owner) ∷ (6 if rule6_at i.head)
      ∷ (own_tests terms (digest i) (head_of i.head) ++ ((16 if z) ∷ block_tests (map digest above) (digest i) (head_of i.head)))

  abbrev pub head_spot_as : Bool → List Item → Item → Spot
  head_spot_as z above i = spot i.head.owner.no (tests_as z above i)

  pub head_as : (above : List Item) (i : Item) (below : List Item) → head_spot terms above i below ≡ head_spot_as (rule16_at above i below) above i
  unfolding head_tests tests_as
  head_as above i below = refl

-- the heading that waits for 16 after an item, by whether the item ends its block and is the first of it
abbrev pub waits_at : (ends first : Bool) → List Spot → Spot → List Spot
waits_at true b r e = []
waits_at false true r e = e ∷ []
waits_at false false r e = r

-- what is complete when an item closes
abbrev pub out_at : (ends first : Bool) → List Spot → Spot → List Spot
out_at true b r e = r ++ (e ∷ [])
out_at false true r e = []
out_at false false r e = e ∷ []

abbrev pub under : {A : Type 0} → A → List LowRow → File → Owned A
under a ls f = record { owner = a; below = reverse_aux ls f.top }

module _ (terms : Terms) where
  -- the first heading of the open block, with its 16 decided
  abbrev pub waits : List Item → Bool → List Spot
  waits [] z = []
  waits (i ∷ ups) z = waits_at (ends i) (fresh ups) (waits ups z) (head_spot_as terms z ups i)

  abbrev pub heads_out : List Item → Item → List Spot
  heads_out ups i = out_at (ends i) (fresh ups) (waits ups false) (head_spot_as terms false ups i)

  -- what a line completes
  abbrev pub out : Pieces → Sorted → List Spot
  out start (low l) = low_spot nowhere l ∷ []
  out start (field y) = []
  out start (heading k) = []
  out (early ups x ls) (low l) = low_spot prelude l ∷ []
  out (early ups x ls) (field y) = field_spot terms none ups (closed x ls) ∷ []
  out (early ups x ls) (heading k) = field_spot terms none ups (closed x ls) ∷ []
  out (at_head b h ls) (low l) = low_spot inside l ∷ []
  out (at_head b h ls) (field y) = []
  out (at_head b h ls) (heading k) = heads_out b (item (closed h ls) [])
  out (at_field b h hl ups x ls) (low l) = low_spot inside l ∷ []
  out (at_field b h hl ups x ls) (field y) = field_spot terms (some (closed h hl)) ups (closed x ls) ∷ []
  out (at_field b h hl ups x ls) (heading k) =
      field_spot terms (some (closed h hl)) ups (closed x ls) ∷ heads_out b (item (closed h hl) (closed x ls ∷ ups))

  -- the file ends: the item closes, and who waits has 16
  abbrev pub last_out : List Item → Item → List Spot
  last_out b i = heads_out b i ++ waits (i ∷ b) true

  abbrev pub final : Pieces → List Spot
  final start = []
  final (early ups x ls) = field_spot terms none ups (closed x ls) ∷ []
  final (at_head b h ls) = last_out b (item (closed h ls) [])
  final (at_field b h hl ups x ls) =
      field_spot terms (some (closed h hl)) ups (closed x ls) ∷ last_out b (item (closed h hl) (closed x ls ∷ ups))

  -- what is declared and not yet out: of complete items with items below them, of an open item too, of all that is open
  abbrev pub pending : List Item → List Item → List Spot
  pending b is = waits b (none_ends is) ++ items terms b is

  abbrev pub heads : List Item → Item → List Item → List Spot
  heads b i is = heads_out b i ++ pending (i ∷ b) is

  abbrev pub left : Pieces → File → List Spot
  left start f = spots terms f
  left (early ups x ls) f =
      let g = under x ls f in
      field_spot terms none ups g ∷ (lows prelude f.top ++ (fields terms none (g ∷ ups) f.loose ++ items terms [] f.items))
  left (at_head b h ls) f =
      let g = under h ls f in
      lows inside f.top ++ (fields terms (some g) [] f.loose ++ heads b (record { head = g; fields = f.loose }) f.items)
  left (at_field b h hl ups x ls) f =
      let g = under x ls f in
      field_spot terms (some (closed h hl)) ups g
      ∷ (lows inside f.top
      ++ (fields terms (some (closed h hl)) (g ∷ ups) f.loose
      ++ heads b (record { head = closed h hl; fields = reverse_aux (g ∷ ups) f.loose }) f.items))
