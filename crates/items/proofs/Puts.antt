-- What each line of the pass puts out, as the field and the item that it closes.
use mathlib.Core.Path.{◌≡◌, refl}
use mathlib.Core.Bool.{true}
use mathlib.Core.Option.{none, some}
use mathlib.Core.List.{List, [], ◌∷◌, ◌++◌}
use Rattle.rules.specs.Terms.{Terms}
use Rattle.rules.specs.Tests.{Spot}
use Rattle.rules.specs.Rows.{Row, FieldRow, heading, field}
use Rattle.rules.specs.Tree.{Item}
use Rattle.rules.specs.Spots.{field_spot}
use Rattle.items.proofs.Ideal.{start, early, at_head, at_field, closed, item, waits, heads_out, out, final, Pieces}

-- the items above that are complete
abbrev pub above : Pieces → List Item
above start = []
above (early ups x ls) = []
above (at_head b h ls) = b
above (at_field b h hl ups x ls) = b

-- the items above once the open one has closed
abbrev pub above_then : Pieces → List Item
above_then start = []
above_then (early ups x ls) = []
above_then (at_head b h ls) = item (closed h ls) [] ∷ b
above_then (at_field b h hl ups x ls) = item (closed h hl) (closed x ls ∷ ups) ∷ b

module _ (terms : Terms) where
  -- the open field, once it closes
  abbrev pub fields_out : Pieces → List Spot
  fields_out start = []
  fields_out (early ups x ls) = field_spot terms none ups (closed x ls) ∷ []
  fields_out (at_head b h ls) = []
  fields_out (at_field b h hl ups x ls) = field_spot terms (some (closed h hl)) ups (closed x ls) ∷ []

  -- what the open item completes
  abbrev pub items_out : Pieces → List Spot
  items_out start = []
  items_out (early ups x ls) = []
  items_out (at_head b h ls) = heads_out terms b (item (closed h ls) [])
  items_out (at_field b h hl ups x ls) = heads_out terms b (item (closed h hl) (closed x ls ∷ ups))

  pub field_puts : (c : Pieces) (y : FieldRow) → out terms c (field y) ≡ fields_out c
  field_puts start y = refl
  field_puts (early ups x ls) y = refl
  field_puts (at_head b h ls) y = refl
  field_puts (at_field b h hl ups x ls) y = refl

  pub head_puts : (c : Pieces) (k : Row) → out terms c (heading k) ≡ fields_out c ++ items_out c
  head_puts start k = refl
  head_puts (early ups x ls) k = refl
  head_puts (at_head b h ls) k = refl
  head_puts (at_field b h hl ups x ls) k = refl

  pub final_puts : (c : Pieces) → final terms c ≡ (fields_out c ++ items_out c) ++ waits terms (above_then c) true
  final_puts start = refl
  final_puts (early ups x ls) = refl
  final_puts (at_head b h ls) = refl
  final_puts (at_field b h hl ups x ls) = refl
