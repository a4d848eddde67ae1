-- The lines that go out for the items of a slice (document 02, A7): 'first fields derived, the item's other lines unaltered'.
use Rattle.std.specs.Prelude.{ℕ, suc, ◌+◌, Bool, false, cond, not, ◌||◌, List, [], ◌∷◌, ◌++◌, eqb, drop, get_or}
use Rattle.laws.specs.Ascii.{ascii}
use Rattle.laws.specs.Refusals.{first}
use Rattle.headings.specs.declared.ItemNo.{ItemNo}
use Rattle.headings.specs.Reading.{heading_of}
use Rattle.outcomes.specs.Deriving.{derive_refusals, outgoing_text}
use Rattle.fields.specs.Kinds.{named}
use Rattle.lines.specs.Lines.{lines}
use Rattle.lines.specs.Texts.{rows_text}
use Rattle.rules.specs.Rows.{FieldRow, Sorted, heading, field, low, rows_from}
use Rattle.rules.specs.Tree.{Item}

-- what comes with the items: an outcome and a standing for each, and the output number of the first
pub record Orders : Type 0 where
  pub outcomes : List ℕ
  pub standings : List ℕ
  pub start : ℕ

-- 'An outcome 8, here only .. derives as 6 does'
abbrev pub as_derived : ℕ → ℕ
as_derived o = cond (eqb o 8) 6 o

-- 'the caller's own EC bytes or the caller's replacement bytes, as the outcome says': its own are what stands on its EC line behind the colon
abbrev pub ec_bytes : List ℕ → List ℕ → ℕ → List ℕ
ec_bytes own replacement o = cond (eqb o 8) replacement (drop 3 own)

-- the EC line with them
abbrev pub ec_text : List ℕ → List ℕ → ℕ → List ℕ
ec_text own replacement o = ascii "EC:" ++ ec_bytes own replacement o

-- 'ten nines'
abbrev pub nines : List ℕ
nines = ascii "9999999999"

-- a field of an item with outcome o: 'an EC line's number becomes ten nines'
unfoldable pub field_after : ℕ → FieldRow → List ℕ
field_after o x =
    cond (eqb x.ident (named "EC")) (ec_text x.row.bytes nines o) x.row.bytes

module _ (q : Orders) where
  -- of the item that k others stand above: its outcome, its sender's standing, its number ('Output numbers run unbroken from a given start')
  abbrev pub outcome_at : ℕ → ℕ
  outcome_at k = get_or q.outcomes k 0

  abbrev pub standing_at : ℕ → ℕ
  standing_at k = get_or q.standings k 0

  abbrev pub number_at : ℕ → ItemNo
  number_at k = record { 0 = q.start + k }

  -- 'an item is refused by deriving': from its heading's text
  unfoldable pub underived : ℕ → List ℕ → Bool
  underived k text = not (eqb (first (derive_refusals text (as_derived (outcome_at k)) (standing_at k) (number_at k) 54)) 0)

  -- its heading, derived
  unfoldable pub heading_after : ℕ → List ℕ → List ℕ
  heading_after k text = outgoing_text (heading_of text) (as_derived (outcome_at k)) (number_at k)

  -- the lines that go out for some lines: k headings stand above them, and o is the outcome of the item that they begin in
  unfoldable pub texts_from : ℕ → ℕ → List Sorted → List (List ℕ)
  texts_from k o [] = []
  texts_from k o (heading h ∷ xs) = heading_after k h.bytes ∷ texts_from (suc k) (outcome_at k) xs
  texts_from k o (field x ∷ xs) = field_after o x ∷ texts_from k o xs
  texts_from k o (low l ∷ xs) = l.row.bytes ∷ texts_from k o xs

  -- some heading among them is refused by deriving
  unfoldable pub any_underived : ℕ → List Sorted → Bool
  any_underived k [] = false
  any_underived k (heading h ∷ xs) = underived k h.bytes || any_underived (suc k) xs
  any_underived k (field x ∷ xs) = any_underived k xs
  any_underived k (low l ∷ xs) = any_underived k xs

  -- the same asked of items, the first of which has k others above it
  unfoldable pub items_underived : ℕ → List Item → Bool
  items_underived k [] = false
  items_underived k (i ∷ is) = underived k i.head.owner.bytes || items_underived (suc k) is

  -- the lines that go out for a slice, each with its CR LF
  abbrev pub items_text : List ℕ → List ℕ
  items_text s = rows_text (texts_from 0 0 (rows_from 1 (lines s)))
