-- What is asked of the items of a slice, one after the other (document 02, A7, amended by A12). Below, k counts the items above one.
use Rattle.std.specs.Prelude.{ℕ, suc, Bool, false, not, ◌||◌, List, [], ◌∷◌, eqb, length, None, Option, Some}
use Rattle.laws.specs.Lists.{sum}
use Rattle.lines.specs.Lines.{lines}
use Rattle.headings.specs.Reading.{heading_of}
use Rattle.headings.specs.ItemTypes.{is_priority, group_of}
use Rattle.outcomes.specs.Deriving.{outgoing_kind, recipient}
use Rattle.rules.specs.Terms.{is_code}
use Rattle.rules.specs.Rows.{rows_from}
use Rattle.rules.specs.Tree.{Item, tree}
use Rattle.rules.specs.Blocks.{with_amount}
use Rattle.rules.specs.BlockRules.{unlike}
use Rattle.account.specs.Summary.{ten}
use Rattle.item_reader.specs.Slips.{kc_among}
use Rattle.outgoing_lines.specs.Outgoing.{Orders, as_derived, outcome_at, underived}
use Rattle.headings.specs.declared.Heading.{Heading}

-- the items of a slice
unfoldable pub items_of : List ℕ → List Item
items_of s = (tree (rows_from 1 (lines s))).items

-- the text of an item's heading, and its type
abbrev pub head_text : Item → List ℕ
head_text i = i.head.owner.bytes

abbrev pub type_in : Option Heading → ℕ
type_in (Some h) = h.kind
type_in None = 0

abbrev pub in_kind : Item → ℕ
in_kind i = type_in (heading_of (head_text i))

-- '44 and 84 go in a file alone'
abbrev pub is_alone : ℕ → Bool
is_alone kind = eqb kind 44 || eqb kind 84

module _ (q : Orders) where
  -- the type and the recipient of an item's derived heading
  unfoldable pub out_kind : ℕ → Item → ℕ
  out_kind k i = outgoing_kind (head_text i) (as_derived (outcome_at q k))

  unfoldable pub goes_to : ℕ → Item → ℕ
  goes_to k i = recipient (head_text i) (as_derived (outcome_at q k))

  -- the first one's recipient
  abbrev pub first_to : List Item → ℕ
  first_to [] = 0
  first_to (i ∷ is) = goes_to 0 i

  -- 'an item is refused by deriving, or its recipient isn't 1 to 9999 or isn't the first one's'
  abbrev pub unsent : ℕ → ℕ → Item → Bool
  unsent to k i = underived q k (head_text i) || (not (is_code (goes_to k i)) || not (eqb (goes_to k i) to))

  unfoldable pub any_unsent : ℕ → ℕ → List Item → Bool
  any_unsent to k [] = false
  any_unsent to k (i ∷ is) = unsent to k i || any_unsent to (suc k) is

  -- 'priority classes or 44 and 84 mixed with others': an item's class isn't the first one's, or its derived type stands alone and the first
  -- one's does not, or the other way round
  abbrev pub mixes : Bool → Bool → ℕ → Item → Bool
  mixes priority alone k i = unlike (is_priority (in_kind i)) priority || unlike (is_alone (out_kind k i)) alone

  unfoldable pub any_mixes : Bool → Bool → ℕ → List Item → Bool
  any_mixes priority alone k [] = false
  any_mixes priority alone k (i ∷ is) = mixes priority alone k i || any_mixes priority alone (suc k) is

  abbrev pub mixed : List Item → Bool
  mixed [] = false
  mixed (i ∷ is) = any_mixes (is_priority (in_kind i)) (is_alone (out_kind 0 i)) 0 (i ∷ is)

  -- the amounts of group d of the output types
  unfoldable pub amounts_out : ℕ → ℕ → List Item → List ℕ
  amounts_out d k [] = []
  amounts_out d k (i ∷ is) = with_amount (kc_among i.fields) (eqb (group_of (out_kind k i)) d) (amounts_out d (suc k) is)

  abbrev pub counts_out : List Item → List ℕ
  counts_out is = ten (λ d. length (amounts_out d 0 is))

  abbrev pub sums_out : List Item → List ℕ
  sums_out is = ten (λ d. sum (amounts_out d 0 is))
