-- Model of the code, not part of the statement: what each function of `surveying` finds of an item, and what the walk over all of them finds.
use Rattle.std.specs.Prelude.{ℕ, suc, ◌+◌, ◌≤◌, ◌<◌, min, ◌≡◌, Bool, true, false, cond, not, ◌||◌, List, [], ◌∷◌, ◌++◌, eqb, length, drop, Option, None, Some}
use Rattle.laws.specs.Lists.{sum}
use Rattle.laws.specs.Refusals.{first}
use Rattle.headings.specs.declared.Heading.{Heading}
use Rattle.headings.specs.ItemTypes.{is_priority, group_of}
use Rattle.turning.specs.Turning.{turned, turn_refusals}
use Rattle.outcomes.specs.Deriving.{issue_refusals}
use Rattle.rules.specs.Terms.{is_code, Terms}
use Rattle.rules.specs.Tree.{Item}
use Rattle.blocks.specs.Model.{count_cap, sum_cap}
use Rattle.group_sums.specs.Model.{plus_at}
use Rattle.account.specs.Summary.{ten}
use Rattle.item_reader.specs.Slips.{file_from, Headed}
use Rattle.vetting.specs.Vetting.{item_barred, ItemAt}
use Rattle.outgoing_lines.specs.Outgoing.{Orders, as_derived, outcome_at, standing_at, underived}
use Rattle.surveying.specs.declared.Way.{Way}
use Rattle.surveying.specs.declared.Step.{Step}
use Rattle.surveying.specs.declared.Lead.{Lead}
use Rattle.surveying.specs.Items.{items_of, head_text, in_kind, out_kind, goes_to, is_alone, unsent, any_unsent, mixes, any_mixes, amounts_out}

-- the refusals of deriving from a heading that reads
abbrev pub refusal_of : Heading → ℕ → ℕ → ℕ → ℕ
refusal_of h o p n = first (turn_refusals h (as_derived o) p ++ issue_refusals h.kind (record { 0 = n }) 54)

-- the type and the recipient of the heading that is derived
abbrev pub way_to : Heading → Way
way_to g = record { kind = g.kind; to = g.second.0 }

abbrev pub way_of : Heading → ℕ → ℕ → ℕ → Option Way
way_of h o p n = cond (eqb (refusal_of h o p n) 0) (Some (way_to (turned h (as_derived o)))) None

-- a recipient is no participant, or not the first one's
abbrev pub strays : ℕ → ℕ → Bool
strays first to = not (is_code to) || not (eqb to first)

-- ---- one item, where k stand above it
-- what goes with it
pub record Asks (q : Orders) (k o p n : ℕ) : Type 0 where
  pub outcome : outcome_at q k ≡ o
  pub standing : standing_at q k ≡ p
  pub number : q.start + k ≡ n

module _ (q : Orders) (terms : Terms) (lead : Lead) (s : List ℕ) (at k : ℕ) (counts sums : List ℕ) where
  -- it is not sent
  abbrev pub StopsAt : ℕ → Type 0
  StopsAt n = (i : Item) × (is : List Item) × ((file_from n (drop at s)).items ≡ i ∷ is) × ((item_barred terms i || unsent q lead.to k i) ≡ true)

  -- it is: it counts in the group of its derived type, and the next one stands at `next`
  pub record GoesOn (next : ℕ) (other : Bool) (counts' sums' : List ℕ) (n : ℕ) : Type 0 where
    pub item : Item
    pub place : ItemAt s at next n item
    pub clean : item_barred terms item ≡ false
    pub sent : unsent q lead.to k item ≡ false
    pub mixing : other ≡ mixes q lead.priority lead.alone k item
    pub amount : ℕ
    pub paid : (d : ℕ) (is : List Item) → amounts_out q d k (item ∷ is) ≡ cond (eqb (group_of (out_kind q k item)) d) (amount ∷ amounts_out q d (suc k) is) (amounts_out q d (suc k) is)
    pub counted : counts' ≡ plus_at count_cap counts (group_of (out_kind q k item)) 1
    pub summed : sums' ≡ plus_at sum_cap sums (group_of (out_kind q k item)) amount

  abbrev pub Steps : Option Step → List ℕ → List ℕ → Type 0
  Steps None counts' sums' = (n : ℕ) → StopsAt n
  Steps (Some t) counts' sums' =
      ((n : ℕ) → GoesOn t.next t.differs counts' sums' n) × (at < t.next) × (t.next ≤ length s) × (t.next < length s → Headed s t.next)

-- ---- all of them
-- a line of one of some items bars it
unfoldable pub items_barred : Terms → List Item → Bool
items_barred terms [] = false
items_barred terms (i ∷ is) = item_barred terms i || items_barred terms is

-- what a walk over all items finds, by what the first one says: that one is not sent; or else whether one is of another class, and the
-- groups, as far as their caps
abbrev pub Surveys : Orders → Terms → Lead → List ℕ → Option Bool → List ℕ → List ℕ → Type 0
Surveys q terms lead s None counts sums = (items_barred terms (items_of s) || any_unsent q lead.to 0 (items_of s)) ≡ true
Surveys q terms lead s (Some other) counts sums =
    ((items_barred terms (items_of s) || any_unsent q lead.to 0 (items_of s)) ≡ false)
    × (other ≡ any_mixes q lead.priority lead.alone 0 (items_of s))
    × (counts ≡ ten (λ d. min count_cap (length (amounts_out q d 0 (items_of s)))))
    × (sums ≡ ten (λ d. min sum_cap (sum (amounts_out q d 0 (items_of s)))))

-- what the first item says, where deriving does not refuse it
abbrev pub Leads : Orders → List Item → Lead → Type 0
Leads q [] lead = Unit {0}
Leads q (i ∷ is) lead =
    underived q 0 (head_text i) ≡ false
    → (lead.to ≡ goes_to q 0 i) × (lead.priority ≡ is_priority (in_kind i)) × (lead.alone ≡ is_alone (out_kind q 0 i))

-- the same, where it is also said whether deriving refuses it
abbrev pub LeadsIf : Orders → List Item → Option Lead → Type 0
LeadsIf q [] lead = Unit {0}
LeadsIf q (i ∷ is) None = underived q 0 (head_text i) ≡ true
LeadsIf q (i ∷ is) (Some lead) =
    (underived q 0 (head_text i) ≡ false)
    × (lead.to ≡ goes_to q 0 i) × (lead.priority ≡ is_priority (in_kind i)) × (lead.alone ≡ is_alone (out_kind q 0 i))
