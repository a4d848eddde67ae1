-- The items of a slice, judged one by one: which rules bar an item from delivery (document 02, A7), and what is taken of an item that no line
-- of it bars.
use Rattle.std.specs.Prelude.{ℕ, ◌≤◌, ◌<◌, ◌≡◌, Bool, true, false, ◌||◌, List, [], ◌∷◌, length, drop, get_or, Option, None, Some}
use Rattle.laws.specs.Lists.{any_of}
use Rattle.laws.specs.Tests.{among}
use Rattle.headings.specs.ItemTypes.{is_payment}
use Rattle.rules.specs.declared.First.TheVariants.{Says}
use Rattle.rules.specs.Terms.{Terms}
use Rattle.rules.specs.Tree.{Item}
use Rattle.rules.specs.Said.{head_of}
use Rattle.rules.specs.Tests.{broken_of, Spot}
use Rattle.rules.specs.Spots.{inner, head_spot}
use Rattle.item_reader.specs.Slips.{kc_among, file_from, Headed}
use Rattle.vetting.specs.declared.Taken.{Taken}

-- 'a rule from 1 to 15 other than 12, or 23 or 24'
abbrev pub bars : ℕ → Bool
bars r = among r (1 ∷ 2 ∷ 3 ∷ 4 ∷ 5 ∷ 6 ∷ 7 ∷ 8 ∷ 9 ∷ 10 ∷ 11 ∷ 13 ∷ 14 ∷ 15 ∷ 23 ∷ 24 ∷ [])

-- 'a line breaks' such a rule: one of some lines
unfoldable pub any_barred : List Spot → Bool
any_barred [] = false
any_barred (p ∷ ps) = any_of bars (broken_of p.tests) || any_barred ps

-- an item, whatever stands above and below it: 16 to 21 and 30 to 39, which ask for that, bar nothing
unfoldable pub item_barred : Terms → Item → Bool
item_barred terms i = any_barred (head_spot terms [] i [] ∷ inner terms i)

-- the item that stands at a place is i, and the next one at `next`; whatever number the line has
pub record ItemAt (s : List ℕ) (at next n : ℕ) (i : Item) : Type 0 where
  pub below : ℕ
  pub cut : (file_from n (drop at s)).items ≡ i ∷ (file_from below (drop next s)).items

-- what is taken of an item: its heading, the amount of its first KC (all but a 51 have one), and the place of the next one; or that a line
-- of it bars it
abbrev pub Takes : Terms → List ℕ → ℕ → Option Taken → Type 0
Takes terms s at (Some t) =
    ((n : ℕ) → (i : Item) × ItemAt s at t.next n i × (item_barred terms i ≡ false) × (head_of i.head ≡ Some t.heading) × (is_payment t.heading.kind ≡ true → (d : ℕ) × (kc_among i.fields ≡ Says (record { amount = t.amount; day = d }))))
    × (at < t.next) × (t.next ≤ length s) × (t.next < length s → Headed s t.next) × (t.amount.0 < 1000000000000000)
Takes terms s at None = (n : ℕ) → (i : Item) × ((is : List Item) × ((file_from n (drop at s)).items ≡ i ∷ is)) × (item_barred terms i ≡ true)

-- the identifiers that stood in items before, each with the stamp of the last item where it did: all of them are below the next item's
abbrev pub Stamped : List ℕ → ℕ → Type 0
Stamped stood stamp = (length stood ≡ 1296) × ((i : ℕ) → i < 1296 → get_or stood i 0 < stamp)
