-- Model of the code, not part of the statement: the running account, as what it says of the items above.
use Rattle.std.specs.Prelude.{ℕ, min, Bool, false, not, List, [], ◌∷◌, ◌++◌, length, Option}
use Rattle.laws.specs.Lists.{sum}
use Rattle.headings.specs.declared.ItemNo.{ItemNo}
use Rattle.headings.specs.declared.Heading.{Heading}
use Rattle.headings.specs.ItemTypes.{is_priority}
use Rattle.rules.specs.declared.Digest.{Digest}
use Rattle.rules.specs.Blocks.{empty, oldest, block_above, readable, payments, amounts}
use Rattle.rules.specs.Terms.{Terms}
use Rattle.rules.specs.Spots.{own_tests, block_tests}
use Rattle.ledger.specs.Marks.{set_of}
use Rattle.blocks.specs.declared.Block.{Block}
use Rattle.blocks.specs.Model.{count_cap, sum_cap}

abbrev pub priority_first : List ℕ → Bool
priority_first [] = false
priority_first (t ∷ ts) = is_priority (oldest t ts)

abbrev pub day_first : List Heading → ℕ
day_first [] = 0
day_first (h ∷ hs) = (oldest h hs).day

abbrev pub number_first : List Heading → ItemNo
number_first [] = record { 0 = 0 }
number_first (h ∷ hs) = (oldest h hs).number

abbrev pub number_last : List Heading → ItemNo
number_last [] = record { 0 = 0 }
number_last (h ∷ hs) = h.number

-- an entry for each group
abbrev pub ten : (ℕ → ℕ) → List ℕ
ten f = f 0 ∷ f 1 ∷ f 2 ∷ f 3 ∷ f 4 ∷ f 5 ∷ f 6 ∷ f 7 ∷ f 8 ∷ f 9 ∷ []

-- of the types of the payments above, the items of the block above, and their readable headings
abbrev pub block_of : List ℕ → List Digest → List Heading → Block
block_of ts is hs =
    record {
      course = record {
        classed = not (empty ts);
        priority = priority_first ts;
        any = not (empty is);
        some = not (empty hs);
        day = day_first hs;
        first = number_first hs;
        last = number_last hs;
      };
      counts = ten (λ d. min count_cap (length (amounts d is)));
      sums = ten (λ d. min sum_cap (sum (amounts d is)));
    }

-- the account after the items `above`
unfoldable pub summary : List Digest → Block
summary above = block_of (payments (readable above)) (block_above above) (readable (block_above above))

-- the marks of 10 to 15, 17 to 21 and 30 to 39 at an item's heading, as one set: what the account is to give. 16 is not one: it needs the
-- items below
abbrev pub marks_by : Terms → List Digest → Digest → Option Heading → ℕ
marks_by terms above it hd = set_of (own_tests terms it hd ++ block_tests above it hd)
