-- What a field says with its continuations, what a heading reads as, and what an item says that the rules at headings ask for.
use Rattle.std.specs.Prelude.{ℕ, Bool, true, false, cond, ◌||◌, List, [], ◌∷◌, eqb, None, Option, Some}
use Rattle.std.proofs.Math.Option.{Option as Maybe, none, some}
use Rattle.headings.specs.Reading.{heading_of}
use Rattle.fields.specs.declared.readings.Reading.{Reading}
use Rattle.fields.specs.declared.readings.Reading.TheVariants.{Paid, Span, Stated}
use Rattle.fields.specs.Kinds.{named}
use Rattle.fields.specs.Classes.{class_of, sum_group}
use Rattle.fields.specs.Tails.{says_of}
use Rattle.rules.specs.declared.First.{First}
use Rattle.rules.specs.declared.First.TheVariants.{Missing, Unread, Says}
use Rattle.rules.specs.declared.Payment.{Payment}
use Rattle.rules.specs.declared.Range.{Range}
use Rattle.rules.specs.declared.Statement.{Statement}
use Rattle.rules.specs.declared.Sum.{Sum}
use Rattle.rules.specs.declared.Digest.{Digest}
use Rattle.rules.specs.Rows.{Row, FieldRow, LowRow}
use Rattle.rules.specs.Tree.{Owned, Item}
use Rattle.headings.specs.declared.Heading.{Heading}

-- ---- fields
-- the continuations among some lines
unfoldable pub continuations : List LowRow → List (List ℕ)
continuations [] = []
continuations (l ∷ ls) = cond l.continues (l.row.bytes ∷ continuations ls) (continuations ls)

-- what a field with its continuations says
unfoldable pub says : Owned FieldRow → Reading
says g = says_of (class_of g.owner.ident) g.owner.row.bytes (continuations g.below)

-- an identifier stands among some fields
unfoldable pub stands : ℕ → List (Owned FieldRow) → Bool
stands i [] = false
stands i (g ∷ gs) = eqb g.owner.ident i || stands i gs

-- the first of two, where there is one
abbrev pub or_else : Maybe Reading → Maybe Reading → Maybe Reading
or_else (some r) o = some r
or_else none o = o

abbrev pub if_there : Bool → Reading → Maybe Reading
if_there true r = some r
if_there false r = none

-- what the first field says whose identifier passes a test
unfoldable pub first_said : (ℕ → Bool) → List (Owned FieldRow) → Maybe Reading
first_said p [] = none
first_said p (g ∷ gs) = or_else (if_there (p g.owner.ident) (says g)) (first_said p gs)

abbrev pub is : ℕ → ℕ → Bool
is i j = eqb j i

abbrev pub is_group : ℕ → ℕ → Bool
is_group d j = eqb (sum_group j) d

-- ---- headings
-- a continuation stands among some lines
unfoldable pub continued : List LowRow → Bool
continued [] = false
continued (l ∷ ls) = l.continues || continued ls

-- a heading reads if it has its layout, which has no continuation
unfoldable pub head_of : Owned Row → Option Heading
head_of g = cond (continued g.below) None (heading_of g.owner.bytes)

abbrev pub is_unreadable : Option Heading → Bool
is_unreadable (Some h) = false
is_unreadable None = true

-- ---- items
-- what a KC says: an amount and a day
abbrev pub kc_by : Reading → First Payment
kc_by (Paid a d) = Says (record { amount = a; day = d })
kc_by r = Unread

abbrev pub kc_of : Maybe Reading → First Payment
kc_of none = Missing
kc_of (some r) = kc_by r

-- an IN: the first number and the last
abbrev pub span_by : Reading → First Range
span_by (Span a b) = Says (record { first = a; last = b })
span_by r = Unread

abbrev pub span_of : Maybe Reading → First Range
span_of none = Missing
span_of (some r) = span_by r

-- an Sd: a count and a sum
abbrev pub stated_by : Reading → First Statement
stated_by (Stated n a) = Says (record { count = n; sum = a })
stated_by r = Unread

abbrev pub stated_of : Maybe Reading → First Statement
stated_of none = Missing
stated_of (some r) = stated_by r

-- one for each group
abbrev pub ten_sums : (ℕ → Sum) → List Sum
ten_sums f = f 0 ∷ f 1 ∷ f 2 ∷ f 3 ∷ f 4 ∷ f 5 ∷ f 6 ∷ f 7 ∷ f 8 ∷ f 9 ∷ []

-- an item, as the rules at headings see it
unfoldable pub digest : Item → Digest
digest i =
    record {
      head = head_of i.head;
      kc = kc_of (first_said (is (named "KC")) i.fields);
      span = span_of (first_said (is (named "IN")) i.fields);
      sums = record { groups = ten_sums (λ d. record { stated = stated_of (first_said (is_group d) i.fields) }) };
    }
