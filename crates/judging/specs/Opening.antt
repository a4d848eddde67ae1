-- Model of the code, not part of the statement: the open field as four numbers, its line, its marks as they stand, the number of its class
-- and its continuations so far; and what the item's fields claim as they close.
use Rattle.std.specs.Prelude.{ℕ, ◌+◌, ◌%◌, ◌^◌, Bool, true, false, cond, not, ◌&&◌, ◌||◌, eqb, ltb, leb, None, Option, Some}
use Rattle.laws.specs.Tests.{mark}
use Rattle.headings.specs.declared.Heading.{Heading}
use Rattle.figures.specs.declared.parts.Halves.{Halves}
use Rattle.fields.specs.declared.readings.Reading.{Reading}
use Rattle.fields.specs.declared.readings.Reading.TheVariants.{Broken, Plain, Paid, Span, Stated, Party}
use Rattle.fields.specs.Kinds.{named}
use Rattle.fields.specs.Classes.{sum_group}
use Rattle.fields.specs.Codes.{code_of}
use Rattle.fields.specs.Readings.{if_fits}
use Rattle.fields.specs.Tails.{is_broken}
use Rattle.rules.specs.declared.First.{First}
use Rattle.rules.specs.declared.Payment.{Payment}
use Rattle.rules.specs.declared.Range.{Range}
use Rattle.rules.specs.declared.Sums.{Sums}
use Rattle.rules.specs.Said.{span_by}
use Rattle.rules.specs.HeadingRules.{no_kc}
use Rattle.rules.specs.FieldRules.{of_party, prefix_fails, number_fails, number_zero, large}
use Rattle.own_rules.specs.declared.Basis.{Basis}
use Rattle.own_rules.specs.Model.{breaks8}
use Rattle.items.specs.Claims.{Claims, claims_as, kc_own, first_of, group_claims}
use Rattle.judging.specs.declared.opening.Pend.{Pend}
use Rattle.judging.specs.declared.opening.Open.{Open}

-- a field of a class may not go on with so many continuations, the last of so many bytes
abbrev pub breaks_tail : ℕ → ℕ → ℕ → Bool
breaks_tail k tail n = ((eqb k 2 || eqb k 3) || (eqb k 5 || eqb k 6)) || (eqb k 4 && (ltb 3 tail || ltb 38 n))

-- ---- marks of any line
-- 1 and 4
abbrev pub line_marks_of : Bool → Bool → ℕ
line_marks_of bad ended = mark 1 bad + mark 4 (not ended)

-- ---- the open field
abbrev pub no_open : Open
no_open = record { no = 0; marks = 0; class = 0; tail = 0 }

-- a field that its tail breaks: 6, and no mark above it
abbrev pub broken_by : Bool → ℕ → ℕ
broken_by breaks m = cond breaks (m % 2 ^ 6 + 2 ^ 6) m

abbrev pub more_open : Open → ℕ → Open
more_open o n =
    record { no = o.no; marks = broken_by (breaks_tail o.class (o.tail + 1) n) o.marks; class = o.class; tail = o.tail + 1 }

-- a continuation or a line of no kind below it, where there is one
abbrev pub low_open : Bool → Open → ℕ → Open
low_open continues o n = cond (continues && not (eqb o.no 0)) (more_open o n) o

-- 8 and 9, by what the field's own line says, where it is the first KC
abbrev pub late_by : Basis → Option Heading → Reading → Bool
late_by j (Some h) (Paid a d) = breaks8 j h.kind d
late_by j (Some h) Broken = false
late_by j (Some h) Plain = false
late_by j (Some h) (Span a b) = false
late_by j (Some h) (Stated n a) = false
late_by j (Some h) (Party b) = false
late_by j None r = false

unfoldable pub kc_marks : Basis → Bool → Option Heading → Reading → ℕ
kc_marks j first h said = mark 8 (first && late_by j h said) + mark 9 (first && large h said)

-- 7, 23 and 24, by the halves of an account, and by what the field's own line says
abbrev pub halves_marks : Halves → ℕ
halves_marks h = mark 7 (prefix_fails h) + (mark 23 (number_fails h) + mark 24 (number_zero h))

abbrev pub party_marks : Reading → ℕ
party_marks said = mark 7 (of_party prefix_fails said) + (mark 23 (of_party number_fails said) + mark 24 (of_party number_zero said))

-- 6, 7, 23 and 24
abbrev pub plain_marks : Reading → ℕ
plain_marks said = mark 6 (is_broken said) + party_marks said

-- 6 to 9, 23 and 24
unfoldable pub said_marks : Basis → Bool → Option Heading → Reading → ℕ
said_marks j first h said = plain_marks said + kc_marks j first h said

-- it reads: by bit 6 of its marks
abbrev pub fits_by : ℕ → Bool
fits_by m = ltb (m % 2 ^ 7) (2 ^ 6)

-- ---- what is claimed
-- the heading of the open item
abbrev pub read_as : Bool → Heading → Option Heading
read_as reads h = cond reads (Some h) None

-- what is kept of a heading that reads
abbrev pub heading_in : Option Heading → Heading → Heading
heading_in (Some h) old = h
heading_in None old = old

-- the claims with a field at its own line
abbrev pub own_claims : Claims → ℕ → Reading → Claims
own_claims c ident said = claims_as (kc_own c.kc ident said) c.span c.sums

-- the claims with a field that closes: by its class an IN, or one of S0 to S9
abbrev pub said_closed : Open → Pend → Reading
said_closed o p = if_fits (fits_by o.marks) p.said

abbrev pub span_closed : First Range → Open → Pend → First Range
span_closed span o p = cond (eqb o.class 5) (first_of span (span_by (said_closed o p))) span

abbrev pub stated_closed : Sums → Open → Pend → Sums
stated_closed stated o p = cond (eqb o.class 6) (group_claims stated (sum_group p.ident) (said_closed o p)) stated

abbrev pub close_claims : Claims → Open → Pend → Claims
close_claims c o p = claims_as c.kc (span_closed c.span o p) (stated_closed c.sums o p)

abbrev pub no_pend : Pend
no_pend = record { ident = 0; said = Plain }

-- what is kept of it until then
abbrev pub pend_of : Pend → ℕ → Reading → Pend
pend_of p ident said = cond (leb 5 (code_of ident)) (record { ident = ident; said = said }) p

-- a field of an item whose heading reads as r, by its own line: its marks 1 and 4, whether its identifier stood already, the first KC
abbrev pub open_own : Basis → First Payment → Option Heading → ℕ → ℕ → Bool → ℕ → Reading → Open
open_own j kc r n own again ident said =
    record {
      no = n;
      marks = own + mark 5 again + said_marks j (eqb ident (named "KC") && no_kc kc) r said;
      class = code_of ident;
      tail = 0;
    }

-- a field above every heading
abbrev pub open_loose : ℕ → ℕ → Open
open_loose n own = record { no = n; marks = own + mark 3 true; class = 0; tail = 0 }

-- a continuation or a line of no kind: since is the heading's line, no the field's
abbrev pub low_marks_at : ℕ → ℕ → ℕ → Bool → ℕ
low_marks_at own since n continues = own + mark 2 ((eqb since 0 && eqb n 0) || not continues) + mark 3 (eqb since 0)
