-- Rules 5 to 9, 23 and 24, at a field of an item. The fields above one in its item are listed with the nearest first.
use Rattle.std.specs.Prelude.{ℕ, Bool, true, false, not, ◌&&◌, ◌||◌, List, [], ◌∷◌, eqb, ltb, None, Option, Some}
use Rattle.laws.specs.Tests.{among}
use Rattle.days.specs.Days.{is_real, later}
use Rattle.headings.specs.ItemTypes.{is_payment}
use Rattle.figures.specs.declared.parts.Number.{Number}
use Rattle.figures.specs.declared.parts.Number.TheVariants.{Good, Failing, Zero}
use Rattle.figures.specs.declared.parts.Halves.{Halves}
use Rattle.fields.specs.declared.readings.Reading.{Reading}
use Rattle.fields.specs.declared.readings.Reading.TheVariants.{Broken, Plain, Paid, Span, Stated, Party}
use Rattle.fields.specs.Kinds.{named}
use Rattle.fields.specs.Classes.{class_of}
use Rattle.fields.specs.Tails.{reads}
use Rattle.rules.specs.Terms.{Terms}
use Rattle.rules.specs.Rows.{FieldRow}
use Rattle.rules.specs.Tree.{Owned}
use Rattle.rules.specs.Said.{continuations, says, stands}
use Rattle.headings.specs.declared.Heading.{Heading}

-- '5: identifier stood already in this item'
abbrev pub rule5 : List (Owned FieldRow) → Owned FieldRow → Bool
rule5 above g = stands g.owner.ident above

-- '6: layout broken'
abbrev pub rule6 : Owned FieldRow → Bool
rule6 g = not (reads (class_of g.owner.ident) g.owner.row.bytes (continuations g.below))

-- ---- 7, 23 and 24: of 'a UD or UK that reads' (document 01), by the half that is wrong (document 02, A4)
abbrev pub of_party : (Halves → Bool) → Reading → Bool
of_party wrong Broken = false
of_party wrong Plain = false
of_party wrong (Paid a d) = false
of_party wrong (Span a b) = false
of_party wrong (Stated n a) = false
of_party wrong (Party h) = wrong h

abbrev pub prefix_fails : Halves → Bool
prefix_fails h = not h.prefix

abbrev pub is_failing : Number → Bool
is_failing Good = false
is_failing Failing = true
is_failing Zero = false

abbrev pub is_zero : Number → Bool
is_zero Good = false
is_zero Failing = false
is_zero Zero = true

abbrev pub number_fails : Halves → Bool
number_fails h = is_failing h.number

abbrev pub number_zero : Halves → Bool
number_zero h = is_zero h.number

-- 'Rule 7 now means the prefix'
abbrev pub rule7 : Owned FieldRow → Bool
rule7 g = of_party prefix_fails (says g)

-- '23 is a number that fails'
abbrev pub rule23 : Owned FieldRow → Bool
rule23 g = of_party number_fails (says g)

-- '24 is a number of zero, where the sum isn't judged'
abbrev pub rule24 : Owned FieldRow → Bool
rule24 g = of_party number_zero (says g)

-- ---- 8 and 9: 'For the first KC of an item whose heading reads, with an input type other than 51, if that KC reads'
-- the types whose KC may not be later than the accounting day, and those whose may be 30 days later
abbrev pub until_today : List ℕ
until_today = 01 ∷ 11 ∷ 12 ∷ 13 ∷ 14 ∷ 21 ∷ 35 ∷ 37 ∷ 45 ∷ []

abbrev pub until_thirty : List ℕ
until_thirty = 32 ∷ 33 ∷ []

-- '8: its day isn't real, or is later than the accounting day for 01, 11, 12, 13, 14, 21, 35, 37, 45, or more than 30 days later for
-- 32, 33'
abbrev pub rule8 : Terms → ℕ → ℕ → Bool
rule8 terms kind day =
    is_payment kind
    && (not (is_real day) || ((among kind until_today && later day terms.today 0) || (among kind until_thirty && later day terms.today 30)))

-- '9: type 32, amount over 100000000000'
abbrev pub rule9 : ℕ → ℕ → Bool
rule9 kind amount = eqb kind 32 && ltb 100000000000 amount

abbrev pub is_first_kc : List (Owned FieldRow) → Owned FieldRow → Bool
is_first_kc above g = eqb g.owner.ident (named "KC") && not (stands (named "KC") above)

-- the heading reads, and so does the field, as a KC whose day breaks 8
abbrev pub late : Terms → Option Heading → Reading → Bool
late terms (Some h) (Paid a d) = rule8 terms h.kind d
late terms (Some h) Broken = false
late terms (Some h) Plain = false
late terms (Some h) (Span a b) = false
late terms (Some h) (Stated n a) = false
late terms (Some h) (Party b) = false
late terms None r = false

-- .. whose amount breaks 9
abbrev pub large : Option Heading → Reading → Bool
large (Some h) (Paid a d) = rule9 h.kind a.0
large (Some h) Broken = false
large (Some h) Plain = false
large (Some h) (Span a b) = false
large (Some h) (Stated n a) = false
large (Some h) (Party b) = false
large None r = false

-- so at a field, below a heading that reads as h
abbrev pub rule8_at : Terms → Option Heading → List (Owned FieldRow) → Owned FieldRow → Bool
rule8_at terms h above g = is_first_kc above g && late terms h (says g)

abbrev pub rule9_at : Option Heading → List (Owned FieldRow) → Owned FieldRow → Bool
rule9_at h above g = is_first_kc above g && large h (says g)
