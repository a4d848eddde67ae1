-- Model of the code, not part of the statement: what is judged at one line, one field with its continuations, the fields of an item, and
-- its heading.
use Rattle.std.specs.Prelude.{ℕ, suc, ◌≤◌, ◌<◌, ◌≡◌, Bool, true, false, cond, not, ◌&&◌, ◌||◌, List, [], ◌∷◌, eqb, ltb, length, drop, Option, None, Some}
use Rattle.laws.specs.Lists.{any_of}
use Rattle.text.specs.Characters.{is_inadmissible}
use Rattle.lines.specs.Reading.{line_at, span}
use Rattle.headings.specs.declared.Heading.{Heading}
use Rattle.headings.specs.Reading.{heading_of}
use Rattle.headings.specs.HeadRules.{rule10, rule13, rule14}
use Rattle.fields.specs.declared.kinds.Kind.{Kind}
use Rattle.fields.specs.declared.kinds.Kind.TheVariants.{Heading as HeadingKind, Continuation, Field, Other}
use Rattle.fields.specs.declared.readings.Reading.{Reading}
use Rattle.fields.specs.Kinds.{named, kind_of}
use Rattle.fields.specs.Codes.{code_of}
use Rattle.fields.specs.Tails.{is_broken}
use Rattle.rules.specs.declared.First.{First}
use Rattle.rules.specs.declared.First.TheVariants.{Missing, Unread, Says}
use Rattle.rules.specs.declared.Payment.{Payment}
use Rattle.rules.specs.Terms.{Terms}
use Rattle.rules.specs.Rows.{Row, FieldRow, LowRow}
use Rattle.rules.specs.Tree.{Owned, Item}
use Rattle.rules.specs.Said.{says, stands, kc_by}
use Rattle.rules.specs.Tests.{broken_of}
use Rattle.rules.specs.LineRules.{inside}
use Rattle.rules.specs.HeadingRules.{rule15}
use Rattle.rules.specs.Spots.{field_tests, lows}
use Rattle.own_rules.specs.declared.Basis.{Basis}
use Rattle.own_rules.specs.Model.{breaks11}
use Rattle.items.specs.Claims.{first_of}
use Rattle.judging.specs.Opening.{said_marks}
use Rattle.item_reader.specs.Slips.{kc_among, file_from, Headed}
use Rattle.vetting.specs.declared.Passed.{Passed}
use Rattle.vetting.specs.declared.own_line.Judged.{Judged}
use Rattle.vetting.specs.declared.own_heading.Started.{Started}
use Rattle.vetting.specs.Vetting.{bars, any_barred, item_barred}

-- ---- a line
-- 1 or 4
abbrev pub bad_at : List ℕ → ℕ → Bool
bad_at s at = any_of is_inadmissible (span at (line_at s at).end s) || not (line_at s at).ended

abbrev pub judged_at : List ℕ → ℕ → Judged
judged_at s at = record { end = (line_at s at).end; next = (line_at s at).next; bad = bad_at s at }

abbrev pub is_continuation : Kind → Bool
is_continuation HeadingKind = false
is_continuation Continuation = true
is_continuation (Field i) = false
is_continuation Other = false

abbrev pub is_low : Kind → Bool
is_low HeadingKind = false
is_low Continuation = true
is_low (Field i) = false
is_low Other = true

-- a line at a place is no heading and no field
abbrev pub low_at : List ℕ → ℕ → Bool
low_at s at = ltb at (length s) && is_low (kind_of (drop at s))

-- ---- a field
abbrev pub owned : {A : Type 0} → A → List LowRow → Owned A
owned a ls = record { owner = a; below = ls }

-- by its own line
abbrev pub own_breaks : Basis → Heading → ℕ → Bool → Bool → Reading → Bool
own_breaks j h ident again bad said = (bad || again) || not (eqb (said_marks j (eqb ident (named "KC")) (Some h) said) 0)

abbrev pub kc_here : ℕ → Reading → First Payment
kc_here ident said = cond (eqb ident (named "KC")) (kc_by said) Missing

-- it, or a line below it, bars the item
unfoldable pub field_barred : Terms → Heading → List (Owned FieldRow) → Owned FieldRow → Bool
field_barred terms h above g = any_of bars (broken_of (field_tests terms (Some h) above g)) || any_barred (lows inside g.below)

unfoldable pub fields_barred : Terms → Heading → List (Owned FieldRow) → List (Owned FieldRow) → Bool
fields_barred terms h above [] = false
fields_barred terms h above (g ∷ gs) = field_barred terms h above g || fields_barred terms h (g ∷ above) gs

-- the lines from a place on that belong to a field above it stop at `next`: none of them bars, and a field of the class takes them
pub record TailAt (s : List ℕ) (at n class next : ℕ) : Type 0 where
  pub below : ℕ
  pub clean : any_barred (lows inside (file_from n (drop at s)).top) ≡ false
  pub takes : (x : FieldRow) → code_of x.ident ≡ class → says (owned x (file_from n (drop at s)).top) ≡ says (owned x [])
  pub loose : (file_from n (drop at s)).loose ≡ (file_from below (drop next s)).loose
  pub items : (file_from n (drop at s)).items ≡ (file_from below (drop next s)).items

abbrev pub TailTo : List ℕ → ℕ → ℕ → Option ℕ → Type 0
TailTo s at class (Some next) = ((n : ℕ) → TailAt s at n class next) × (at ≤ next) × (next ≤ length s) × (low_at s next ≡ false)
TailTo s at class None =
    (n : ℕ) (x : FieldRow) → code_of x.ident ≡ class
    → (is_broken (says (owned x (file_from n (drop at s)).top)) || any_barred (lows inside (file_from n (drop at s)).top)) ≡ true

-- no KC, or one that reads
abbrev pub Sure : First Payment → Type 0
Sure Missing = Unit {0}
Sure Unread = ⊥
Sure (Says p) = Unit {0}

-- the field at a place breaks nothing, and ends at `next`
pub record FieldAt (terms : Terms) (h : Heading) (s : List ℕ) (at n ident : ℕ) (again : Bool) (kc : First Payment) (next : ℕ) : Type 0 where
  pub below : ℕ
  pub field : Owned FieldRow
  pub loose : (file_from n (drop at s)).loose ≡ field ∷ (file_from below (drop next s)).loose
  pub items : (file_from n (drop at s)).items ≡ (file_from below (drop next s)).items
  pub ident_is : field.owner.ident ≡ ident
  pub sound : (above : List (Owned FieldRow)) → stands ident above ≡ again → field_barred terms h above field ≡ false
  pub states : (gs : List (Owned FieldRow)) → kc_among (field ∷ gs) ≡ first_of kc (kc_among gs)

abbrev pub FieldTo : Terms → Heading → List ℕ → ℕ → ℕ → Bool → Option Passed → Type 0
FieldTo terms h s at ident again (Some f) = ((n : ℕ) → FieldAt terms h s at n ident again f.kc f.next) × Sure f.kc
FieldTo terms h s at ident again None =
    (n : ℕ) (above : List (Owned FieldRow)) → stands ident above ≡ again
    → fields_barred terms h above (file_from n (drop at s)).loose ≡ true

-- where it ends: at a field, a heading, or the end of the slice
abbrev pub Leads : List ℕ → ℕ → ℕ → Type 0
Leads s at next = (at < next) × (next ≤ length s) × (low_at s next ≡ false)

abbrev pub FieldLeads : List ℕ → ℕ → Option Passed → Type 0
FieldLeads s at (Some f) = Leads s at f.next
FieldLeads s at None = Unit {0}

-- ---- the fields of an item
pub record FieldsAt (terms : Terms) (h : Heading) (s : List ℕ) (at n : ℕ) (kc : First Payment) (next : ℕ) : Type 0 where
  pub below : ℕ
  pub items : (file_from n (drop at s)).items ≡ (file_from below (drop next s)).items
  pub sound : fields_barred terms h [] (file_from n (drop at s)).loose ≡ false
  pub states : kc_among (file_from n (drop at s)).loose ≡ kc

abbrev pub FieldsTo : Terms → Heading → List ℕ → ℕ → Option Passed → Type 0
FieldsTo terms h s at (Some f) =
    ((n : ℕ) → FieldsAt terms h s at n f.kc f.next) × (at ≤ f.next) × (f.next ≤ length s) × (f.next < length s → Headed s f.next) × Sure f.kc
FieldsTo terms h s at None = (n : ℕ) → fields_barred terms h [] (file_from n (drop at s)).loose ≡ true

-- ---- a heading
-- 10, 11, 13 or 14
abbrev pub head_breaks : Basis → Heading → Bool
head_breaks j h = ((rule10 h || breaks11 j h.day) || rule13 h) || rule14 h

-- the heading at a place breaks nothing, and owns no line; what bars its item is then rule 15, or its fields
pub record HeadAt (terms : Terms) (h : Heading) (s : List ℕ) (at n next : ℕ) : Type 0 where
  pub row : Row
  pub cut : (file_from n (drop at s)).items ≡ record { head = owned row []; fields = (file_from (suc n) (drop next s)).loose } ∷ (file_from (suc n) (drop next s)).items
  pub reads : heading_of row.bytes ≡ Some h
  pub left : (gs : List (Owned FieldRow)) → item_barred terms (record { head = owned row []; fields = gs }) ≡ (rule15 h (kc_among gs) || fields_barred terms h [] gs)

abbrev pub HeadTo : Terms → List ℕ → ℕ → Option Started → Type 0
HeadTo terms s at (Some t) = (n : ℕ) → HeadAt terms t.heading s at n t.next
HeadTo terms s at None = (n : ℕ) → (i : Item) × ((is : List Item) × ((file_from n (drop at s)).items ≡ i ∷ is)) × (item_barred terms i ≡ true)

abbrev pub HeadLeads : List ℕ → ℕ → Option Started → Type 0
HeadLeads s at (Some t) = Leads s at t.next
HeadLeads s at None = Unit {0}
