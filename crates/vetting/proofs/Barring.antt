-- Which tests bar an item: of a line below a heading or field, of a field, of a heading.
use Prim.Native.Nat.{ℕ, ◌+◌}
use mathlib.Core.Path.{◌≡◌, refl, sym, ap, ◌∙◌}
use mathlib.Core.Bool.{Bool, true, false, not, ◌&&◌, ◌||◌, and-true, and-false, or-false, or_assoc, or_comm}
use mathlib.Core.List.{List, [], ◌∷◌, ◌++◌}
use lib.Dec.{eqb}
use borrow.Author.Tests.{eqb-true}
use Rattle.laws.proofs.Truth.{by_test}
use Rattle.laws.specs.Lists.{any_of}
use Rattle.laws.specs.Tests.{mark}
use Rattle.headings.specs.declared.Heading.{Heading}
use Rattle.figures.specs.declared.parts.Number.{Number}
use Rattle.figures.specs.declared.parts.Number.TheVariants.{Good, Failing, Zero}
use Rattle.fields.specs.declared.readings.Reading.{Reading}
use Rattle.fields.specs.declared.readings.Reading.TheVariants.{Broken, Plain, Paid, Span, Stated, Party}
use Rattle.fields.specs.Kinds.{named}
use Rattle.fields.specs.Classes.{class_of}
use Rattle.fields.specs.Tails.{is_broken}
use Rattle.fields.proofs.Kept.{broken}
use Rattle.rules.specs.Tests.{Test, broken_of, Spot}
use Rattle.rules.specs.Terms.{Terms}
use Rattle.rules.specs.Rows.{Row, FieldRow, LowRow}
use Rattle.rules.specs.Tree.{Owned}
use Rattle.rules.specs.Said.{continuations, says, stands}
use Rattle.rules.specs.LineRules.{inside, rule1, rule4}
use Rattle.rules.specs.FieldRules.{rule5, rule6, rule7, rule8_at, rule9_at, rule23, rule24, of_party, prefix_fails, number_fails, number_zero, is_failing, is_zero, late, large, rule9}
use Rattle.rules.specs.Spots.{low_tests, low_spot, lows, field_tests}
use Rattle.own_rules.specs.Model.{basis_of, breaks8}
use Rattle.account.proofs.Accounting.{same_eight}
use Rattle.judging.specs.Opening.{said_marks, kc_marks}
use Rattle.vetting.specs.Vetting.{bars, any_barred}
use Rattle.vetting.specs.Parts.{own_breaks, field_barred}
use Rattle.std.specs.Prelude.{Some}

-- what a list of tests bars
abbrev pub barring : List Test → Bool
barring ts = any_of bars (broken_of ts)

-- test by test
abbrev pub tested : List Test → Bool
tested [] = false
tested (t ∷ ts) = (bars t.rule && t.broken) || tested ts

pub tested_is : (ts : List Test) → barring ts ≡ tested ts
unfolding any_of
tested_is [] = refl
tested_is (t ∷ ts) = by_test t.broken
    (λ q. rw q (ap (λ (u : Bool). bars t.rule || u) (tested_is ts) ∙ ap (λ (u : Bool). u || tested ts) (sym (and-true (bars t.rule)))))
    (λ q. rw q ((tested_is ts) ∙ ap (λ (u : Bool). u || tested ts) (sym (and-false (bars t.rule)))))

pub barred_both : (ps qs : List Spot) → any_barred (ps ++ qs) ≡ (any_barred ps || any_barred qs)
unfolding any_barred
barred_both [] qs = refl
barred_both (p ∷ ps) qs = ap (λ (t : Bool). barring p.tests || t) (barred_both ps qs) ∙ sym (or_assoc (barring p.tests) (any_barred ps) (any_barred qs))

-- 1 or 4, at any line
abbrev pub bad_row : Row → Bool
bad_row r = rule1 r || rule4 r

-- ---- a continuation, or a line of no kind
pub lows_none : any_barred (lows inside []) ≡ false
unfolding any_barred
lows_none = refl

pub low_more : (l : LowRow) (ls : List LowRow) → any_barred (lows inside (l ∷ ls)) ≡ ((bad_row l.row || not l.continues) || any_barred (lows inside ls))
unfolding any_barred low_spot low_tests
low_more l ls =
    ap (λ (t : Bool). t || any_barred (lows inside ls)) (tested_is (low_tests inside l) ∙ turn (rule1 l.row) (not l.continues) (rule4 l.row))
  where
    turn : (a b c : Bool) → (a || (b || (c || false))) ≡ ((a || c) || b)
    turn a b c = simp (or_assoc, or-false) (ap (λ (t : Bool). a || t) (or_comm b c))

-- ---- a field
-- by what it says, where `first` says whether it is the first KC: 6 to 9, 23 or 24
abbrev pub said_bad : Terms → Bool → Heading → Reading → Bool
said_bad terms first h said =
    is_broken said || (of_party prefix_fails said || ((first && late terms (Some h) said) || ((first && large (Some h) said) || (of_party number_fails said || of_party number_zero said))))

-- as marks, which the code asks for
pub marks_bad : (terms : Terms) (first : Bool) (h : Heading) (said : Reading) → not (eqb (said_marks (basis_of terms) first (Some h) said) 0) ≡ said_bad terms first h said
unfolding said_marks kc_marks
marks_bad terms true h Broken = refl
marks_bad terms false h Broken = refl
marks_bad terms true h Plain = refl
marks_bad terms false h Plain = refl
marks_bad terms true h (Span a b) = refl
marks_bad terms false h (Span a b) = refl
marks_bad terms true h (Stated n a) = refl
marks_bad terms false h (Stated n a) = refl
marks_bad terms first h (Paid a d) =
    two (first && breaks8 (basis_of terms) h.kind d) (first && rule9 h.kind a.0)
    ∙ ap (λ (t : Bool). (first && t) || ((first && rule9 h.kind a.0) || false)) (same_eight terms h.kind d)
  where
    two : (a b : Bool) → not (eqb (0 + (0 + (0 + 0)) + (mark 8 a + mark 9 b)) 0) ≡ (a || (b || false))
    two true true = refl
    two true false = refl
    two false true = refl
    two false false = refl
marks_bad terms first h (Party b) = halves b.prefix b.number first
  where
    halves : (p : Bool) (n : Number) (f : Bool)
        → not (eqb (0 + (mark 7 (not p) + (mark 23 (is_failing n) + mark 24 (is_zero n))) + (mark 8 (f && false) + mark 9 (f && false))) 0)
        ≡ (not p || ((f && false) || ((f && false) || (is_failing n || is_zero n))))
    halves true Good true = refl
    halves true Good false = refl
    halves true Failing true = refl
    halves true Failing false = refl
    halves true Zero true = refl
    halves true Zero false = refl
    halves false Good true = refl
    halves false Good false = refl
    halves false Failing true = refl
    halves false Failing false = refl
    halves false Zero true = refl
    halves false Zero false = refl

-- a KC that stood already breaks 5: each other is the first
pub first_again : (terms : Terms) (h : Heading) (ident : ℕ) (above : List (Owned FieldRow)) (said : Reading)
    → (stands ident above || said_bad terms (eqb ident (named "KC") && not (stands (named "KC") above)) h said) ≡ (stands ident above || said_bad terms (eqb ident (named "KC")) h said)
first_again terms h ident above said = go (eqb ident (named "KC")) refl
  where
    by : (b : Bool) → (b || said_bad terms (not b) h said) ≡ (b || said_bad terms true h said)
    by true = refl
    by false = refl

    go : (k : Bool) → eqb ident (named "KC") ≡ k → (stands ident above || said_bad terms (k && not (stands (named "KC") above)) h said) ≡ (stands ident above || said_bad terms k h said)
    go true e =
        ap (λ (j : ℕ). stands ident above || said_bad terms (not (stands j above)) h said) (sym (eqb-true ident (named "KC") e)) ∙ by (stands ident above)
    go false e = refl

field_tests_lem : (terms : Terms) (h : Heading) (above : List (Owned FieldRow)) (g : Owned FieldRow)
    → barring (field_tests terms (Some h) above g)
    ≡ ((bad_row g.owner.row || stands g.owner.ident above) || said_bad terms (eqb g.owner.ident (named "KC")) h (says g))
unfolding field_tests says
field_tests_lem terms h above g =
    tested_is (field_tests terms (Some h) above g)
    ∙ ap (λ (t : Bool). rule1 g.owner.row || (rule4 g.owner.row || (rule5 above g || (rule6 g || (rule7 g || (rule8_at terms (Some h) above g || (rule9_at (Some h) above g || (rule23 g || t)))))))) (or-false (rule24 g))
    ∙ ap (λ (t : Bool). rule1 g.owner.row || (rule4 g.owner.row || (rule5 above g || (t || (rule7 g || (rule8_at terms (Some h) above g || (rule9_at (Some h) above g || (rule23 g || rule24 g)))))))) (sym broken_is)
    ∙ ap (λ (t : Bool). rule1 g.owner.row || (rule4 g.owner.row || t)) (first_again terms h g.owner.ident above (says g))
    ∙ turn (rule1 g.owner.row) (rule4 g.owner.row) (rule5 above g) (said_bad terms (eqb g.owner.ident (named "KC")) h (says g))
  where
    broken_is : is_broken (says g) ≡ rule6 g
    broken_is = broken (class_of g.owner.ident) g.owner.row.bytes (continuations g.below)

    turn : (a b c d : Bool) → (a || (b || (c || d))) ≡ (((a || b) || c) || d)
    turn a b c d = simp or_assoc

-- it, and the lines below it
pub field_barred_lem : (terms : Terms) (h : Heading) (above : List (Owned FieldRow)) (g : Owned FieldRow) {again : Bool} → stands g.owner.ident above ≡ again
    → field_barred terms h above g ≡ (own_breaks (basis_of terms) h g.owner.ident again (bad_row g.owner.row) (says g) || any_barred (lows inside g.below))
unfolding field_barred
field_barred_lem terms h above g {again} e =
    ap (λ (t : Bool). t || any_barred (lows inside g.below))
    (field_tests_lem terms h above g
    ∙ ap (λ (t : Bool). (bad_row g.owner.row || t) || said_bad terms (eqb g.owner.ident (named "KC")) h (says g)) e
    ∙ ap (λ (t : Bool). (bad_row g.owner.row || again) || t) (sym (marks_bad terms (eqb g.owner.ident (named "KC")) h (says g))))
