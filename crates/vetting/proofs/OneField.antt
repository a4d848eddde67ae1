-- One field with the lines below it.
use Prim.Native.Nat.{ℕ, suc, ◌<◌}
use mathlib.Core.Path.{◌≡◌, refl, sym, ap, subst, ◌∙◌}
use mathlib.Core.Bool.{Bool, true, false, cond, ◌||◌, true≢false, false≢true, or-true}
use mathlib.Core.List.{List, [], ◌∷◌}
use lib.Dec.{eqb}
use lib.ListN.{length, drop}
use borrow.Author.Tests.{eqb-true}
use Rattle.laws.proofs.Truth.{by_test}
use Rattle.lines.specs.Reading.{line_at, span}
use Rattle.headings.specs.declared.Heading.{Heading}
use Rattle.figures.specs.Layouts.{fits, part}
use Rattle.fields.specs.declared.kinds.Kind.TheVariants.{Field}
use Rattle.fields.specs.declared.classes.Class.{Class}
use Rattle.fields.specs.declared.classes.Class.TheVariants.{Money}
use Rattle.fields.specs.declared.readings.Reading.{Reading}
use Rattle.fields.specs.declared.readings.Reading.TheVariants.{Broken, Plain, Paid, Span, Stated, Party}
use Rattle.fields.specs.Kinds.{named, place, kind_of}
use Rattle.fields.specs.Classes.{class_of}
use Rattle.fields.specs.Codes.{code_of}
use Rattle.fields.specs.Readings.{text_of, layout_of, said_by, reading_of, if_fits}
use Rattle.fields.specs.Tails.{takes, says_of, is_broken}
use Rattle.rules.specs.declared.First.TheVariants.{Missing}
use Rattle.rules.specs.Terms.{Terms}
use Rattle.rules.specs.LineRules.{inside, rule1}
use Rattle.rules.specs.Rows.{FieldRow, LowRow, field}
use Rattle.rules.specs.Tree.{Owned, File, ◌▹◌}
use Rattle.rules.specs.Said.{continuations, says, stands, or_else, if_there, first_said, is, kc_by, kc_of}
use Rattle.rules.specs.Spots.{lows}
use Rattle.own_rules.specs.Model.{basis_of}
use Rattle.items.specs.Claims.{first_of}
use Rattle.items.proofs.Firsts.{kc_first}
use Rattle.judging.proofs.OpenField.{says_own}
use Rattle.item_reader.specs.Slips.{kc_among, file_from}
use Rattle.vetting.specs.Vetting.{any_barred}
use Rattle.vetting.specs.Parts.{bad_at, owned, own_breaks, kc_here, field_barred, fields_barred, TailAt, Sure, FieldAt}
use Rattle.vetting.proofs.Here.{row_at, file_at}
use Rattle.vetting.proofs.Barring.{said_bad, marks_bad, field_barred_lem}

-- a field that is broken bars
bad_broken : (terms : Terms) (first : Bool) (h : Heading) (said : Reading) → is_broken said ≡ true → said_bad terms first h said ≡ true
bad_broken terms first h Broken e = refl
bad_broken terms first h Plain e = absurd (false≢true e)
bad_broken terms first h (Paid a d) e = absurd (false≢true e)
bad_broken terms first h (Span a b) e = absurd (false≢true e)
bad_broken terms first h (Stated n a) e = absurd (false≢true e)
bad_broken terms first h (Party b) e = absurd (false≢true e)

broken_bars : (terms : Terms) (h : Heading) (ident : ℕ) (again bad : Bool) (said : Reading) → is_broken said ≡ true → own_breaks (basis_of terms) h ident again bad said ≡ true
broken_bars terms h ident again bad said e =
    ap (λ (t : Bool). (bad || again) || t) (marks_bad terms (eqb ident (named "KC")) h said ∙ bad_broken terms (eqb ident (named "KC")) h said e) ∙ or-true (bad || again)

-- one that does not bar reads
unbroken : (terms : Terms) (h : Heading) (ident : ℕ) (again bad : Bool) (said : Reading) → own_breaks (basis_of terms) h ident again bad said ≡ false → is_broken said ≡ false
unbroken terms h ident again bad said e = by_test (is_broken said)
    (λ q. absurd (true≢false (sym (broken_bars terms h ident again bad said q) ∙ e)))
    (λ q. q)

-- a KC that reads has an amount
paid_sure : (t : List ℕ) → is_broken (reading_of Money t) ≡ false → Sure (kc_by (reading_of Money t))
unfolding reading_of
paid_sure t = go (fits (layout_of Money).own t)
  where
    go : (b : Bool) → is_broken (if_fits b (said_by Money (part 0 (layout_of Money).own t) (part 1 (layout_of Money).own t))) ≡ false
        → Sure (kc_by (if_fits b (said_by Money (part 0 (layout_of Money).own t) (part 1 (layout_of Money).own t))))
    go true e = tt
    go false e = absurd (true≢false e)

kc_class : class_of (named "KC") ≡ Money
unfolding class_of place
kc_class = refl

module _ (s : List ℕ) (at ident : ℕ) (l : at < length s) (e : kind_of (drop at s) ≡ Field ident) {said : Reading} (S : said ≡ reading_of (class_of ident) (text_of (span at (line_at s at).end s))) where
  abbrev owner : ℕ → FieldRow
  owner n = record { row = row_at s at n; ident = ident }

  abbrev rest : ℕ → File
  rest n = file_from (suc n) (drop (line_at s at).next s)

  file_here : (n : ℕ) → file_from n (drop at s) ≡ field (owner n) ▹ rest n
  file_here n = file_at s at l (Field ident) e n

  -- what it says: that of its own line, or nothing
  says_or : (n : ℕ) (ls : List LowRow) → says (owned (owner n) ls) ≡ if_fits (takes (layout_of (class_of ident)).more (continuations ls)) said
  unfolding says says_of
  says_or n ls = ap (if_fits (takes (layout_of (class_of ident)).more (continuations ls))) (sym S)

  says_alone : (n : ℕ) → says (owned (owner n) []) ≡ said
  says_alone n = says_own (owner n) ∙ sym S

  module _ (terms : Terms) (h : Heading) (again : Bool) where
    -- it bars, whatever stands below it
    first_bars : (n : ℕ) (above : List (Owned FieldRow)) → field_barred terms h above (owned (owner n) (rest n).top) ≡ true
        → fields_barred terms h above (file_from n (drop at s)).loose ≡ true
    unfolding fields_barred
    first_bars n above q =
        ap (λ (f : File). fields_barred terms h above f.loose) (file_here n) ∙ ap (λ (t : Bool). t || fields_barred terms h (owned (owner n) (rest n).top ∷ above) (rest n).loose) q

    -- by its own line
    pub own_bars : own_breaks (basis_of terms) h ident again (bad_at s at) said ≡ true
        → (n : ℕ) (above : List (Owned FieldRow)) → stands ident above ≡ again → fields_barred terms h above (file_from n (drop at s)).loose ≡ true
    unfolding rule1
    own_bars q n above a =
        first_bars n above
        (field_barred_lem terms h above (owned (owner n) (rest n).top) a
        ∙ ap (λ (t : Bool). t || any_barred (lows inside (rest n).top))
        (ap (own_breaks (basis_of terms) h ident again (bad_at s at)) (says_or n (rest n).top) ∙ go (takes (layout_of (class_of ident)).more (continuations (rest n).top))))
      where
        go : (t : Bool) → own_breaks (basis_of terms) h ident again (bad_at s at) (if_fits t said) ≡ true
        go true = q
        go false = broken_bars terms h ident again (bad_at s at) Broken refl

    -- by the lines below it
    pub below_bars : ((n : ℕ) (x : FieldRow) → code_of x.ident ≡ code_of ident
        → (is_broken (says (owned x (file_from n (drop (line_at s at).next s)).top)) || any_barred (lows inside (file_from n (drop (line_at s at).next s)).top)) ≡ true)
        → (n : ℕ) (above : List (Owned FieldRow)) → stands ident above ≡ again → fields_barred terms h above (file_from n (drop at s)).loose ≡ true
    unfolding rule1
    below_bars B n above a =
        first_bars n above (field_barred_lem terms h above (owned (owner n) (rest n).top) a ∙ go (is_broken (says (owned (owner n) (rest n).top))) refl (B (suc n) (owner n) refl))
      where
        go : (t : Bool) → is_broken (says (owned (owner n) (rest n).top)) ≡ t → (t || any_barred (lows inside (rest n).top)) ≡ true
            → (own_breaks (basis_of terms) h ident again (bad_at s at) (says (owned (owner n) (rest n).top)) || any_barred (lows inside (rest n).top)) ≡ true
        go true q w = ap (λ (t : Bool). t || any_barred (lows inside (rest n).top)) (broken_bars terms h ident again (bad_at s at) (says (owned (owner n) (rest n).top)) q)
        go false q w = ap (λ (t : Bool). own_breaks (basis_of terms) h ident again (bad_at s at) (says (owned (owner n) (rest n).top)) || t) w ∙ or-true (own_breaks (basis_of terms) h ident again (bad_at s at) (says (owned (owner n) (rest n).top)))

    -- it does not bar
    pub passes : own_breaks (basis_of terms) h ident again (bad_at s at) said ≡ false → {next : ℕ} → (n : ℕ) → TailAt s (line_at s at).next (suc n) (code_of ident) next
        → FieldAt terms h s at n ident again (kc_here ident said) next
    unfolding rule1 first_said
    passes q {next} n T =
        let says_is : says (owned (owner n) (rest n).top) ≡ said = T.takes (owner n) refl ∙ says_alone n in
        record {
          below = T.below;
          field = owned (owner n) (rest n).top;
          loose = ap (λ (f : File). f.loose) (file_here n) ∙ ap (λ (gs : List (Owned FieldRow)). owned (owner n) (rest n).top ∷ gs) T.loose;
          items = ap (λ (f : File). f.items) (file_here n) ∙ T.items;
          ident_is = refl;
          sound = λ above a.
              field_barred_lem terms h above (owned (owner n) (rest n).top) a
              ∙ (λ i. own_breaks (basis_of terms) h ident again (bad_at s at) (says_is i) || T.clean i)
              ∙ ap (λ (t : Bool). t || false) q;
          states = λ gs.
              ap (λ (r : Reading). kc_of (or_else (if_there (eqb ident (named "KC")) r) (first_said (is (named "KC")) gs))) says_is
              ∙ kept (eqb ident (named "KC")) gs;
        }
      where
        kept : (t : Bool) (gs : List (Owned FieldRow)) → kc_of (or_else (if_there t said) (first_said (is (named "KC")) gs)) ≡ first_of (cond t (kc_by said) Missing) (kc_among gs)
        kept true gs = sym (kc_first said (kc_among gs))
        kept false gs = refl

    pub sure : own_breaks (basis_of terms) h ident again (bad_at s at) said ≡ false → Sure (kc_here ident said)
    sure q = go (eqb ident (named "KC")) refl
      where
        reads : is_broken said ≡ false
        reads = unbroken terms h ident again (bad_at s at) said q

        go : (t : Bool) → eqb ident (named "KC") ≡ t → Sure (cond t (kc_by said) Missing)
        go true k =
            let m : said ≡ reading_of Money (text_of (span at (line_at s at).end s)) = S ∙ ap (λ (c : Class). reading_of c (text_of (span at (line_at s at).end s))) (ap class_of (eqb-true ident (named "KC") k) ∙ kc_class) in
            subst (λ (r : Reading). Sure (kc_by r)) (sym m) (paid_sure (text_of (span at (line_at s at).end s)) (ap is_broken (sym m) ∙ reads))
        go false k = tt
