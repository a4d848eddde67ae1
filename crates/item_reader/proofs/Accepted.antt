-- In a file that has no fault no rule is broken at any line; so each of its items reads, and has an amount where it must.
use Prim.Native.Nat.{ℕ}
use native.Mathlib.Omega.{arith}
use mathlib.Core.Path.{◌≡◌, refl, sym, ap, ◌∙◌}
use mathlib.Core.Bool.{Bool, true, false, ◌&&◌, true≢false}
use mathlib.Core.Option.{none, some}
use mathlib.Core.List.Memᴰ
use mathlib.Core.List.{List, [], ◌∷◌, map, Memᴰ}
use mathlib.Core.Logic.{◌↔◌, inl}
use lib.Dec.{eqb}
use lib.ListN.{length}
use borrow.Author.Tests.{eqb-true, not-false}
use Rattle.laws.proofs.Truth.{never_true, both_left}
use Rattle.lines.specs.Lines.{body, lines}
use Rattle.headings.specs.declared.Heading.{Heading}
use Rattle.headings.specs.declared.Amount.{Amount}
use Rattle.headings.specs.HeadRules.{rule10, rule13, rule14}
use Rattle.figures.specs.Layouts.{fits, part}
use Rattle.fields.specs.Kinds.{place, named}
use Rattle.fields.specs.Classes.{class_of}
use Rattle.fields.specs.declared.classes.Class.TheVariants.{Money}
use Rattle.fields.specs.declared.readings.Reading.TheVariants.{Paid as PaidReading}
use Rattle.fields.specs.Readings.{text_of, layout_of, reading_of, said_by, if_fits}
use Rattle.fields.specs.Tails.{takes, reads}
use Rattle.rules.specs.declared.First.TheVariants.{Says}
use Rattle.rules.specs.Terms.{Terms}
use Rattle.rules.specs.Tests.{Spot, ◌if◌}
use Rattle.rules.specs.Rows.{Row, FieldRow, rows_from}
use Rattle.rules.specs.Tree.{Owned, Item, File, tree}
use Rattle.rules.specs.Said.{continuations, says, head_of, is_unreadable, first_said, or_else, if_there, is, kc_by, kc_of, digest}
use Rattle.rules.specs.LineRules.{nowhere, inside}
use Rattle.rules.specs.FieldRules.{rule6}
use Rattle.rules.specs.HeadingRules.{rule11, rule12, rule15, no_kc, rule6_at}
use Rattle.rules.specs.Spots.{own_tests, lows, fields, inner, items, head_spot}
use Rattle.rules.specs.Faults.{Fault, faults}
use Rattle.rules.specs.Demand.{spots_of}
use Rattle.rules.proofs.ByRule.{six_at_field, six_at_heading, at_readable}
use Rattle.item_reader.specs.Slips.{kc_among, slip_of, slips_from}
use Rattle.item_reader.specs.Accepted.{Fine, Each}
use Rattle.item_reader.proofs.Passing.{says_kc}
use Rattle.std.specs.Prelude.{None, Option, Some}

-- ---- a KC that reads is paid
paid_line : (s : List ℕ) → fits (layout_of Money).own s ≡ true → (a : Amount) × (d : ℕ) × (reading_of Money s ≡ PaidReading a d)
unfolding reading_of
paid_line s e = (_, _, ap (λ (t : Bool). if_fits t (said_by Money (part 0 (layout_of Money).own s) (part 1 (layout_of Money).own s))) e)

kc_reads : (l : List ℕ) (ls : List (List ℕ)) → reads (class_of (named "KC")) l ls ≡ true → fits (layout_of Money).own (text_of l) ≡ true
unfolding reads takes class_of place
kc_reads l ls e = both_left (fits (layout_of Money).own (text_of l)) true e

paid_group : (g : Owned FieldRow) → g.owner.ident ≡ named "KC" → rule6 g ≡ false → (a : Amount) × (d : ℕ) × (kc_by (says g) ≡ Says (record { amount = a; day = d }))
paid_group g i e =
    let b = g.owner.row.bytes in
    let r : reads (class_of (named "KC")) b (continuations g.below) ≡ true =
    ap (λ (j : ℕ). reads (class_of j) b (continuations g.below)) (sym i) ∙ not-false (reads (class_of g.owner.ident) b (continuations g.below)) e in
    let w : says g ≡ reading_of Money (text_of b) =
    ap (λ (j : ℕ). says (record { owner = record { row = g.owner.row; ident = j }; below = g.below })) i ∙ says_kc g.owner.row g.below in
    let p = paid_line (text_of b) (kc_reads b (continuations g.below) r) in
    (p.0, p.1, ap kc_by (w ∙ p.2))

no_member : {A : Type 0} (l : List A) → length l ≡ 0 → (x : A) → Memᴰ x l → ⊥
no_member [] e x m = Memᴰ.not-nil m
no_member (y ∷ l) e x m = omega arith

module _ (terms : Terms) (file : List ℕ) (clean : length (faults terms file) ≡ 0) where
  -- a test that would put a fault in the list does not hold
  holds_not : (b : Bool) (f : Fault) → Memᴰ f (faults terms file) ↔ (b ≡ true) → b ≡ false
  holds_not b f w = never_true b (λ e. no_member (faults terms file) clean f (w.1 e))

  -- some spots are among those of the file
  abbrev Within : List Spot → Type 0
  Within ss = (s : Spot) → Memᴰ s ss → Memᴰ s (spots_of terms file)

  -- ---- the fields of an item
  kc_in : (h : Owned Row) (above gs : List (Owned FieldRow)) → Within (fields terms (some h) above gs) → no_kc (kc_among gs) ≡ false
      → (a : Amount) × (d : ℕ) × (kc_among gs ≡ Says (record { amount = a; day = d }))
  unfolding first_said
  kc_in h above [] W n = absurd (true≢false n)
  kc_in h above (g ∷ gs) W n = go (eqb g.owner.ident (named "KC")) refl (kc_in h (g ∷ above) gs (λ s m. W s (Memᴰ.tail (Memᴰ.append_right (lows inside g.below) m)))) n
    where
      go : (t : Bool) → eqb g.owner.ident (named "KC") ≡ t → (no_kc (kc_among gs) ≡ false → (a : Amount) × (d : ℕ) × (kc_among gs ≡ Says (record { amount = a; day = d })))
          → no_kc (kc_of (or_else (if_there t (says g)) (first_said (is (named "KC")) gs))) ≡ false
          → (a : Amount) × (d : ℕ) × (kc_of (or_else (if_there t (says g)) (first_said (is (named "KC")) gs)) ≡ Says (record { amount = a; day = d }))
      go true q ih w =
          paid_group g (eqb-true g.owner.ident (named "KC") q)
          (holds_not (rule6 g) _ (six_at_field terms file h above g (W _ (Memᴰ.head refl))))
      go false q ih w = ih w

  -- ---- an item
  module _ (above : List Item) (i : Item) (below : List Item) (at : Memᴰ (head_spot terms above i below) (spots_of terms file)) (W : Within (fields terms (some i.head) [] i.fields)) where
    module _ (h : Heading) (q : head_of i.head ≡ Some h) where
      -- 10 to 15
      own : (r : ℕ) (b : Bool) → Memᴰ (r if b) (own_tests terms (digest i) (Some h)) → b ≡ false
      own r b t = holds_not b _ (at_readable terms file above i below at h q r b (inl t))

      fine_by : Fine terms (slip_of i)
      unfolding own_tests digest
      fine_by = record {
        heading = h;
        reads = q;
        kind = own 10 (rule10 h) (Memᴰ.head refl);
        day = own 11 (rule11 terms h) (Memᴰ.tail (Memᴰ.head refl));
        own = eqb-true h.first.0 terms.code.0 (not-false (eqb h.first.0 terms.code.0) (own 12 (rule12 terms h) (Memᴰ.tail (Memᴰ.tail (Memᴰ.head refl)))));
        number = own 13 (rule13 h) (Memᴰ.tail (Memᴰ.tail (Memᴰ.tail (Memᴰ.head refl))));
        codes = own 14 (rule14 h) (Memᴰ.tail (Memᴰ.tail (Memᴰ.tail (Memᴰ.tail (Memᴰ.head refl)))));
        paid = λ p.
            kc_in i.head [] i.fields W
            (ap (λ (b : Bool). b && no_kc (kc_among i.fields)) (sym p)
            ∙ own 15 (rule15 h (kc_among i.fields)) (Memᴰ.tail (Memᴰ.tail (Memᴰ.tail (Memᴰ.tail (Memᴰ.tail (Memᴰ.head refl)))))));
      }

    fine : Fine terms (slip_of i)
    fine = go (head_of i.head) refl (holds_not (rule6_at i.head) _ (six_at_heading terms file above i below at))
      where
        go : (r : Option Heading) → head_of i.head ≡ r → is_unreadable r ≡ false → Fine terms (slip_of i)
        go (Some h) q u = fine_by h q
        go None q u = absurd (true≢false u)

  -- ---- all items
  all_fine : (above is : List Item) → Within (items terms above is) → Each (Fine terms) (map slip_of is)
  all_fine above [] W = tt
  all_fine above (i ∷ below) W = (
    fine above i below (W _ (Memᴰ.head refl)) (λ s m. W s (Memᴰ.tail (Memᴰ.append_left (items terms (i ∷ above) below) (Memᴰ.append_right (lows inside i.head.below) m)))),
    all_fine (i ∷ above) below (λ s m. W s (Memᴰ.tail (Memᴰ.append_right (inner terms i) m))),
  )

  pub accepted : Each (Fine terms) (slips_from 1 (body file))
  accepted =
      let f : File = tree (rows_from 1 (lines (body file))) in
      all_fine [] f.items (λ s m. Memᴰ.append_right (lows nowhere f.top) (Memᴰ.append_right (fields terms none [] f.loose) m))
