-- The heading of an item, and what is left to bar the item once it is judged.
use Prim.Native.Nat.{ℕ, suc, ◌<◌}
use mathlib.Core.Path.{◌≡◌, refl, sym, ap, ◌∙◌}
use mathlib.Core.Bool.{Bool, true, false, cond, not, ◌||◌, or-false, false≢true, or_assoc, or-true}
use mathlib.Core.Option.{some}
use mathlib.Core.List.{List, [], ◌∷◌, ◌++◌}
use lib.Dec.{ltb}
use lib.ListN.{length, drop}
use borrow.Author.Tests.{ltb-true}
use Rattle.laws.proofs.Truth.{both_left, both_right, by_test}
use Rattle.laws.proofs.Any.{or_left, or_right}
use Rattle.lines.specs.Reading.{line_at, span}
use Rattle.headings.specs.declared.Heading.{Heading}
use Rattle.headings.specs.Reading.{heading_of}
use Rattle.headings.specs.HeadRules.{rule10, rule13, rule14}
use Rattle.fields.specs.declared.kinds.Kind.{Kind}
use Rattle.fields.specs.declared.kinds.Kind.TheVariants.{Heading as HeadingKind, Continuation, Field, Other}
use Rattle.fields.specs.Kinds.{kind_of}
use Rattle.rules.specs.declared.Digest.{Digest}
use Rattle.rules.specs.declared.First.{First}
use Rattle.rules.specs.declared.Payment.{Payment}
use Rattle.rules.specs.Terms.{Terms}
use Rattle.rules.specs.Rows.{Row, FieldRow, LowRow}
use Rattle.rules.specs.Tree.{Owned, Item, File, item_of}
use Rattle.rules.specs.Tests.{Test, ◌if◌}
use Rattle.rules.specs.LineRules.{inside, rule1, rule4}
use Rattle.rules.specs.HeadingRules.{rule15}
use Rattle.rules.specs.Said.{continued, head_of, is_unreadable, digest}
use Rattle.rules.specs.Spots.{field_tests, field_spot, lows, fields, own_tests, block_tests, head_tests, rule16_at, inner}
use Rattle.own_rules.specs.Model.{basis_of, breaks11}
use Rattle.account.proofs.Accounting.{same_eleven}
use Rattle.item_reader.specs.Slips.{kc_among, file_from, Headed}
use Rattle.vetting.specs.Vetting.{any_barred, item_barred}
use Rattle.vetting.specs.Parts.{bad_at, is_low, low_at, owned, field_barred, fields_barred, head_breaks, HeadAt}
use Rattle.vetting.proofs.Here.{row_at, file_at, kind_told_here, bare}
use Rattle.vetting.proofs.Barring.{barring, tested_is, barred_both, bad_row, low_more}
use Rattle.std.specs.Prelude.{None, Option, Some}

-- ---- its fields, one after the other
module _ (terms : Terms) (h : Heading) (hd : Owned Row) (e : head_of hd ≡ Some h) where
  fields_are : (above gs : List (Owned FieldRow)) → any_barred (fields terms (some hd) above gs) ≡ fields_barred terms h above gs
  unfolding any_barred fields_barred field_barred field_spot
  fields_are above [] = refl
  fields_are above (g ∷ gs) =
      (λ i. barring (field_tests terms (e i) above g) || barred_both (lows inside g.below) (fields terms (some hd) (g ∷ above) gs) i)
      ∙ ap (λ (t : Bool). barring (field_tests terms (Some h) above g) || (any_barred (lows inside g.below) || t)) (fields_are (g ∷ above) gs)
      ∙ sym (or_assoc (barring (field_tests terms (Some h) above g)) (any_barred (lows inside g.below)) (fields_barred terms h (g ∷ above) gs))

-- ---- the tests at it
module _ (terms : Terms) where
  abbrev head_bad : Option Heading → First Payment → Bool
  head_bad (Some h) kc = head_breaks (basis_of terms) h || rule15 h kc
  head_bad None kc = true

  abbrev tests_by : (a b z : Bool) → List Digest → Digest → Option Heading → List Test
  tests_by a b z ds d hd = (1 if a) ∷ (4 if b) ∷ (6 if is_unreadable hd) ∷ (own_tests terms d hd ++ ((16 if z) ∷ block_tests ds d hd))

  by_tests : (a b z : Bool) (ds : List Digest) (d : Digest) (hd : Option Heading) → barring (tests_by a b z ds d hd) ≡ ((a || b) || head_bad hd d.kc)
  unfolding own_tests block_tests
  by_tests a b z ds d (Some h) =
      tested_is (tests_by a b z ds d (Some h))
      ∙ ap (λ (t : Bool). a || (b || (rule10 h || (t || (rule13 h || (rule14 h || (rule15 h d.kc || false))))))) (sym (same_eleven terms h))
      ∙ turn a b (rule10 h) (breaks11 (basis_of terms) h.day) (rule13 h) (rule14 h) (rule15 h d.kc)
    where
      turn : (a b c d e f g : Bool) → (a || (b || (c || (d || (e || (f || (g || false))))))) ≡ ((a || b) || ((((c || d) || e) || f) || g))
      turn a b c d e f g = simp (or_assoc, or-false)
  by_tests a b z ds d None = tested_is (tests_by a b z ds d None) ∙ turn a b
    where
      turn : (a b : Bool) → (a || (b || true)) ≡ ((a || b) || true)
      turn a b = simp or_assoc

  item_tests : (i : Item) → item_barred terms i ≡ (((bad_row i.head.owner) || head_bad (head_of i.head) (kc_among i.fields)) || any_barred (inner terms i))
  unfolding item_barred any_barred head_tests digest
  item_tests i = ap (λ (t : Bool). t || any_barred (inner terms i)) (by_tests (rule1 i.head.owner) (rule4 i.head.owner) (rule16_at [] i []) [] (digest i) (head_of i.head))

  -- a heading that does not read bars
  pub unreadable : (i : Item) → head_of i.head ≡ None → item_barred terms i ≡ true
  unreadable i e =
      item_tests i
      ∙ ap (λ (r : Option Heading). (bad_row i.head.owner || head_bad r (kc_among i.fields)) || any_barred (inner terms i)) e
      ∙ ap (λ (t : Bool). t || any_barred (inner terms i)) (or-true (bad_row i.head.owner))

  -- so does a line below it
  low_bars : (row : Row) (l : LowRow) (ls : List LowRow) (gs : List (Owned FieldRow)) → item_barred terms (record { head = owned row (l ∷ ls); fields = gs }) ≡ true
  unfolding head_of continued
  low_bars row l ls gs = by_test l.continues
      (λ q. unreadable (record { head = owned row (l ∷ ls); fields = gs }) (ap (λ (t : Bool). cond (t || continued ls) None (heading_of row.bytes)) q))
      (λ q.
      item_tests (record { head = owned row (l ∷ ls); fields = gs })
      ∙ ap (λ (t : Bool). (bad_row row || head_bad (head_of (owned row (l ∷ ls))) (kc_among gs)) || t)
      (barred_both (lows inside (l ∷ ls)) (fields terms (some (owned row (l ∷ ls))) [] gs)
      ∙ ap (λ (t : Bool). t || any_barred (fields terms (some (owned row (l ∷ ls))) [] gs))
      (low_more l ls ∙ ap (λ (t : Bool). (bad_row l.row || not t) || any_barred (lows inside ls)) q ∙ ap (λ (t : Bool). t || any_barred (lows inside ls)) (or-true (bad_row l.row))))
      ∙ or-true (bad_row row || head_bad (head_of (owned row (l ∷ ls))) (kc_among gs)))

  -- with nothing below it
  pub item_left : (row : Row) (h : Heading) → heading_of row.bytes ≡ Some h → (gs : List (Owned FieldRow))
      → item_barred terms (record { head = owned row []; fields = gs }) ≡ ((bad_row row || head_breaks (basis_of terms) h) || (rule15 h (kc_among gs) || fields_barred terms h [] gs))
  unfolding head_of continued
  item_left row h e gs =
      item_tests (record { head = owned row []; fields = gs })
      ∙ (λ i. (bad_row row || head_bad (e i) (kc_among gs)) || fields_are terms h (owned row []) e [] gs i)
      ∙ turn (bad_row row) (head_breaks (basis_of terms) h) (rule15 h (kc_among gs)) (fields_barred terms h [] gs)
    where
      turn : (a b c d : Bool) → ((a || (b || c)) || d) ≡ ((a || b) || (c || d))
      turn a b c d = simp or_assoc

-- ---- at a place
low_there : (s : List ℕ) (p : ℕ) → low_at s p ≡ true → (n : ℕ) → (l : LowRow) × (ls : List LowRow) × ((file_from n (drop p s)).top ≡ l ∷ ls)
low_there s p q n = go (kind_of (drop p s)) refl (both_right (ltb p (length s)) (is_low (kind_of (drop p s))) q)
  where
    h : p < length s
    h = ltb-true p (length s) (both_left (ltb p (length s)) (is_low (kind_of (drop p s))) q)

    go : (k : Kind) → kind_of (drop p s) ≡ k → is_low k ≡ true → (l : LowRow) × (ls : List LowRow) × ((file_from n (drop p s)).top ≡ l ∷ ls)
    go HeadingKind e w = absurd (false≢true w)
    go Continuation e w = (_, _, ap (λ (f : File). f.top) (file_at s p h Continuation e n))
    go (Field i) e w = absurd (false≢true w)
    go Other e w = (_, _, ap (λ (f : File). f.top) (file_at s p h Other e n))

module _ (s : List ℕ) (at : ℕ) (l : at < length s) (H : Headed s at) where
  abbrev rest : ℕ → File
  rest n = file_from (suc n) (drop (line_at s at).next s)

  items_here : (n : ℕ) → (file_from n (drop at s)).items ≡ item_of (row_at s at n) (rest n) ∷ (rest n).items
  items_here n = ap (λ (f : File). f.items) (file_at s at l HeadingKind (kind_told_here s at l HeadingKind H) n)

  module _ (terms : Terms) where
    abbrev Falling : ℕ → Type 0
    Falling n = (i : Item) × ((is : List Item) × ((file_from n (drop at s)).items ≡ i ∷ is)) × (item_barred terms i ≡ true)

    pub falls_unread : heading_of (span at (line_at s at).end s) ≡ None → (n : ℕ) → Falling n
    unfolding head_of
    falls_unread e n =
        (item_of (row_at s at n) (rest n), ((rest n).items, items_here n), unreadable terms (item_of (row_at s at n) (rest n)) (ap (cond (continued (rest n).top) None) e ∙ either (continued (rest n).top)))
      where
        either : (t : Bool) → ◌≡◌ {A = Option Heading} (cond t None None) None
        either true = refl
        either false = refl

    module _ (h : Heading) (e : heading_of (span at (line_at s at).end s) ≡ Some h) where
      pub falls : ((bad_at s at || low_at s (line_at s at).next) || head_breaks (basis_of terms) h) ≡ true → (n : ℕ) → Falling n
      unfolding rule1
      falls q n = go (low_at s (line_at s at).next) refl q
        where
          bars : item_barred terms (item_of (row_at s at n) (rest n)) ≡ true → Falling n
          bars w = (item_of (row_at s at n) (rest n), ((rest n).items, items_here n), w)

          without : (a b : Bool) → ((a || false) || b) ≡ true → (a || b) ≡ true
          without true b w = refl
          without false b w = w

          go : (t : Bool) → low_at s (line_at s at).next ≡ t → ((bad_at s at || t) || head_breaks (basis_of terms) h) ≡ true → Falling n
          go true w z =
              let there = low_there s (line_at s at).next w (suc n) in
              bars (ap (λ (ls : List LowRow). item_barred terms (record { head = owned (row_at s at n) ls; fields = (rest n).loose })) there.2 ∙ low_bars terms (row_at s at n) there.0 there.1 (rest n).loose)
          go false w z =
              bars
              (ap (λ (ls : List LowRow). item_barred terms (record { head = owned (row_at s at n) ls; fields = (rest n).loose })) (bare s (line_at s at).next w (suc n))
              ∙ item_left terms (row_at s at n) h e (rest n).loose
              ∙ ap (λ (t : Bool). t || (rule15 h (kc_among (rest n).loose) || fields_barred terms h [] (rest n).loose)) (without (bad_at s at) (head_breaks (basis_of terms) h) z))

      pub starts : ((bad_at s at || low_at s (line_at s at).next) || head_breaks (basis_of terms) h) ≡ false → (n : ℕ) → HeadAt terms h s at n (line_at s at).next
      unfolding rule1
      starts q n =
          let own = or_left (bad_at s at || low_at s (line_at s at).next) (head_breaks (basis_of terms) h) q in
          let none = or_right (bad_at s at) (low_at s (line_at s at).next) own in
          record {
            row = row_at s at n;
            cut = items_here n ∙ ap (λ (ls : List LowRow). record { head = owned (row_at s at n) ls; fields = (rest n).loose } ∷ (rest n).items) (bare s (line_at s at).next none (suc n));
            reads = e;
            left = λ gs.
                item_left terms (row_at s at n) h e gs
                ∙ (λ i. (or_left (bad_at s at) (low_at s (line_at s at).next) own i || or_right (bad_at s at || low_at s (line_at s at).next) (head_breaks (basis_of terms) h) q i) || (rule15 h (kc_among gs) || fields_barred terms h [] gs));
          }
