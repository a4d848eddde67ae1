-- The third demand, rule by rule: a pair is in the list exactly when the rule's own definition says that it is broken at the line.
use Prim.Native.Nat.{ℕ}
use mathlib.Core.Path.{◌≡◌, refl, sym, subst}
use mathlib.Core.Bool.{Bool, true, false≢true}
use mathlib.Core.Option.{none, some}
use mathlib.Core.List.Memᴰ
use mathlib.Core.List.{List, map, Memᴰ}
use mathlib.Core.Logic.{◌↔◌, ◌⊎◌, inl, inr}
use Rattle.headings.specs.declared.Heading.{Heading}
use Rattle.figures.specs.declared.parts.Number.{Number}
use Rattle.figures.specs.declared.parts.Number.TheVariants.{Good, Failing, Zero}
use Rattle.fields.specs.declared.readings.Reading.{Reading}
use Rattle.fields.specs.declared.readings.Reading.TheVariants.{Broken, Plain, Paid, Span, Stated, Party}
use Rattle.rules.specs.Tests.{◌if◌}
use Rattle.rules.specs.Terms.{Terms}
use Rattle.rules.specs.Rows.{Row, FieldRow, LowRow}
use Rattle.rules.specs.Tree.{Owned, Item}
use Rattle.rules.specs.Said.{head_of, says, digest}
use Rattle.rules.specs.LineRules.{Place}
use Rattle.rules.specs.FieldRules.{of_party, is_failing, is_zero, number_fails, number_zero, rule6, rule23, rule24}
use Rattle.rules.specs.HeadingRules.{rule6_at}
use Rattle.rules.specs.BlockRules.{rule16, rule19}
use Rattle.rules.specs.Spots.{low_tests, field_tests, loose_tests, own_tests, block_tests, rule16_at, head_tests, low_spot, field_spot, head_spot}
use Rattle.rules.specs.Faults.{fault, faults}
use Rattle.rules.specs.Demand.{spots_of}
use Rattle.rules.proofs.Demand.{listed_by_its_test}
use Rattle.std.specs.Prelude.{Option, Some}

-- a number does not fail where it is zero
fails_or_zero : (said : Reading) → of_party number_fails said ≡ true → of_party number_zero said ≡ true → ⊥
fails_or_zero Broken e f = false≢true e
fails_or_zero Plain e f = false≢true e
fails_or_zero (Paid a d) e f = false≢true e
fails_or_zero (Span a b) e f = false≢true e
fails_or_zero (Stated n a) e f = false≢true e
fails_or_zero (Party h) e f = go h.number e f
  where
    go : (n : Number) → is_failing n ≡ true → is_zero n ≡ true → ⊥
    go Good e f = false≢true e
    go Failing e f = false≢true f
    go Zero e f = false≢true e

module _ (terms : Terms) (file : List ℕ) where
  abbrev InList : ℕ → ℕ → Type 0
  InList line r = Memᴰ (fault line r) (faults terms file)

  -- 1 to 4, at a continuation or a line of no kind of the file
  pub at_low : (p : Place) (l : LowRow) → Memᴰ (low_spot p l) (spots_of terms file) → (r : ℕ) (b : Bool) → Memᴰ (r if b) (low_tests p l)
      → InList l.row.no r ↔ (b ≡ true)
  unfolding low_spot
  at_low p l m r b t = listed_by_its_test terms file (low_spot p l) m r b t

  -- 1, 4, 5 to 9, 23 and 24, at a field of an item
  pub at_field : (h : Owned Row) (above : List (Owned FieldRow)) (g : Owned FieldRow) → Memᴰ (field_spot terms (some h) above g) (spots_of terms file)
      → (r : ℕ) (b : Bool) → Memᴰ (r if b) (field_tests terms (head_of h) above g) → InList g.owner.row.no r ↔ (b ≡ true)
  unfolding field_spot
  at_field h above g m r b t = listed_by_its_test terms file (field_spot terms (some h) above g) m r b t

  -- 1, 3 and 4, at a field above the first heading
  pub at_loose : (above : List (Owned FieldRow)) (g : Owned FieldRow) → Memᴰ (field_spot terms none above g) (spots_of terms file)
      → (r : ℕ) (b : Bool) → Memᴰ (r if b) (loose_tests g) → InList g.owner.row.no r ↔ (b ≡ true)
  unfolding field_spot
  at_loose above g m r b t = listed_by_its_test terms file (field_spot terms none above g) m r b t

  -- so 6 at a field
  pub six_at_field : (h : Owned Row) (above : List (Owned FieldRow)) (g : Owned FieldRow) → Memᴰ (field_spot terms (some h) above g) (spots_of terms file)
      → InList g.owner.row.no 6 ↔ (rule6 g ≡ true)
  unfolding field_tests
  six_at_field h above g m = at_field h above g m 6 (rule6 g) (Memᴰ.tail (Memᴰ.tail (Memᴰ.tail (Memᴰ.head refl))))

  -- 23 and 24, of which no field breaks both
  module _ (h : Owned Row) (above : List (Owned FieldRow)) (g : Owned FieldRow) (m : Memᴰ (field_spot terms (some h) above g) (spots_of terms file)) where
    pub twenty_three_at_field : InList g.owner.row.no 23 ↔ (rule23 g ≡ true)
    unfolding field_tests
    twenty_three_at_field =
        at_field h above g m 23 (rule23 g) (Memᴰ.tail (Memᴰ.tail (Memᴰ.tail (Memᴰ.tail (Memᴰ.tail (Memᴰ.tail (Memᴰ.tail (Memᴰ.head refl))))))))

    pub twenty_four_at_field : InList g.owner.row.no 24 ↔ (rule24 g ≡ true)
    unfolding field_tests
    twenty_four_at_field =
        at_field h above g m 24 (rule24 g) (Memᴰ.tail (Memᴰ.tail (Memᴰ.tail (Memᴰ.tail (Memᴰ.tail (Memᴰ.tail (Memᴰ.tail (Memᴰ.tail (Memᴰ.head refl)))))))))

    pub never_both : InList g.owner.row.no 23 → InList g.owner.row.no 24 → ⊥
    never_both p q = fails_or_zero (says g) (twenty_three_at_field.0 p) (twenty_four_at_field.0 q)

  -- at the heading of an item with these items above and below
  module _ (above : List Item) (i : Item) (below : List Item) (m : Memᴰ (head_spot terms above i below) (spots_of terms file)) where
    -- 1 and 4, and all others
    pub at_heading : (r : ℕ) (b : Bool) → Memᴰ (r if b) (head_tests terms above i below) → InList i.head.owner.no r ↔ (b ≡ true)
    at_heading r b t = listed_by_its_test terms file (head_spot terms above i below) m r b t

    pub six_at_heading : InList i.head.owner.no 6 ↔ (rule6_at i.head ≡ true)
    unfolding head_tests
    six_at_heading = at_heading 6 (rule6_at i.head) (Memᴰ.tail (Memᴰ.tail (Memᴰ.head refl)))

    pub sixteen_at_heading : InList i.head.owner.no 16 ↔ (rule16 (map digest above) (digest i) (map digest below) ≡ true)
    unfolding head_tests
    sixteen_at_heading =
        at_heading 16 (rule16_at above i below) (Memᴰ.tail (Memᴰ.tail (Memᴰ.tail
        (Memᴰ.append_right (own_tests terms (digest i) (head_of i.head)) (Memᴰ.head refl)))))

    -- 10 to 15, and 17 to 21 and 30 to 39, at one that reads as h
    module _ (h : Heading) (e : head_of i.head ≡ Some h) where
      pub at_readable : (r : ℕ) (b : Bool)
          → Memᴰ (r if b) (own_tests terms (digest i) (Some h)) ⊎ Memᴰ (r if b) (block_tests (map digest above) (digest i) (Some h))
          → InList i.head.owner.no r ↔ (b ≡ true)
      unfolding head_tests
      at_readable r b (inl t) =
          at_heading r b (Memᴰ.tail (Memᴰ.tail (Memᴰ.tail
          (Memᴰ.append_left _ (subst (λ (hd : Option Heading). Memᴰ (r if b) (own_tests terms (digest i) hd)) (sym e) t)))))
      at_readable r b (inr t) =
          at_heading r b (Memᴰ.tail (Memᴰ.tail (Memᴰ.tail
          (Memᴰ.append_right (own_tests terms (digest i) (head_of i.head))
          (Memᴰ.tail (subst (λ (hd : Option Heading). Memᴰ (r if b) (block_tests (map digest above) (digest i) hd)) (sym e) t))))))

      -- so 19
      pub nineteen_at_heading : InList i.head.owner.no 19 ↔ (rule19 (map digest above) h ≡ true)
      unfolding block_tests
      nineteen_at_heading = at_readable 19 (rule19 (map digest above) h) (inr (Memᴰ.tail (Memᴰ.tail (Memᴰ.head refl))))
