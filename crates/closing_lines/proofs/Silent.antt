-- No rule at a field is broken by the lines of a closing item: their bytes are plain, each has its CR LF, no identifier stands twice, they
-- read, and they are neither accounts nor payments.
use mathlib.Core.Path.{◌≡◌, refl, sym, ap, ◌∙◌}
use mathlib.Core.Bool.{Bool, true, false, cond}
use mathlib.Core.Option.{some}
use mathlib.Core.List.{List, [], ◌∷◌, ◌++◌, reverse_aux}
use Prim.Native.Nat.{ℕ, suc, ◌+◌, ◌≤◌, ◌<◌}
use native.Mathlib.Omega.{arith}
use lib.Dec.{eqb}
use lib.ListN.{length, get_or}
use borrow.Author.Tests.{eq-eqb, ne_eqb}
use Rattle.laws.specs.Lists.{any_of, sum}
use Rattle.laws.proofs.Any.{weaker}
use Rattle.laws.proofs.Finite.{agree}
use Rattle.text.specs.Characters.{is_inadmissible, is_odd}
use Rattle.headings.specs.declared.Heading.{Heading}
use Rattle.figures.specs.declared.parts.Halves.{Halves}
use Rattle.fields.specs.declared.readings.Reading.TheVariants.{Span}
use Rattle.fields.specs.Kinds.{named, place, kind_of}
use Rattle.fields.specs.Classes.{class_of, sum_group}
use Rattle.fields.specs.Tails.{reads}
use Rattle.rules.specs.Terms.{Terms}
use Rattle.rules.specs.Rows.{FieldRow}
use Rattle.rules.specs.Tree.{Owned}
use Rattle.rules.specs.Tests.{broken_of}
use Rattle.rules.specs.LineRules.{rule1}
use Rattle.rules.specs.FieldRules.{of_party, prefix_fails, number_fails, number_zero}
use Rattle.rules.specs.Said.{continuations, says, stands, span_of, stated_of}
use Rattle.rules.specs.Blocks.{oldest}
use Rattle.rules.specs.BlockRules.{span_wrong, misstated}
use Rattle.rules.specs.Spots.{field_tests}
use Rattle.closing_lines.specs.Closing.{in_text, sum_text, sum_texts_from, closing_texts}
use Rattle.closing_lines.proofs.ReadBack.{in_kind, in_class_lem, in_reads, in_says, group_field, group_class, group_digit, sum_kind, sum_reads, sum_says}
use Rattle.closing_lines.proofs.Plain.{in_plain, sum_plain, not_inadmissible}
use Rattle.closing_lines.proofs.AsFields.{bare_field, AsFields, nothing, next, one_ident, says_bare, said_of}
use Rattle.std.specs.Prelude.{Option}

-- no rule is broken at any of some fields, by those above them with the nearest first
abbrev pub Silent : Terms → Option Heading → List (Owned FieldRow) → List (Owned FieldRow) → Type 0
Silent terms h above [] = Unit {0}
Silent terms h above (g ∷ gs) = (broken_of (field_tests terms h above g) ≡ []) × Silent terms h (g ∷ above) gs

-- those below, and then more
pub silent_more : (terms : Terms) (h : Option Heading) (above gs hs : List (Owned FieldRow)) → Silent terms h above gs → Silent terms h (reverse_aux gs above) hs
    → Silent terms h above (gs ++ hs)
silent_more terms h above [] hs s r = r
silent_more terms h above (g ∷ gs) hs s r = (s.0, silent_more terms h (g ∷ above) gs hs s.1 r)

-- ---- one field

module _ (terms : Terms) (h : Option Heading) (above : List (Owned FieldRow)) (n i : ℕ) (t : List ℕ) where
  field_silent : any_of is_odd t ≡ false → stands i above ≡ false → reads (class_of i) t [] ≡ true → eqb i (named "KC") ≡ false
      → ((wrong : Halves → Bool) → of_party wrong (says (bare_field n i t)) ≡ false)
      → broken_of (field_tests terms h above (bare_field n i t)) ≡ []
  unfolding field_tests rule1 continuations
  field_silent p s r k o =
      rw (weaker is_odd is_inadmissible not_inadmissible t p, s, r, k, o prefix_fails, o number_fails, o number_zero)

-- ---- identifiers are told apart

group_apart : (c d : ℕ) → c < 10 → d < 10 → (c ≡ d → ⊥) → eqb (group_field c) (group_field d) ≡ false
group_apart c d h k e = ne_eqb (group_field c) (group_field d) (λ q. e (sym (group_digit c h) ∙ ap sum_group q ∙ group_digit d k))

in_apart : (d : ℕ) → d < 10 → eqb (named "IN") (group_field d) ≡ false
unfolding place
in_apart d h = agree (λ c. eqb (named "IN") (group_field c)) (λ c. false) 10 tt d h

kc_apart : (d : ℕ) → d < 10 → eqb (group_field d) (named "KC") ≡ false
unfolding place
kc_apart d h = agree (λ c. eqb (group_field c) (named "KC")) (λ c. false) 10 tt d h

in_no_kc : eqb (named "IN") (named "KC") ≡ false
unfolding place
in_no_kc = refl

-- ---- all of them

module _ (terms : Terms) (h : Option Heading) where
  sum_silent : (above : List (Owned FieldRow)) (d n t m : ℕ) → d < 10 → n < 10000000 → t < 100000000000000000 → stands (group_field d) above ≡ false
      → broken_of (field_tests terms h above (bare_field m (group_field d) (sum_text d n t))) ≡ []
  sum_silent above d n t m k u v s =
      field_silent terms h above m (group_field d) (sum_text d n t) (sum_plain d n t) s (rw (group_class d k) (sum_reads d k n t u v)) (kc_apart d k)
      (λ wrong. rw (says_bare m (group_field d) (sum_text d n t), group_class d k, sum_says d k n t u v))

  sums_silent : (d : ℕ) (ns ts : List ℕ) (above gs : List (Owned FieldRow)) → d + length ns ≤ 10
      → ((k : ℕ) → get_or ns k 0 < 10000000) → ((k : ℕ) → get_or ts k 0 < 100000000000000000)
      → ((k : ℕ) → d ≤ k → k < 10 → stands (group_field k) above ≡ false) → AsFields (sum_texts_from d ns ts) gs → Silent terms h above gs
  unfolding sum_texts_from stands
  sums_silent d [] ts above _ l u v s nothing = tt
  sums_silent d (n ∷ ns) [] above _ l u v s nothing = tt
  sums_silent d (n ∷ ns) (t ∷ ts) above gs l u v s A =
      go (eqb n 0) gs (λ over hs. sums_silent (suc d) ns ts over hs (omega arith) (λ k. u (suc k)) (λ k. v (suc k))) A
    where
      go : (b : Bool) (hs : List (Owned FieldRow))
          → ((over is : List (Owned FieldRow)) → ((k : ℕ) → suc d ≤ k → k < 10 → stands (group_field k) over ≡ false) → AsFields (sum_texts_from (suc d) ns ts) is → Silent terms h over is)
          → AsFields (cond b (sum_texts_from (suc d) ns ts) (sum_text d n t ∷ sum_texts_from (suc d) ns ts)) hs → Silent terms h above hs
      go true hs r B = r above hs (λ k x y. s k (omega arith) y) B
      go false _ r (next m i q B) =
          let w : d < 10 = omega arith in
          rw (one_ident (kind_of (sum_text d n t)) q (sum_kind d w n t))
          (sum_silent above d n t m w (u 0) (v 0) (s d (omega arith) w), r _ _ (λ k x y. rw (group_apart d k w y (λ e. omega arith)) (s k (omega arith) y)) B)

  pub closing_silent : (a b : ℕ) (counts sums : List ℕ) (gs : List (Owned FieldRow)) → a < 10000000 → b < 10000000 → length counts ≤ 10
      → ((k : ℕ) → get_or counts k 0 < 10000000) → ((k : ℕ) → get_or sums k 0 < 100000000000000000)
      → AsFields (closing_texts a b counts sums) gs → Silent terms h [] gs
  unfolding closing_texts stands
  closing_silent a b counts sums gs x y l u v A = go gs A
    where
      go : (hs : List (Owned FieldRow)) → AsFields (in_text a b ∷ sum_texts_from 0 counts sums) hs → Silent terms h [] hs
      go _ (next n i q B) =
          rw (one_ident (kind_of (in_text a b)) q (in_kind a b)) (
            field_silent terms h [] n (named "IN") (in_text a b) (in_plain a b) refl (rw in_class_lem (in_reads a b x y)) in_no_kc
                (λ wrong. rw (says_bare n (named "IN") (in_text a b), in_class_lem, in_says a b x y)),
            sums_silent 0 counts sums _ _ (omega arith) u v (λ k _ z. rw (in_apart k z)) B,
          )

-- ---- what the rules of blocks ask of them

-- a group that is written as its numbers are isn't misstated, written or not
pub well_stated : (ns : List ℕ) → misstated (length ns) (sum ns) (stated_of (said_of (length ns) (sum ns))) ≡ false
well_stated [] = refl
well_stated (x ∷ xs) = rw (ne_eqb (suc (length xs)) 0 (λ e. omega arith), eq-eqb (suc (length xs)) (suc (length xs)) refl, eq-eqb (x + sum xs) (x + sum xs) refl)

-- nor is an IN of the first and last number
pub well_spanned : (g : Heading) (gs : List Heading) → span_wrong (g ∷ gs) (span_of (some (Span (oldest g gs).number g.number))) ≡ false
well_spanned g gs = rw (eq-eqb (oldest g gs).number.0 (oldest g gs).number.0 refl, eq-eqb g.number.0 g.number.0 refl)
