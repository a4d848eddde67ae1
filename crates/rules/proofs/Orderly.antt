-- The tests of each line of a file ascend by rule, and no rule is over 63: so a rule is tested once at a line, and the broken ones can be one
-- set of marks.
use Prim.Native.Nat.{ℕ, suc, ◌≤◌, ◌<◌}
use mathlib.Core.Path.{◌≡◌, refl, sym, subst}
use mathlib.Core.Bool.{Bool, true, false, ◌&&◌}
use mathlib.Core.Option.{Option, none, some}
use mathlib.Core.List.Memᴰ
use mathlib.Core.List.{List, [], ◌∷◌, ◌++◌, map, Memᴰ}
use mathlib.Core.Logic.{◌⊎◌, inl, inr}
use lib.Dec.{T, leb, ltb}
use borrow.Author.Tests.{leb-true, ltb-true}
use Rattle.laws.proofs.Entries.{and_left, and_right}
use Rattle.rules.specs.Terms.{Terms}
use Rattle.rules.specs.Rows.{Row, FieldRow, LowRow}
use Rattle.rules.specs.Tree.{Owned, Item, File}
use Rattle.rules.specs.Said.{head_of, is_unreadable, digest}
use Rattle.rules.specs.Tests.{Test, ◌if◌, Spot}
use Rattle.rules.specs.LineRules.{Place, nowhere, inside, rule1, rule4}
use Rattle.rules.specs.Spots.{low_tests, field_tests, loose_tests, own_tests, block_tests, rule16_at, head_tests, low_spot, lows, place_in, field_spot, fields, inner, items, spots}
use Rattle.rules.proofs.Rising.{Rising}
use Rattle.headings.specs.declared.Heading.{Heading}
use Rattle.std.specs.Prelude.{None, Option as Optional, Some}

-- ---- tests that ascend
-- the rules ascend, from k on, and are below 64
abbrev pub ascending : ℕ → List Test → Bool
ascending k [] = true
ascending k (t ∷ ts) = leb k t.rule && (ltb t.rule 64 && ascending (suc t.rule) ts)

-- the first of ascending tests, and the others
pub first_from : (k : ℕ) (t : Test) (ts : List Test) → T (ascending k (t ∷ ts)) → (k ≤ t.rule) × (t.rule < 64) × T (ascending (suc t.rule) ts)
first_from k t ts a =
    let u : T (ltb t.rule 64 && ascending (suc t.rule) ts) = and_right (leb k t.rule) (ltb t.rule 64 && ascending (suc t.rule) ts) a in (
      leb-true k t.rule (holds (leb k t.rule) (and_left (leb k t.rule) (ltb t.rule 64 && ascending (suc t.rule) ts) a)),
      ltb-true t.rule 64 (holds (ltb t.rule 64) (and_left (ltb t.rule 64) (ascending (suc t.rule) ts) u)),
      and_right (ltb t.rule 64) (ascending (suc t.rule) ts) u,
    )
  where
    holds : (b : Bool) → T b → b ≡ true
    holds true x = refl
    holds false x = absurd x

-- the rules of ascending tests rise
pub tests_rise : (k : ℕ) (ts : List Test) → T (ascending k ts) → Rising k (map (λ (t : Test). t.rule) ts)
tests_rise k [] a = tt
tests_rise k (t ∷ ts) a = let f = first_from k t ts a in (f.0, tests_rise (suc t.rule) ts f.2)

-- ---- spots whose tests ascend
-- the tests of each line ascend
abbrev pub Orderly : List Spot → Type 0
Orderly [] = Unit {0}
Orderly (s ∷ ss) = T (ascending 0 s.tests) × Orderly ss

pub orderly_append : (xs ys : List Spot) → Orderly xs → Orderly ys → Orderly (xs ++ ys)
orderly_append [] ys O Q = Q
orderly_append (x ∷ xs) ys O Q = (O.0, orderly_append xs ys O.1 Q)

pub orderly_at : (ss : List Spot) (s : Spot) → Orderly ss → Memᴰ s ss → T (ascending 0 s.tests)
orderly_at [] s O m = absurd (Memᴰ.not-nil m)
orderly_at (d ∷ ss) s O m = go (orderly_at ss s O.1) (Memᴰ.cases_cons m)
  where
    go : (Memᴰ s ss → T (ascending 0 s.tests)) → (s ≡ d) ⊎ Memᴰ s ss → T (ascending 0 s.tests)
    go ih (inl e) = subst (λ (x : Spot). T (ascending 0 x.tests)) (sym e) O.0
    go ih (inr n) = ih n

-- ---- the tests of each line of a file
module _ (terms : Terms) where
  head_ascends : (above : List Item) (i : Item) (below : List Item) → T (ascending 0 (head_tests terms above i below))
  unfolding head_tests own_tests block_tests
  head_ascends above i below = go (head_of i.head)
    where
      go : (hd : Optional Heading)
          → T (ascending 0 ((1 if rule1 i.head.owner) ∷ (4 if rule4 i.head.owner) ∷ (6 if is_unreadable (head_of i.head))
          ∷ (own_tests terms (digest i) hd ++ ((16 if rule16_at above i below) ∷ block_tests (map digest above) (digest i) hd))))
      go (Some h) = tt
      go None = tt

  lows_orderly : (p : Place) (ls : List LowRow) → Orderly (lows p ls)
  unfolding low_spot low_tests
  lows_orderly p [] = tt
  lows_orderly p (l ∷ ls) = (tt, lows_orderly p ls)

  field_ascends : (h : Option (Owned Row)) (above : List (Owned FieldRow)) (g : Owned FieldRow) → T (ascending 0 (field_spot terms h above g).tests)
  unfolding field_spot loose_tests field_tests
  field_ascends none above g = tt
  field_ascends (some h) above g = tt

  fields_orderly : (h : Option (Owned Row)) (above gs : List (Owned FieldRow)) → Orderly (fields terms h above gs)
  fields_orderly h above [] = tt
  fields_orderly h above (g ∷ gs) =
      (field_ascends h above g, orderly_append (lows (place_in h) g.below) (fields terms h (g ∷ above) gs) (lows_orderly (place_in h) g.below) (fields_orderly h (g ∷ above) gs))

  inner_orderly : (i : Item) → Orderly (inner terms i)
  inner_orderly i = orderly_append (lows inside i.head.below) (fields terms (some i.head) [] i.fields) (lows_orderly inside i.head.below) (fields_orderly (some i.head) [] i.fields)

  items_orderly : (above is : List Item) → Orderly (items terms above is)
  items_orderly above [] = tt
  items_orderly above (i ∷ is) = (head_ascends above i is, orderly_append (inner terms i) (items terms (i ∷ above) is) (inner_orderly i) (items_orderly (i ∷ above) is))

  pub spots_orderly : (f : File) → Orderly (spots terms f)
  spots_orderly f =
      orderly_append (lows nowhere f.top) (fields terms none [] f.loose ++ items terms [] f.items) (lows_orderly nowhere f.top)
      (orderly_append (fields terms none [] f.loose) (items terms [] f.items) (fields_orderly none [] f.loose) (items_orderly [] f.items))
