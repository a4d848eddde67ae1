-- A row of keys in order and spans in order, closed up, is the spans with the keys added one at a time: both hold the same numbers.
use Prim.Native.Nat.{ℕ, ◌+◌, ◌≤◌}
use native.Mathlib.Omega.{arith}
use mathlib.Core.Path.{◌≡◌, refl, sym, subst}
use mathlib.Core.Bool.{Bool, true, false}
use mathlib.Core.List.{List, [], ◌∷◌}
use mathlib.Core.Logic.{◌⊎◌, inl, inr}
use lib.Dec.{eqb, leb}
use borrow.Author.Tests.{leb-true, leb-false, eqb-true, eqb-false, eq-eqb}
use Rattle.laws.proofs.Truth.{by_test}
use Rattle.sorting.specs.Sorting.{count, Same, Rises}
use Rattle.register.specs.Spans.{Span, Has, Strung, Least, add_span, add_keys}
use Rattle.register.proofs.Spans.{ordered, ordered_all, members_to, members_from, member_own, determined, weaken}
use Rattle.merging.specs.Merging.{one, weave, hits, closed}
use Rattle.merging.proofs.Covers.{within, cover, Held, inside, below, above, held_is, held_in, has_cover, cover_has, cover_weave, climbs_weave, closed_strung, closed_cover}

pub count_same : (j k : ℕ) (ks : List ℕ) → k ≡ j → count j (k ∷ ks) ≡ 1 + count j ks
unfolding count
count_same j k ks e = rw (eq-eqb j k (sym e))

pub count_least : (j k : ℕ) (ks : List ℕ) → count j ks ≤ count j (k ∷ ks)
unfolding count
count_least j k ks = omega arith

-- a number that stands among some is the first of them or stands among the rest
pub data Among (j k : ℕ) (ks : List ℕ) : Type 0 where
  first : k ≡ j → count j (k ∷ ks) ≡ 1 + count j ks → Among j k ks
  later : (k ≡ j → ⊥) → count j (k ∷ ks) ≡ count j ks → Among j k ks

pub among_is : (j k : ℕ) (ks : List ℕ) → Among j k ks
unfolding count
among_is j k ks = by_test (eqb j k)
    (λ p. first (sym (eqb-true j k p)) (rw p))
    (λ p. later (λ e. eqb-false j k p (sym e)) (rw p (omega arith)))

pub count_no : (j : ℕ) → count j [] ≡ 0
unfolding count
count_no j = refl

-- ---- keys added one at a time
keys_had : (ks : List ℕ) (ss : List Span) → Strung 0 ss → (j : ℕ) → Has ss j → Has (add_keys ks ss) j
keys_had [] ss S j h = h
keys_had (k ∷ ks) ss S j h = keys_had ks (add_span k ss) (ordered 0 k ss S (omega arith)) j (members_from 0 k ss S j h)

keys_own : (ks : List ℕ) (ss : List Span) → Strung 0 ss → (j : ℕ) → 1 ≤ count j ks → Has (add_keys ks ss) j
keys_own [] ss S j h = absurd (omega (arith, count_no j))
keys_own (k ∷ ks) ss S j h = go (among_is j k ks) (λ q. keys_own ks (add_span k ss) (ordered 0 k ss S (omega arith)) j q)
  where
    go : Among j k ks → (1 ≤ count j ks → Has (add_keys ks (add_span k ss)) j) → Has (add_keys ks (add_span k ss)) j
    go (first e c) ih = keys_had ks (add_span k ss) (ordered 0 k ss S (omega arith)) j (subst (λ (x : ℕ). Has (add_span k ss) x) e (member_own 0 k ss S))
    go (later e c) ih = ih (omega arith)

keys_to : (ks : List ℕ) (ss : List Span) → Strung 0 ss → (j : ℕ) → Has (add_keys ks ss) j → (1 ≤ count j ks) ⊎ Has ss j
keys_to [] ss S j h = inr h
keys_to (k ∷ ks) ss S j h = go (keys_to ks (add_span k ss) (ordered 0 k ss S (omega arith)) j h)
  where
    was : (k ≡ j) ⊎ Has ss j → (1 ≤ count j (k ∷ ks)) ⊎ Has ss j
    was (inl e) = inl (omega (arith, count_same j k ks e))
    was (inr q) = inr q

    go : (1 ≤ count j ks) ⊎ Has (add_span k ss) j → (1 ≤ count j (k ∷ ks)) ⊎ Has ss j
    go (inl c) = inl (omega (arith, count_least j k ks))
    go (inr q) = was (members_to 0 k ss S j q)

-- ---- both are the same spans, after that of 0
module _ (ss : List Span) (us ks : List ℕ) (S : Strung 2 ss) (L : Least 2 us) (R : Rises 2 ks) (E : Same us ks) (e : hits 0 (weave ss ks) ≡ false) where
  S₀ : Strung 0 ss
  S₀ = weaken 0 ss S (omega arith)

  covered : (j : ℕ) → cover (closed 0 0 (weave ss ks)) j ≡ within (one 0) j + (cover ss j + count j us)
  covered j = omega (arith, closed_cover 2 0 0 (weave ss ks) (climbs_weave 2 ss ks S R) (omega arith) e j, cover_weave ss ks j, E j)

  to : (j : ℕ) → Has (closed 0 0 (weave ss ks)) j → Has (one 0 ∷ add_keys us ss) j
  to j h = let c = has_cover (closed 0 0 (weave ss ks)) j h in let d = covered j in go (held_is (one 0) j) (leb 1 (cover ss j)) refl c d
    where
      go : Held (one 0) j → (x : Bool) → leb 1 (cover ss j) ≡ x → 1 ≤ cover (closed 0 0 (weave ss ks)) j → cover (closed 0 0 (weave ss ks)) j ≡ within (one 0) j + (cover ss j + count j us)
          → Has (one 0 ∷ add_keys us ss) j
      go (inside a b w) x p c d = inl (a, b)
      go (below a w) x p c d = absurd (omega arith)
      go (above a w) true p c d = inr (keys_had us ss S₀ j (cover_has ss j (leb-true _ _ p)))
      go (above a w) false p c d = inr (keys_own us ss S₀ j (omega (arith, leb-false 1 (cover ss j) p)))

  from : (j : ℕ) → Has (one 0 ∷ add_keys us ss) j → Has (closed 0 0 (weave ss ks)) j
  from j (inl i) = cover_has (closed 0 0 (weave ss ks)) j (omega (arith, covered j, held_in (one 0) j i.0 i.1))
  from j (inr h) = cover_has (closed 0 0 (weave ss ks)) j (go (keys_to us ss S₀ j h))
    where
      go : (1 ≤ count j us) ⊎ Has ss j → 1 ≤ cover (closed 0 0 (weave ss ks)) j
      go (inl c) = omega (arith, covered j)
      go (inr q) = omega (arith, covered j, has_cover ss j q)

  pub closed_is : closed 0 0 (weave ss ks) ≡ one 0 ∷ add_keys us ss
  closed_is =
      determined 0 0 (closed 0 0 (weave ss ks)) (one 0 ∷ add_keys us ss)
      (closed_strung 2 0 0 (weave ss ks) (climbs_weave 2 ss ks S R) (omega arith) e)
      (omega arith, omega arith, ordered_all 2 us ss S L)
      to from
