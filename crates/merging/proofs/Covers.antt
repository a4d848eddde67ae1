-- How many spans of a row hold a number. A row of keys and spans covers what both cover together; it hits itself where a number is
-- covered twice, and nowhere else.
use Prim.Native.Nat.{ℕ, ◌+◌, ◌≤◌, ◌<◌}
use native.Mathlib.Omega.{arith}
use mathlib.Core.Path.{◌≡◌, refl, sym, ap, ◌∙◌}
use mathlib.Core.Bool.{Bool, true, false, cond, ◌&&◌, ◌||◌, false≢true}
use mathlib.Core.List.{List, [], ◌∷◌}
use mathlib.Core.Logic.{inl, inr}
use lib.Dec.{eqb, leb, ltb}
use borrow.Author.Tests.{ltb-true, ltb-false, leb-true, leb-false, eqb-true, eqb-false}
use Rattle.laws.proofs.Truth.{by_test}
use Rattle.sorting.specs.Sorting.{count, Rises}
use Rattle.register.specs.Spans.{Span, Has, Strung}
use Rattle.register.proofs.Spans.{weaken}
use Rattle.merging.specs.Merging.{one, ones, after, weave, hits, closed}

unfoldable pub within : Span → ℕ → ℕ
within s j = cond (leb s.from j && leb j s.to) 1 0

unfoldable pub cover : List Span → ℕ → ℕ
cover [] j = 0
cover (s ∷ ss) j = within s j + cover ss j

pub cover_more : (s : Span) (ss : List Span) (j : ℕ) → cover (s ∷ ss) j ≡ within s j + cover ss j
unfolding cover
cover_more s ss j = refl

pub cover_none : (j : ℕ) → cover [] j ≡ 0
unfolding cover
cover_none j = refl

-- ---- where a number stands to a span
pub data Held (s : Span) (j : ℕ) : Type 0 where
  inside : s.from ≤ j → j ≤ s.to → within s j ≡ 1 → Held s j
  below : j < s.from → within s j ≡ 0 → Held s j
  above : s.to < j → within s j ≡ 0 → Held s j

pub held_is : (s : Span) (j : ℕ) → Held s j
unfolding within
held_is s j = go (leb s.from j) refl (leb j s.to) refl
  where
    go : (x : Bool) → leb s.from j ≡ x → (y : Bool) → leb j s.to ≡ y → Held s j
    go true p true q = inside (leb-true _ _ p) (leb-true _ _ q) (rw (p, q))
    go true p false q = above (leb-false _ _ q) (rw (p, q))
    go false p y q = below (leb-false _ _ p) (rw p)

pub held_in : (s : Span) (j : ℕ) → s.from ≤ j → j ≤ s.to → within s j ≡ 1
held_in s j h l = go (held_is s j)
  where
    go : Held s j → within s j ≡ 1
    go (inside a b e) = e
    go (below a e) = absurd (omega arith)
    go (above a e) = absurd (omega arith)

-- held by one of the spans, and covered
pub has_cover : (ss : List Span) (j : ℕ) → Has ss j → 1 ≤ cover ss j
has_cover [] j p = absurd p
has_cover (s ∷ ss) j (inl i) = omega (arith, cover_more s ss j, held_in s j i.0 i.1)
has_cover (s ∷ ss) j (inr h) = omega (arith, cover_more s ss j, has_cover ss j h)

pub cover_has : (ss : List Span) (j : ℕ) → 1 ≤ cover ss j → Has ss j
cover_has [] j h = absurd (omega (arith, cover_none j))
cover_has (s ∷ ss) j h = go (held_is s j) (λ q. cover_has ss j q)
  where
    go : Held s j → (1 ≤ cover ss j → Has ss j) → Has (s ∷ ss) j
    go (inside a b e) ih = inl (a, b)
    go (below a e) ih = inr (ih (omega (arith, cover_more s ss j)))
    go (above a e) ih = inr (ih (omega (arith, cover_more s ss j)))

-- ---- a row of keys and spans
one_within : (k j : ℕ) → within (one k) j ≡ cond (eqb j k) 1 0
one_within k j = go (eqb j k) refl (held_is (one k) j)
  where
    go : (x : Bool) → eqb j k ≡ x → Held (one k) j → within (one k) j ≡ cond x 1 0
    go true p h = let e = eqb-true j k p in held_in (one k) j (omega arith) (omega arith)
    go false p (inside a b e) = let n = eqb-false j k p in absurd (omega arith)
    go false p (below a e) = e
    go false p (above a e) = e

count_more : (j k : ℕ) (ks : List ℕ) → count j (k ∷ ks) ≡ within (one k) j + count j ks
unfolding count
count_more j k ks = ap (λ (n : ℕ). n + count j ks) (sym (one_within k j))

count_none : (j : ℕ) → count j [] ≡ 0
unfolding count
count_none j = refl

cover_ones : (ks : List ℕ) (j : ℕ) → cover (ones ks) j ≡ count j ks
cover_ones [] j = cover_none j ∙ sym (count_none j)
cover_ones (k ∷ ks) j = omega (arith, cover_more (one k) (ones ks) j, cover_ones ks j, count_more j k ks)

cover_after : (s : Span) (rest : List ℕ → List Span) (n j : ℕ) → ((ks : List ℕ) → cover (rest ks) j ≡ n + count j ks) → (ks : List ℕ) → cover (after s rest ks) j ≡ (within s j + n) + count j ks
unfolding after
cover_after s rest n j H [] = omega (arith, cover_more s (rest []) j, H [], count_none j)
cover_after s rest n j H (k ∷ ks) = by_test (ltb k s.from)
    (λ q. rw q (omega (arith, cover_more (one k) (after s rest ks) j, cover_after s rest n j H ks, count_more j k ks)))
    (λ q. rw q (omega (arith, cover_more s (rest (k ∷ ks)) j, H (k ∷ ks))))

pub cover_weave : (ss : List Span) (ks : List ℕ) (j : ℕ) → cover (weave ss ks) j ≡ cover ss j + count j ks
unfolding weave
cover_weave [] ks j = omega (arith, cover_ones ks j, cover_none j)
cover_weave (s ∷ ss) ks j = omega (arith, cover_after s (weave ss) (cover ss j) j (λ ks. cover_weave ss ks j) ks, cover_more s ss j)

-- ---- the row's order
abbrev pub Climbs : ℕ → List Span → Type 0
Climbs n [] = Unit {0}
Climbs n (s ∷ ss) = (n ≤ s.from) × (s.from ≤ s.to) × Climbs s.from ss

climbs_ones : (n : ℕ) (ks : List ℕ) → Rises n ks → Climbs n (ones ks)
climbs_ones n [] R = tt
climbs_ones n (k ∷ ks) R = (R.0, omega arith, climbs_ones k ks R.1)

climbs_after : (s : Span) (rest : List ℕ → List Span) → s.from ≤ s.to → ((m : ℕ) → m ≤ s.to + 2 → (ks : List ℕ) → Rises m ks → Climbs m (rest ks))
    → (n : ℕ) (ks : List ℕ) → n ≤ s.from → Rises n ks → Climbs n (after s rest ks)
unfolding after
climbs_after s rest l H n [] h R = (h, l, H s.from (omega arith) [] tt)
climbs_after s rest l H n (k ∷ ks) h R = go (ltb k s.from) refl (λ q. climbs_after s rest l H k ks q R.1)
  where
    go : (x : Bool) → ltb k s.from ≡ x → (k ≤ s.from → Climbs k (after s rest ks)) → Climbs n (cond x (one k ∷ after s rest ks) (s ∷ rest (k ∷ ks)))
    go true p ih = let q : k < s.from = ltb-true k s.from p in (R.0, omega arith, ih (omega arith))
    go false p ih = (h, l, H s.from (omega arith) (k ∷ ks) (ltb-false _ _ p, R.1))

pub climbs_weave : (n : ℕ) (ss : List Span) (ks : List ℕ) → Strung n ss → Rises n ks → Climbs n (weave ss ks)
unfolding weave
climbs_weave n [] ks S R = climbs_ones n ks R
climbs_weave n (s ∷ ss) ks S R = climbs_after s (weave ss) S.1 (λ m h ks R. climbs_weave m ss ks (weaken m ss S.2 h) R) n ks S.0 R

pub low : (n : ℕ) (l : List Span) → Climbs n l → (j : ℕ) → j < n → cover l j ≡ 0
low n [] C j h = cover_none j
low n (s ∷ l) C j h = go (held_is s j) (low s.from l C.2 j (omega (arith, C.0)))
  where
    go : Held s j → cover l j ≡ 0 → cover (s ∷ l) j ≡ 0
    go (inside a b e) ih = absurd (omega (arith, C.0))
    go (below a e) ih = omega (arith, cover_more s l j)
    go (above a e) ih = omega (arith, cover_more s l j)

pub strung_once : (n : ℕ) (ss : List Span) → Strung n ss → (j : ℕ) → (cover ss j ≤ 1) × (j < n → cover ss j ≡ 0)
strung_once n [] S j = (omega (arith, cover_none j), λ h. cover_none j)
strung_once n (s ∷ ss) S j = let c = cover_more s ss j in let ih = strung_once (s.to + 2) ss S.2 j in go (held_is s j) c ih.0 ih.1
  where
    go : Held s j → cover (s ∷ ss) j ≡ within s j + cover ss j → cover ss j ≤ 1 → (j < s.to + 2 → cover ss j ≡ 0) → (cover (s ∷ ss) j ≤ 1) × (j < n → cover (s ∷ ss) j ≡ 0)
    go (inside a b e) c i f = let z = f (omega arith) in (omega arith, λ h. absurd (omega (arith, S.0)))
    go (below a e) c i f = let z = f (omega (arith, S.1)) in (omega arith, λ h. omega arith)
    go (above a e) c i f = (omega arith, λ h. absurd (omega (arith, S.0, S.1)))

-- ---- where it hits itself
pub hit_found : (f t : ℕ) (l : List Span) → Climbs f l → f ≤ t → hits t l ≡ true → (j : ℕ) × (2 ≤ cover (record { from = f; to = t } ∷ l) j)
unfolding hits
hit_found f t [] C h e = absurd (false≢true e)
hit_found f t (s ∷ l) C h e = go (leb s.from t) refl e (λ q. hit_found s.from s.to l C.2 C.1 q)
  where
    go : (x : Bool) → leb s.from t ≡ x → (x || hits s.to l) ≡ true → (hits s.to l ≡ true → (j : ℕ) × (2 ≤ cover (record { from = s.from; to = s.to } ∷ l) j)) → (j : ℕ) × (2 ≤ cover (record { from = f; to = t } ∷ s ∷ l) j)
    go true p q ih =
        let b = leb-true s.from t p in
        (s.from, omega (arith, cover_more (record { from = f; to = t }) (s ∷ l) s.from, cover_more s l s.from, held_in (record { from = f; to = t }) s.from C.0 b, held_in s s.from (omega arith) C.1))
    go false p q ih = let r = ih q in (r.0, omega (arith, cover_more (record { from = f; to = t }) (s ∷ l) r.0, r.1))

pub spread : (n t : ℕ) (l : List Span) → Climbs n l → hits t l ≡ false → (j : ℕ) → (cover l j ≤ 1) × (j ≤ t → cover l j ≡ 0)
unfolding hits
spread n t [] C e j = (omega (arith, cover_none j), λ h. cover_none j)
spread n t (s ∷ l) C e j = go (leb s.from t) refl e (λ q. spread s.from s.to l C.2 q j)
  where
    fit : t < s.from → Held s j → cover (s ∷ l) j ≡ within s j + cover l j → cover l j ≤ 1 → (j ≤ s.to → cover l j ≡ 0) → (cover (s ∷ l) j ≤ 1) × (j ≤ t → cover (s ∷ l) j ≡ 0)
    fit b (inside x y e) c i f = let z = f y in (omega arith, λ h. absurd (omega arith))
    fit b (below x e) c i f = let z = f (omega (arith, C.1)) in (omega arith, λ h. omega arith)
    fit b (above x e) c i f = (omega arith, λ h. absurd (omega (arith, C.1)))

    go : (x : Bool) → leb s.from t ≡ x → (x || hits s.to l) ≡ false → (hits s.to l ≡ false → (cover l j ≤ 1) × (j ≤ s.to → cover l j ≡ 0)) → (cover (s ∷ l) j ≤ 1) × (j ≤ t → cover (s ∷ l) j ≡ 0)
    go true p q ih = absurd (false≢true (sym q))
    go false p q ih = let r = ih q in fit (leb-false s.from t p) (held_is s j) (cover_more s l j) r.0 r.1

-- ---- closed up
module _ (a b : ℕ) (f t : ℕ) (j : ℕ) (h : a ≤ b) (e : b + 1 ≡ f) (l : f ≤ t) where
  joined : within (record { from = a; to = t }) j ≡ within (record { from = a; to = b }) j + within (record { from = f; to = t }) j
  joined = go (held_is (record { from = a; to = t }) j) (held_is (record { from = a; to = b }) j) (held_is (record { from = f; to = t }) j)
    where
      go : Held (record { from = a; to = t }) j → Held (record { from = a; to = b }) j → Held (record { from = f; to = t }) j
          → within (record { from = a; to = t }) j ≡ within (record { from = a; to = b }) j + within (record { from = f; to = t }) j
      go (inside x y p) (inside x' y' p') (inside x'' y'' p'') = absurd (omega arith)
      go (inside x y p) (inside x' y' p') (below x'' p'') = omega arith
      go (inside x y p) (inside x' y' p') (above x'' p'') = omega arith
      go (inside x y p) (below x' p') q = absurd (omega arith)
      go (inside x y p) (above x' p') (inside x'' y'' p'') = omega arith
      go (inside x y p) (above x' p') (below x'' p'') = absurd (omega arith)
      go (inside x y p) (above x' p') (above x'' p'') = absurd (omega arith)
      go (below x p) (inside x' y' p') q = absurd (omega arith)
      go (below x p) (below x' p') (inside x'' y'' p'') = absurd (omega arith)
      go (below x p) (below x' p') (below x'' p'') = omega arith
      go (below x p) (below x' p') (above x'' p'') = omega arith
      go (below x p) (above x' p') q = absurd (omega arith)
      go (above x p) (inside x' y' p') q = absurd (omega arith)
      go (above x p) (below x' p') q = absurd (omega arith)
      go (above x p) (above x' p') (inside x'' y'' p'') = absurd (omega arith)
      go (above x p) (above x' p') (below x'' p'') = omega arith
      go (above x p) (above x' p') (above x'' p'') = omega arith

no_hit : (s : Span) (l : List Span) (b : ℕ) → hits b (s ∷ l) ≡ false → (b < s.from) × (hits s.to l ≡ false)
unfolding hits
no_hit s l b e = by_test (leb s.from b)
    (λ p. absurd (false≢true (sym (rw p at e))))
    (λ p. (leb-false s.from b p, rw p at e))

pub closed_strung : (n a b : ℕ) (l : List Span) → Climbs n l → a ≤ b → hits b l ≡ false → Strung a (closed a b l)
unfolding closed
closed_strung n a b [] C h e = (omega arith, h, tt)
closed_strung n a b (s ∷ l) C h e = let q = no_hit s l b e in go (eqb (b + 1) s.from) refl q.0 (λ (k : a ≤ s.to). closed_strung s.from a s.to l C.2 k q.1) (closed_strung s.from s.from s.to l C.2 C.1 q.1)
  where
    go : (x : Bool) → eqb (b + 1) s.from ≡ x → b < s.from → (a ≤ s.to → Strung a (closed a s.to l)) → Strung s.from (closed s.from s.to l)
        → Strung a (cond x (closed a s.to l) (record { from = a; to = b } ∷ closed s.from s.to l))
    go true p q f g = f (omega (arith, C.1))
    go false p q f g = (omega arith, h, weaken (b + 2) (closed s.from s.to l) g (let d = eqb-false (b + 1) s.from p in omega arith))

pub closed_cover : (n a b : ℕ) (l : List Span) → Climbs n l → a ≤ b → hits b l ≡ false → (j : ℕ) → cover (closed a b l) j ≡ within (record { from = a; to = b }) j + cover l j
unfolding closed
closed_cover n a b [] C h e j = cover_more (record { from = a; to = b }) [] j
closed_cover n a b (s ∷ l) C h e j = let q = no_hit s l b e in go (eqb (b + 1) s.from) refl q.0 (λ (k : a ≤ s.to). closed_cover s.from a s.to l C.2 k q.1 j) (closed_cover s.from s.from s.to l C.2 C.1 q.1 j)
  where
    go : (x : Bool) → eqb (b + 1) s.from ≡ x → b < s.from → (a ≤ s.to → cover (closed a s.to l) j ≡ within (record { from = a; to = s.to }) j + cover l j)
        → cover (closed s.from s.to l) j ≡ within (record { from = s.from; to = s.to }) j + cover l j
        → cover (cond x (closed a s.to l) (record { from = a; to = b } ∷ closed s.from s.to l)) j ≡ within (record { from = a; to = b }) j + cover (s ∷ l) j
    go true p q f g = omega (arith, f (omega (arith, C.1)), cover_more s l j, joined a b s.from s.to j h (eqb-true (b + 1) s.from p) C.1)
    go false p q f g = omega (arith, g, cover_more (record { from = a; to = b }) (closed s.from s.to l) j, cover_more s l j)
