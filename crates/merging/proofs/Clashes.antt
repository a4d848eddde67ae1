-- 27 by keys: the row hits itself just where a number is used already, in the register or twice in the file.
use Prim.Native.Nat.{ℕ, ◌+◌, ◌≤◌, ◌<◌}
use native.Mathlib.Omega.{arith}
use mathlib.Core.Path.{◌≡◌, refl}
use mathlib.Core.Bool.{Bool, true, false, ◌&&◌, ◌||◌, false≢true}
use mathlib.Core.List.{List, [], ◌∷◌}
use mathlib.Core.Logic.{◌⊎◌, inl, inr}
use lib.Dec.{eqb, leb}
use borrow.Author.Tests.{leb-true, leb-false, eqb-true, eq-eqb}
use Rattle.laws.proofs.Truth.{and_parts, one_holds, both_ways, first_holds, second_holds, both_hold}
use Rattle.sorting.specs.Sorting.{count, Same, Rises}
use Rattle.register.specs.Register.{Range}
use Rattle.register.specs.Entering.{Use, holds, stands_in, clash}
use Rattle.register.specs.Spans.{Strung, use_key, use_keys, spans_of, Fit, Fits, Sound}
use Rattle.register.proofs.Sets.{holds_has, has_holds}
use Rattle.register.proofs.Spans.{weaken}
use Rattle.merging.specs.Merging.{one, weave, hits}
use Rattle.merging.proofs.Covers.{within, cover, Held, inside, below, above, held_is, cover_more, has_cover, cover_has, cover_weave, climbs_weave, low, strung_once, hit_found, spread}
use Rattle.merging.proofs.Members.{count_same, count_least, count_no, Among, first, later, among_is}

-- ---- a number that stands in a file
stands_count : (u : Use) (us : List Use) → stands_in u us ≡ true → 1 ≤ count (use_key u) (use_keys us)
stands_count u [] e = absurd (false≢true e)
stands_count u (v ∷ us) e = go (one_holds (eqb u.day v.day && eqb u.number v.number) (stands_in u us) e) (λ q. stands_count u us q)
  where
    go : ((eqb u.day v.day && eqb u.number v.number) ≡ true) ⊎ (stands_in u us ≡ true) → (stands_in u us ≡ true → 1 ≤ count (use_key u) (use_keys us)) → 1 ≤ count (use_key u) (use_keys (v ∷ us))
    go (inl p) ih =
        let b = and_parts (eqb u.day v.day) (eqb u.number v.number) p in
        let d = eqb-true u.day v.day b.0 in
        let n = eqb-true u.number v.number b.1 in
        omega (arith, count_same (use_key u) (use_key v) (use_keys us) (omega arith))
    go (inr q) ih = omega (arith, ih q, count_least (use_key u) (use_key v) (use_keys us))

count_stands : (u : Use) (us : List Use) → Fit u → Fits us → 1 ≤ count (use_key u) (use_keys us) → stands_in u us ≡ true
count_stands u [] F G h = absurd (omega (arith, count_no (use_key u)))
count_stands u (v ∷ us) F G h = go (among_is (use_key u) (use_key v) (use_keys us)) (λ q. count_stands u us F G.1 q)
  where
    go : Among (use_key u) (use_key v) (use_keys us) → (1 ≤ count (use_key u) (use_keys us) → stands_in u us ≡ true) → stands_in u (v ∷ us) ≡ true
    go (first e c) ih =
        first_holds (eqb u.day v.day && eqb u.number v.number) (stands_in u us)
        (both_hold (eqb u.day v.day) (eqb u.number v.number) (eq-eqb u.day v.day (omega (arith, e, F.0, F.1, G.0.0, G.0.1))) (eq-eqb u.number v.number (omega (arith, e, F.0, F.1, G.0.0, G.0.1))))
    go (later e c) ih = second_holds (eqb u.day v.day && eqb u.number v.number) (stands_in u us) (ih (omega arith))

-- ---- a number covered twice
module _ (rs : List Range) (S : Sound rs) (O : Strung 2 (spans_of rs)) where
  crowd_clash : (us : List Use) → Fits us → (j : ℕ) → 2 ≤ cover (spans_of rs) j + count j (use_keys us) → clash rs us ≡ true
  crowd_clash [] F j h = absurd (omega (arith, count_no j, (strung_once 2 (spans_of rs) O j).0))
  crowd_clash (u ∷ us) F j h = go (among_is j (use_key u) (use_keys us)) (leb 1 (cover (spans_of rs) j)) refl (λ q. crowd_clash us F.1 j q)
    where
      twice : (stands_in u us || clash rs us) ≡ true → clash rs (u ∷ us) ≡ true
      twice e = second_holds (holds rs u) (stands_in u us || clash rs us) e

      go : Among j (use_key u) (use_keys us) → (x : Bool) → leb 1 (cover (spans_of rs) j) ≡ x → (2 ≤ cover (spans_of rs) j + count j (use_keys us) → clash rs us ≡ true) → clash rs (u ∷ us) ≡ true
      go (first e c) true p ih =
          first_holds (holds rs u) (stands_in u us || clash rs us) (has_holds rs u S F.0 (cover_has (spans_of rs) (use_key u) (rw e (leb-true 1 (cover (spans_of rs) j) p))))
      go (first e c) false p ih =
          let n = leb-false 1 (cover (spans_of rs) j) p in
          let k : 1 ≤ count j (use_keys us) = omega arith in
          twice (first_holds (stands_in u us) (clash rs us) (count_stands u us F.0 F.1 (rw e k)))
      go (later e c) x p ih = twice (second_holds (stands_in u us) (clash rs us) (ih (omega arith)))

  clash_crowd : (us : List Use) → clash rs us ≡ true → (j : ℕ) × (2 ≤ cover (spans_of rs) j + count j (use_keys us))
  clash_crowd [] e = absurd (false≢true e)
  clash_crowd (u ∷ us) e = go (one_holds (holds rs u) (stands_in u us || clash rs us) e) (λ q. clash_crowd us q)
    where
      again : (stands_in u us ≡ true) ⊎ (clash rs us ≡ true) → (clash rs us ≡ true → (j : ℕ) × (2 ≤ cover (spans_of rs) j + count j (use_keys us))) → (j : ℕ) × (2 ≤ cover (spans_of rs) j + count j (use_keys (u ∷ us)))
      again (inl q) ih = (use_key u, omega (arith, stands_count u us q, count_same (use_key u) (use_key u) (use_keys us) refl))
      again (inr q) ih = let r = ih q in (r.0, omega (arith, r.1, count_least r.0 (use_key u) (use_keys us)))

      go : (holds rs u ≡ true) ⊎ ((stands_in u us || clash rs us) ≡ true) → (clash rs us ≡ true → (j : ℕ) × (2 ≤ cover (spans_of rs) j + count j (use_keys us))) → (j : ℕ) × (2 ≤ cover (spans_of rs) j + count j (use_keys (u ∷ us)))
      go (inl q) ih = (use_key u, omega (arith, has_cover (spans_of rs) (use_key u) (holds_has rs u q), count_same (use_key u) (use_key u) (use_keys us) refl))
      go (inr q) ih = again (one_holds (stands_in u us) (clash rs us) q) ih

  module _ (us : List Use) (ks : List ℕ) (F : Fits us) (R : Rises 2 ks) (E : Same (use_keys us) ks) where
    pub clash_is : hits 0 (weave (spans_of rs) ks) ≡ clash rs us
    clash_is = both_ways (hits 0 (weave (spans_of rs) ks)) (clash rs us) to from
      where
        to : hits 0 (weave (spans_of rs) ks) ≡ true → clash rs us ≡ true
        to e =
            let C = climbs_weave 2 (spans_of rs) ks O R in
            let f = hit_found 0 0 (weave (spans_of rs) ks) (climbs_weave 0 (spans_of rs) ks (weaken 0 (spans_of rs) O (omega arith)) (lower ks R)) (omega arith) e in
            go f.0 (held_is (one 0) f.0) (omega (arith, f.1, cover_more (one 0) (weave (spans_of rs) ks) f.0, cover_weave (spans_of rs) ks f.0, E f.0)) (λ h. low 2 (weave (spans_of rs) ks) C f.0 h)
          where
            lower : (ks : List ℕ) → Rises 2 ks → Rises 0 ks
            lower [] R = tt
            lower (k ∷ ks) R = (omega arith, R.1)

            go : (j : ℕ) → Held (one 0) j → 2 ≤ within (one 0) j + (cover (spans_of rs) j + count j (use_keys us)) → (j < 2 → cover (weave (spans_of rs) ks) j ≡ 0) → clash rs us ≡ true
            go j (inside a b w) h z = absurd (omega (arith, z (omega arith), cover_weave (spans_of rs) ks j, E j))
            go j (below a w) h z = absurd (omega arith)
            go j (above a w) h z = crowd_clash us F j (omega arith)

        from : clash rs us ≡ true → hits 0 (weave (spans_of rs) ks) ≡ true
        from e = let r = clash_crowd us e in go (hits 0 (weave (spans_of rs) ks)) refl r.0 r.1
          where
            go : (x : Bool) → hits 0 (weave (spans_of rs) ks) ≡ x → (j : ℕ) → 2 ≤ cover (spans_of rs) j + count j (use_keys us) → x ≡ true
            go true p j h = refl
            go false p j h = absurd (omega (arith, h, (spread 2 0 (weave (spans_of rs) ks) (climbs_weave 2 (spans_of rs) ks O R) p j).0, cover_weave (spans_of rs) ks j, E j))
