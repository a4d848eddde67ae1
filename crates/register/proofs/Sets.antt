-- A register's ranges as a set: what is held with one number more, in what order the ranges stand, and that ranges which never touch are
-- determined by what they hold. Each is said of ranges, and follows from the same of spans.
use Prim.Native.Nat.{ℕ, ◌+◌, ◌-◌, ◌*◌, ◌≤◌, ◌<◌}
use native.Mathlib.Omega.{arith}
use mathlib.Core.Path.{◌≡◌, refl, sym, ap, ◌∙◌, subst}
use mathlib.Core.Bool.{Bool, true, false, cond, not, ◌&&◌, ◌||◌, and-false, or-false, or_assoc, false≢true}
use mathlib.Core.List.{List, [], ◌∷◌}
use mathlib.Core.Logic.{◌⊎◌, inl, inr}
use lib.Dec.{eqb, leb, ltb}
use borrow.Author.Tests.{ltb-true, ltb-false, leb-true, eqb-true, eq-eqb, lt-ltb, le-leb}
use Rattle.days.specs.Days.{later}
use Rattle.laws.proofs.Truth.{and_parts, both_hold, one_holds, first_holds, second_holds, both_ways, by_test}
use Rattle.register.specs.Register.{Range, apart, in_order}
use Rattle.register.specs.Entering.{Use, kept, holds, stands_in, join, add, add_all}
use Rattle.register.specs.Spans.{Span, day_key, use_key, span_of, spans_of, use_keys, Has, Strung, join_span, add_span, add_keys, Fit, Fits, Sound}
use Rattle.register.proofs.Spans as spans

-- ---- tests
-- by day and number, and by key
before_key : (d m e n : ℕ) → m ≤ 9999999 → n ≤ 9999999 → (ltb d e || (eqb d e && ltb m n)) ≡ ltb (day_key d m) (day_key e n)
before_key d m e n hm hn = both_ways _ _ to from
  where
    to : (ltb d e || (eqb d e && ltb m n)) ≡ true → ltb (day_key d m) (day_key e n) ≡ true
    to p = go (one_holds (ltb d e) (eqb d e && ltb m n) p)
      where
        go : (ltb d e ≡ true) ⊎ ((eqb d e && ltb m n) ≡ true) → ltb (day_key d m) (day_key e n) ≡ true
        go (inl q) = lt-ltb (day_key d m) (day_key e n) (let l = ltb-true d e q in omega arith)
        go (inr q) = let b = and_parts (eqb d e) (ltb m n) q in lt-ltb (day_key d m) (day_key e n) (let l = eqb-true d e b.0 in let k = ltb-true m n b.1 in omega arith)

    from : ltb (day_key d m) (day_key e n) ≡ true → (ltb d e || (eqb d e && ltb m n)) ≡ true
    from p = let l = ltb-true (day_key d m) (day_key e n) p in go (ltb d e) refl l
      where
        go : (x : Bool) → ltb d e ≡ x → day_key d m < day_key e n → (ltb d e || (eqb d e && ltb m n)) ≡ true
        go true q l = first_holds (ltb d e) (eqb d e && ltb m n) q
        go false q l = let g = ltb-false d e q in second_holds (ltb d e) (eqb d e && ltb m n) (both_hold _ _ (eq-eqb d e (omega arith)) (lt-ltb m n (omega arith)))

touch_key : (d l e f : ℕ) → l ≤ 9999999 → 1 ≤ f → f ≤ 9999999 → (eqb d e && eqb (l + 1) f) ≡ eqb (day_key d l + 1) (day_key e f)
touch_key d l e f hl h1 hf = both_ways _ _ to from
  where
    to : (eqb d e && eqb (l + 1) f) ≡ true → eqb (day_key d l + 1) (day_key e f) ≡ true
    to p = let b = and_parts (eqb d e) (eqb (l + 1) f) p in let x = eqb-true d e b.0 in let y = eqb-true (l + 1) f b.1 in eq-eqb (day_key d l + 1) (day_key e f) (omega arith)

    from : eqb (day_key d l + 1) (day_key e f) ≡ true → (eqb d e && eqb (l + 1) f) ≡ true
    from p = let x = eqb-true (day_key d l + 1) (day_key e f) p in both_hold _ _ (eq-eqb d e (omega arith)) (eq-eqb (l + 1) f (omega arith))

pub turned : (d e : ℕ) → eqb d e ≡ eqb e d
turned d e = both_ways _ _ (λ p. eq-eqb e d (sym (eqb-true d e p))) (λ p. eq-eqb d e (sym (eqb-true e d p)))

reach_key : (d m e n : ℕ) → m ≤ 9999999 → n ≤ 9999999 → e ≤ d → (eqb d e && leb m n) ≡ leb (day_key d m) (day_key e n)
reach_key d m e n hm hn h = both_ways _ _ to from
  where
    to : (eqb d e && leb m n) ≡ true → leb (day_key d m) (day_key e n) ≡ true
    to p = let b = and_parts (eqb d e) (leb m n) p in let x = eqb-true d e b.0 in let y = leb-true m n b.1 in le-leb (day_key d m) (day_key e n) (omega arith)

    from : leb (day_key d m) (day_key e n) ≡ true → (eqb d e && leb m n) ≡ true
    from p = let x = leb-true (day_key d m) (day_key e n) p in both_hold _ _ (eq-eqb d e (omega arith)) (le-leb m n (omega arith))

-- ---- one number more
join_spans : (r : Range) (qs : List Range) → r.last ≤ 9999999 → Sound qs → spans_of (join r qs) ≡ join_span (day_key r.day r.first) (day_key r.day r.last) (spans_of qs)
join_spans r [] h S = refl
join_spans r (q ∷ qs) h S = go (eqb r.day q.day && eqb (r.last + 1) q.first) refl (touch_key r.day r.last q.day q.first h S.0 (omega (arith, S.1, S.2)))
  where
    go : (x : Bool) → (eqb r.day q.day && eqb (r.last + 1) q.first) ≡ x → (eqb r.day q.day && eqb (r.last + 1) q.first) ≡ eqb (day_key r.day r.last + 1) (day_key q.day q.first) → spans_of (join r (q ∷ qs)) ≡ join_span (day_key r.day r.first) (day_key r.day r.last) (spans_of (q ∷ qs))
    go true p e =
        let d : r.day ≡ q.day = eqb-true _ _ (and_parts (eqb r.day q.day) (eqb (r.last + 1) q.first) p).0 in
        rw (sym e ∙ p, p) (ap (λ (x : ℕ). record { from = day_key r.day r.first; to = day_key x q.last } ∷ spans_of qs) d)
    go false p e = rw (sym e ∙ p, p) refl

module _ (u : Use) (r : Range) (rs : List Range) (F : Fit u) (S : Sound (r ∷ rs)) (ih : spans_of (add u rs) ≡ add_span (use_key u) (spans_of rs)) where
  third : (z : Bool) → spans_of (cond z (r ∷ rs) (r ∷ add u rs)) ≡ cond z (span_of r ∷ spans_of rs) (span_of r ∷ add_span (use_key u) (spans_of rs))
  third true = refl
  third false = ap (λ (l : List Span). span_of r ∷ l) ih

  second : (y z : Bool) → (eqb u.day r.day && eqb (r.last + 1) u.number) ≡ y
      → spans_of (cond y (join (record { day = r.day; first = r.first; last = u.number }) rs) (cond z (r ∷ rs) (r ∷ add u rs)))
      ≡ cond y (join_span (day_key r.day r.first) (use_key u) (spans_of rs)) (cond z (span_of r ∷ spans_of rs) (span_of r ∷ add_span (use_key u) (spans_of rs)))
  second true z q =
      let d : u.day ≡ r.day = eqb-true _ _ (and_parts (eqb u.day r.day) (eqb (r.last + 1) u.number) q).0 in
      join_spans (record { day = r.day; first = r.first; last = u.number }) rs F.1 S.3
      ∙ ap (λ (x : ℕ). join_span (day_key r.day r.first) (day_key x u.number) (spans_of rs)) (sym d)
  second false z q = third z

  first : (x : Bool) → (ltb u.day r.day || (eqb u.day r.day && ltb u.number r.first)) ≡ x
      → spans_of (cond x (join (record { day = u.day; first = u.number; last = u.number }) (r ∷ rs)) (cond (eqb u.day r.day && eqb (r.last + 1) u.number) (join (record { day = r.day; first = r.first; last = u.number }) rs) (cond (eqb u.day r.day && leb u.number r.last) (r ∷ rs) (r ∷ add u rs))))
      ≡ cond x (join_span (use_key u) (use_key u) (spans_of (r ∷ rs))) (cond (eqb u.day r.day && eqb (r.last + 1) u.number) (join_span (day_key r.day r.first) (use_key u) (spans_of rs)) (cond (leb (use_key u) (day_key r.day r.last)) (span_of r ∷ spans_of rs) (span_of r ∷ add_span (use_key u) (spans_of rs))))
  first true p = join_spans (record { day = u.day; first = u.number; last = u.number }) (r ∷ rs) F.1 S
  first false p =
      let k : day_key r.day r.first ≤ use_key u = ltb-false (use_key u) (day_key r.day r.first) (sym (before_key u.day u.number r.day r.first F.1 (omega (arith, S.1, S.2))) ∙ p) in
      rw (sym (reach_key u.day u.number r.day r.last F.1 S.2 (omega (arith, k, F.1, S.0))))
      (second (eqb u.day r.day && eqb (r.last + 1) u.number) (eqb u.day r.day && leb u.number r.last) refl)

  more : spans_of (add u (r ∷ rs)) ≡ add_span (use_key u) (spans_of (r ∷ rs))
  more =
      rw (sym (before_key u.day u.number r.day r.first F.1 (omega (arith, S.1, S.2))), sym (touch_key r.day r.last u.day u.number S.2 F.0 F.1), turned r.day u.day)
      (first (ltb u.day r.day || (eqb u.day r.day && ltb u.number r.first)) refl)

pub add_spans : (u : Use) (rs : List Range) → Fit u → Sound rs → spans_of (add u rs) ≡ add_span (use_key u) (spans_of rs)
add_spans u [] F S = refl
add_spans u (r ∷ rs) F S = more u r rs F S (add_spans u rs F S.3)

-- ranges of such numbers stay so
join_sound : (r : Range) (qs : List Range) → 1 ≤ r.first → r.first ≤ r.last → r.last ≤ 9999999 → Sound qs → Sound (join r qs)
join_sound r [] a b c S = (a, b, c, tt)
join_sound r (q ∷ qs) a b c S = by_test (eqb r.day q.day && eqb (r.last + 1) q.first)
    (λ p. rw p (let e = eqb-true (r.last + 1) q.first (and_parts (eqb r.day q.day) (eqb (r.last + 1) q.first) p).1 in (a, omega (arith, e, b, S.1), S.2, S.3)))
    (λ p. rw p (a, b, c, S))

pub add_sound : (u : Use) (rs : List Range) → Fit u → Sound rs → Sound (add u rs)
add_sound u [] F S = (F.0, omega arith, F.1, tt)
add_sound u (r ∷ rs) F S = go (ltb u.day r.day || (eqb u.day r.day && ltb u.number r.first)) (eqb u.day r.day && eqb (r.last + 1) u.number) refl (eqb u.day r.day && leb u.number r.last) (add_sound u rs F S.3)
  where
    go : (x y : Bool) → (eqb u.day r.day && eqb (r.last + 1) u.number) ≡ y → (z : Bool) → Sound (add u rs) → Sound (cond x (join (record { day = u.day; first = u.number; last = u.number }) (r ∷ rs)) (cond y (join (record { day = r.day; first = r.first; last = u.number }) rs) (cond z (r ∷ rs) (r ∷ add u rs))))
    go true y q z ih = join_sound (record { day = u.day; first = u.number; last = u.number }) (r ∷ rs) F.0 (omega arith) F.1 S
    go false true q z ih =
        let e = eqb-true (r.last + 1) u.number (and_parts (eqb u.day r.day) (eqb (r.last + 1) u.number) q).1 in
        join_sound (record { day = r.day; first = r.first; last = u.number }) rs S.0 (omega (arith, e, S.1)) F.1 S.3
    go false false q true ih = S
    go false false q false ih = (S.0, S.1, S.2, ih)

-- ---- order
pub order_strung : (rs : List Range) → Sound rs → in_order rs ≡ true → Strung 0 (spans_of rs)
order_strung [] S e = tt
order_strung (r ∷ rs) S e = (omega arith, omega (arith, S.1), go rs S.3 (and_parts (apart r rs) (in_order rs) e).0 (order_strung rs S.3 (and_parts (apart r rs) (in_order rs) e).1))
  where
    go : (qs : List Range) → Sound qs → apart r qs ≡ true → Strung 0 (spans_of qs) → Strung (day_key r.day r.last + 2) (spans_of qs)
    go [] Q p T = tt
    go (q ∷ qs) Q p T = (part (one_holds (ltb r.day q.day) (eqb r.day q.day && ltb (r.last + 1) q.first) p), T.1, T.2)
      where
        part : (ltb r.day q.day ≡ true) ⊎ ((eqb r.day q.day && ltb (r.last + 1) q.first) ≡ true) → day_key r.day r.last + 2 ≤ day_key q.day q.first
        part (inl h) = let l = ltb-true r.day q.day h in omega (arith, S.2, Q.0, l)
        part (inr h) = let b = and_parts (eqb r.day q.day) (ltb (r.last + 1) q.first) h in let d = eqb-true r.day q.day b.0 in let l = ltb-true (r.last + 1) q.first b.1 in omega (arith, d, l)

pub strung_order : (n : ℕ) (rs : List Range) → Sound rs → Strung n (spans_of rs) → in_order rs ≡ true
strung_order n [] S T = refl
strung_order n (r ∷ rs) S T = both_hold (apart r rs) (in_order rs) (go rs S.3 T.2) (strung_order (day_key r.day r.last + 2) rs S.3 T.2)
  where
    go : (qs : List Range) → Sound qs → Strung (day_key r.day r.last + 2) (spans_of qs) → apart r qs ≡ true
    go [] Q T = refl
    go (q ∷ qs) Q T = day (ltb r.day q.day) refl
      where
        day : (x : Bool) → ltb r.day q.day ≡ x → (ltb r.day q.day || (eqb r.day q.day && ltb (r.last + 1) q.first)) ≡ true
        day true h = first_holds (ltb r.day q.day) (eqb r.day q.day && ltb (r.last + 1) q.first) h
        day false h =
            let l = ltb-false r.day q.day h in
            let d : r.day ≡ q.day = omega (arith, l, T.0, Q.1, Q.2) in
            second_holds (ltb r.day q.day) (eqb r.day q.day && ltb (r.last + 1) q.first) (both_hold (eqb r.day q.day) (ltb (r.last + 1) q.first) (eq-eqb r.day q.day d) (lt-ltb (r.last + 1) q.first (omega (arith, d, T.0))))

-- ranges in order stay in order with one number more
pub ordered : (u : Use) (rs : List Range) → Fit u → Sound rs → in_order rs ≡ true → in_order (add u rs) ≡ true
ordered u rs F S e = strung_order 0 (add u rs) (add_sound u rs F S) (rw (add_spans u rs F S) (spans.ordered 0 (use_key u) (spans_of rs) (order_strung rs S e) (omega arith)))

-- ---- members
abbrev in_range : Range → Use → Bool
in_range r u = eqb r.day u.day && (leb r.first u.number && leb u.number r.last)

pub holds_has : (rs : List Range) (u : Use) → holds rs u ≡ true → Has (spans_of rs) (use_key u)
holds_has [] u e = absurd (false≢true e)
holds_has (r ∷ rs) u e = go (one_holds (in_range r u) (holds rs u) e) (λ q. holds_has rs u q)
  where
    go : (in_range r u ≡ true) ⊎ (holds rs u ≡ true) → (holds rs u ≡ true → Has (spans_of rs) (use_key u)) → Has (spans_of (r ∷ rs)) (use_key u)
    go (inl h) ih =
        let a = and_parts (eqb r.day u.day) (leb r.first u.number && leb u.number r.last) h in
        let b = and_parts (leb r.first u.number) (leb u.number r.last) a.1 in
        let d = eqb-true r.day u.day a.0 in
        let f = leb-true r.first u.number b.0 in
        let l = leb-true u.number r.last b.1 in
        inl (omega arith, omega arith)
    go (inr h) ih = inr (ih h)

pub has_holds : (rs : List Range) (u : Use) → Sound rs → Fit u → Has (spans_of rs) (use_key u) → holds rs u ≡ true
has_holds [] u S F p = absurd p
has_holds (r ∷ rs) u S F (inl i) =
    let d : r.day ≡ u.day = omega (arith, i.0, i.1, F.0, F.1, S.0, S.1, S.2) in
    first_holds (in_range r u) (holds rs u) (both_hold (eqb r.day u.day) (leb r.first u.number && leb u.number r.last) (eq-eqb r.day u.day d)
    (both_hold (leb r.first u.number) (leb u.number r.last) (le-leb r.first u.number (omega (arith, d, i.0))) (le-leb u.number r.last (omega (arith, d, i.1)))))
has_holds (r ∷ rs) u S F (inr i) = second_holds (in_range r u) (holds rs u) (has_holds rs u S.3 F i)

-- no other numbers are held
held_fits : (rs : List Range) (v : Use) → Sound rs → holds rs v ≡ true → Fit v
held_fits [] v S e = absurd (false≢true e)
held_fits (r ∷ rs) v S e = go (one_holds (in_range r v) (holds rs v) e) (λ q. held_fits rs v S.3 q)
  where
    go : (in_range r v ≡ true) ⊎ (holds rs v ≡ true) → (holds rs v ≡ true → Fit v) → Fit v
    go (inl h) ih =
        let a = and_parts (eqb r.day v.day) (leb r.first v.number && leb v.number r.last) h in
        let b = and_parts (leb r.first v.number) (leb v.number r.last) a.1 in
        let f = leb-true r.first v.number b.0 in
        let l = leb-true v.number r.last b.1 in
        (omega (arith, f, S.0), omega (arith, l, S.2))
    go (inr h) ih = ih h

members_fit : (u v : Use) (rs : List Range) → Fit u → Fit v → Sound rs → in_order rs ≡ true → holds (add u rs) v ≡ (holds rs v || (eqb u.day v.day && eqb u.number v.number))
members_fit u v rs F G S e = both_ways (holds (add u rs) v) (holds rs v || same) to from
  where
    same : Bool
    same = eqb u.day v.day && eqb u.number v.number

    O : Strung 0 (spans_of rs)
    O = order_strung rs S e

    to : holds (add u rs) v ≡ true → (holds rs v || (eqb u.day v.day && eqb u.number v.number)) ≡ true
    to p = go (spans.members_to 0 (use_key u) (spans_of rs) O (use_key v) (subst (λ (l : List Span). Has l (use_key v)) (add_spans u rs F S) (holds_has (add u rs) v p)))
      where
        go : (use_key u ≡ use_key v) ⊎ Has (spans_of rs) (use_key v) → (holds rs v || (eqb u.day v.day && eqb u.number v.number)) ≡ true
        go (inl q) = second_holds (holds rs v) (eqb u.day v.day && eqb u.number v.number) (both_hold (eqb u.day v.day) (eqb u.number v.number) (eq-eqb u.day v.day (omega (arith, q, F.0, F.1, G.0, G.1))) (eq-eqb u.number v.number (omega (arith, q, F.0, F.1, G.0, G.1))))
        go (inr q) = first_holds (holds rs v) (eqb u.day v.day && eqb u.number v.number) (has_holds rs v S G q)

    from : (holds rs v || (eqb u.day v.day && eqb u.number v.number)) ≡ true → holds (add u rs) v ≡ true
    from p = has_holds (add u rs) v (add_sound u rs F S) G (rw (add_spans u rs F S) (go (one_holds (holds rs v) (eqb u.day v.day && eqb u.number v.number) p)))
      where
        go : (holds rs v ≡ true) ⊎ ((eqb u.day v.day && eqb u.number v.number) ≡ true) → Has (add_span (use_key u) (spans_of rs)) (use_key v)
        go (inl q) = spans.members_from 0 (use_key u) (spans_of rs) O (use_key v) (holds_has rs v q)
        go (inr q) =
            let b = and_parts (eqb u.day v.day) (eqb u.number v.number) q in
            let d = eqb-true u.day v.day b.0 in
            let n = eqb-true u.number v.number b.1 in
            let k : use_key u ≡ use_key v = omega arith in
            subst (λ (j : ℕ). Has (add_span (use_key u) (spans_of rs)) j) k (spans.member_own 0 (use_key u) (spans_of rs) O)

-- held with one number more is that number and what was held before, and nothing else
pub members : (u v : Use) (rs : List Range) → Fit u → Sound rs → in_order rs ≡ true → holds (add u rs) v ≡ (holds rs v || (eqb u.day v.day && eqb u.number v.number))
members u v rs F S e =
    both_ways (holds (add u rs) v) (holds rs v || (eqb u.day v.day && eqb u.number v.number))
    (λ p. sym (members_fit u v rs F (held_fits (add u rs) v (add_sound u rs F S) p) S e) ∙ p)
    (λ p. members_fit u v rs F (fit (one_holds (holds rs v) (eqb u.day v.day && eqb u.number v.number) p)) S e ∙ p)
  where
    fit : (holds rs v ≡ true) ⊎ ((eqb u.day v.day && eqb u.number v.number) ≡ true) → Fit v
    fit (inl q) = held_fits rs v S q
    fit (inr q) = let n = eqb-true u.number v.number (and_parts (eqb u.day v.day) (eqb u.number v.number) q).1 in (omega (arith, n, F.0), omega (arith, n, F.1))

-- of the ranges that stay: what was held of the days that are not dropped
pub kept_members : (today : ℕ) (rs : List Range) (v : Use) → holds (kept today rs) v ≡ (holds rs v && not (later today v.day 10))
kept_members today [] v = refl
kept_members today (r ∷ rs) v = go (in_range r v) refl (later today r.day 10) refl (kept_members today rs v)
  where
    same_day : in_range r v ≡ true → (x : Bool) → later today r.day 10 ≡ x → later today v.day 10 ≡ x
    same_day p x q = let d = eqb-true r.day v.day (and_parts (eqb r.day v.day) (leb r.first v.number && leb v.number r.last) p).0 in ap (λ (d : ℕ). later today d 10) (sym d) ∙ q

    go : (y : Bool) → in_range r v ≡ y → (x : Bool) → later today r.day 10 ≡ x → holds (kept today rs) v ≡ (holds rs v && not (later today v.day 10))
        → holds (cond x (kept today rs) (r ∷ kept today rs)) v ≡ ((in_range r v || holds rs v) && not (later today v.day 10))
    go true p true q ih =
        let l = same_day p true q in
        ih ∙ ap (λ (b : Bool). holds rs v && not b) l ∙ and-false (holds rs v)
        ∙ sym (ap (λ (b : Bool). (in_range r v || holds rs v) && not b) l ∙ and-false (in_range r v || holds rs v))
    go true p false q ih = let l = same_day p false q in rw (p, l)
    go false p true q ih = ih ∙ sym (ap (λ (b : Bool). (b || holds rs v) && not (later today v.day 10)) p)
    go false p false q ih = ap (λ (b : Bool). b || holds (kept today rs) v) p ∙ ih ∙ sym (ap (λ (b : Bool). (b || holds rs v) && not (later today v.day 10)) p)

-- ---- determined by their members
-- a number that spans of ranges hold is the key of a day and a number
record Keyed (j : ℕ) : Type 0 where
  of : Use
  fit : Fit of
  is : use_key of ≡ j

keyed : (rs : List Range) → Sound rs → (j : ℕ) → Has (spans_of rs) j → Keyed j
keyed [] S j p = absurd p
keyed (r ∷ rs) S j (inl i) = record {
  of = record { day = r.day; number = j - r.day * 10000000 };
  fit = (omega (arith, i.0, S.0), omega (arith, i.1, S.2));
  is = omega (arith, i.0);
}
keyed (r ∷ rs) S j (inr i) = keyed rs S.3 j i

pub spans_once : (rs qs : List Range) → Sound rs → Sound qs → spans_of rs ≡ spans_of qs → rs ≡ qs
spans_once [] [] S Q e = refl
spans_once [] (q ∷ qs) S Q e = let z : ◌≡◌ {A = ℕ} 0 1 = cc in absurd (omega arith)
spans_once (r ∷ rs) [] S Q e = let z : ◌≡◌ {A = ℕ} 0 1 = cc in absurd (omega arith)
spans_once (r ∷ rs) (q ∷ qs) S Q e =
    let a : day_key r.day r.first ≡ day_key q.day q.first = ap head_from e in
    let b : day_key r.day r.last ≡ day_key q.day q.last = ap head_to e in
    let d : r.day ≡ q.day = omega (arith, a, S.0, S.1, S.2, Q.0, Q.1, Q.2) in
    let f : r.first ≡ q.first = omega (arith, a, d) in
    let l : r.last ≡ q.last = omega (arith, b, d) in
    let t = spans_once rs qs S.3 Q.3 (ap rest e) in
    λ i. record { day = d i; first = f i; last = l i } ∷ t i
  where
    head_from : List Span → ℕ
    head_from [] = 0
    head_from (s ∷ ss) = s.from

    head_to : List Span → ℕ
    head_to [] = 0
    head_to (s ∷ ss) = s.to

    rest : List Span → List Span
    rest [] = []
    rest (s ∷ ss) = ss

pub determined : (rs qs : List Range) → Sound rs → Sound qs → in_order rs ≡ true → in_order qs ≡ true → ((v : Use) → Fit v → holds rs v ≡ holds qs v) → rs ≡ qs
determined rs qs S Q e f same =
    spans_once rs qs S Q (spans.determined 0 0 (spans_of rs) (spans_of qs) (order_strung rs S e) (order_strung qs Q f) (over rs qs S Q same) (over qs rs Q S (λ v F. sym (same v F))))
  where
    over : (rs qs : List Range) → Sound rs → Sound qs → ((v : Use) → Fit v → holds rs v ≡ holds qs v) → (j : ℕ) → Has (spans_of rs) j → Has (spans_of qs) j
    over rs qs S Q same j h =
        let k = keyed rs S j h in
        subst (λ (x : ℕ). Has (spans_of qs) x) k.is (holds_has qs k.of (sym (same k.of k.fit) ∙ has_holds rs k.of S k.fit (subst (λ (x : ℕ). Has (spans_of rs) x) (sym k.is) h)))

-- ---- many numbers
pub all_sound : (us : List Use) (rs : List Range) → Fits us → Sound rs → Sound (add_all us rs)
all_sound [] rs F S = S
all_sound (u ∷ us) rs F S = all_sound us (add u rs) F.1 (add_sound u rs F.0 S)

pub all_ordered : (us : List Use) (rs : List Range) → Fits us → Sound rs → in_order rs ≡ true → in_order (add_all us rs) ≡ true
all_ordered [] rs F S e = e
all_ordered (u ∷ us) rs F S e = all_ordered us (add u rs) F.1 (add_sound u rs F.0 S) (ordered u rs F.0 S e)

pub all_spans : (us : List Use) (rs : List Range) → Fits us → Sound rs → spans_of (add_all us rs) ≡ add_keys (use_keys us) (spans_of rs)
all_spans [] rs F S = refl
all_spans (u ∷ us) rs F S = all_spans us (add u rs) F.1 (add_sound u rs F.0 S) ∙ ap (add_keys (use_keys us)) (add_spans u rs F.0 S)

pub all_members : (us : List Use) (v : Use) (rs : List Range) → Fits us → Sound rs → in_order rs ≡ true → holds (add_all us rs) v ≡ (holds rs v || stands_in v us)
all_members [] v rs F S e = sym (or-false (holds rs v))
all_members (u ∷ us) v rs F S e =
    all_members us v (add u rs) F.1 (add_sound u rs F.0 S) (ordered u rs F.0 S e)
    ∙ rw (members u v rs F.0 S e, turned u.day v.day, turned u.number v.number) (or_assoc (holds rs v) (eqb v.day u.day && eqb v.number u.number) (stands_in v us))
