-- From keys back to days and numbers: a file's numbers fit, and what is said of keys in order is said of the uses.
use Prim.Native.Nat.{ℕ, suc, ◌+◌, ◌-◌, ◌/◌, ◌≤◌, ◌<◌, ◌^◌}
use native.Mathlib.Omega.{arith}
use mathlib.Core.Path.{◌≡◌, refl, sym, ap, ◌∙◌, subst}
use mathlib.Core.Bool.{Bool, true, false, cond}
use mathlib.Core.List.{List, [], ◌∷◌, ◌++◌, map}
use lib.Dec.{eqb, ltb}
use lib.ListN.{length, take, drop}
use lib.Seq.{take_at, length-take-le}
use borrow.Author.Tests.{ltb-true, ltb-false, eqb-false, lt-ltb, le-ltb}
use Rattle.laws.specs.Refusals.{first}
use Rattle.laws.proofs.Truth.{and_parts, by_test}
use Rattle.days.specs.Days.{later}
use Rattle.days.proofs.Order.{real_parts}
use Rattle.text.specs.Forms.{numbers_fit}
use Rattle.headings.specs.declared.Heading.{Heading}
use Rattle.headings.specs.Reading.{heading_of}
use Rattle.heading_writer.specs.Writing.{fits_heading}
use Rattle.heading_writer.proofs.RoundTrips.{fits_read}
use Rattle.rules.specs.Rows.{Row}
use Rattle.rules.specs.Tree.{Owned, Item}
use Rattle.rules.specs.Said.{continued, head_of}
use Rattle.item_reader.specs.Slips.{slip_of, file_from, slips_from}
use Rattle.sorting.specs.Sorting.{count, Rises, Within, Same, Ordered}
use Rattle.register.specs.Register.{Range, Register, range_stands, all_stand, well_formed}
use Rattle.register.specs.Entering.{Use, used_at, used, kept, clash, add_all}
use Rattle.register.specs.Spans.{Span, use_keys, span_of, spans_of, froms, tos, ranges_of, Fits, Sound, Strung, Least}
use Rattle.register.proofs.Spans.{weaken}
use Rattle.register.proofs.Sets.{order_strung, all_sound, all_spans}
use Rattle.register.proofs.Keys.{ranges_back}
use Rattle.register.proofs.Formed.{range_parts, stand_sound, Formed, formed}
use Rattle.std.specs.Prelude.{Result}
use Rattle.adding.specs.declared.EnterError.{EnterError}
use Rattle.gathering.specs.Keys.{Dated}
use Rattle.merging.specs.Merging.{one, weave, hits}
use Rattle.adding.specs.Answers.{uses_refusals}
use Rattle.adding.specs.Steps.{closed_up, keys_refusals, keys_register, EntersKeys, EntersUses}
use Rattle.merging.proofs.Members.{Among, first as first_of, later as laterOf, among_is, count_no, count_same, closed_is}
use Rattle.merging.proofs.Clashes.{clash_is}
use Rattle.adding.proofs.Answered.{answers_as}
use Rattle.std.specs.Prelude.{None, Option, Some}

-- ---- a heading's number has seven digits
seven : (h : Heading) → fits_heading h ≡ true → h.number.0 < 10000000
unfolding fits_heading numbers_fit
seven h e =
    let a = and_parts (ltb h.kind (10 ^ 2)) _ e in
    let b = and_parts (ltb h.day (10 ^ 8)) _ a.1 in
    let c = and_parts (ltb h.first.0 (10 ^ 7)) _ b.1 in
    let d = and_parts (ltb h.number.0 (10 ^ 7)) _ c.1 in
    ltb-true h.number.0 10000000 d.0

head_seven : (g : Owned Row) (h : Heading) → head_of g ≡ Some h → h.number.0 < 10000000
unfolding head_of
head_seven g h e = go (continued g.below) e
  where
    go : (b : Bool) → cond b None (heading_of g.owner.bytes) ≡ Some h → h.number.0 < 10000000
    go true q = let z : ◌≡◌ {A = ℕ} 0 1 = cc in absurd (omega arith)
    go false q = seven h (fits_read g.owner.bytes h q)

used_fit : (head : Option Heading) → ((h : Heading) → head ≡ Some h → h.number.0 < 10000000) → (us : List Use) → Fits us → Fits (used_at head us)
used_fit (Some h) f us F = by_test (eqb h.number.0 0)
    (λ p. rw p F)
    (λ p. rw p (let n = eqb-false h.number.0 0 p in let m = f h refl in ((omega arith, omega arith), F)))
used_fit None f us F = F

items_fit : (is : List Item) → Fits (used (map slip_of is))
items_fit [] = tt
items_fit (i ∷ is) = used_fit (head_of i.head) (λ h e. head_seven i.head h e) (used (map slip_of is)) (items_fit is)

pub uses_fit : (n : ℕ) (s : List ℕ) → Fits (used (slips_from n s))
uses_fit n s = items_fit (file_from n s).items

-- ---- how large keys are
pub keys_within : (us : List Use) → Fits us → Dated us → Within 0 1000000000000000 (use_keys us)
keys_within [] F D = tt
keys_within (u ∷ us) F D = (omega arith, omega (arith, F.0.1, D.1), keys_within us F.1 D.2)

keys_least : (us : List Use) → Dated us → Least 2 (use_keys us)
keys_least [] D = tt
keys_least (u ∷ us) D = (omega (arith, D.0), keys_least us D.2)

least_among : (ks : List ℕ) → Least 2 ks → (j : ℕ) → 1 ≤ count j ks → 2 ≤ j
least_among [] L j h = absurd (omega (arith, count_no j))
least_among (k ∷ ks) L j h = go (among_is j k ks) (λ q. least_among ks L.1 j q)
  where
    go : Among j k ks → (1 ≤ count j ks → 2 ≤ j) → 2 ≤ j
    go (first_of e c) ih = omega (arith, e, L.0)
    go (laterOf e c) ih = ih (omega arith)

rises_two : (us ks : List ℕ) → Least 2 us → Rises 0 ks → Same us ks → Rises 2 ks
rises_two us [] L R E = tt
rises_two us (k ∷ ks) L R E = (least_among us L k (omega (arith, E k, count_same k k ks refl)), R.1)

-- a front put in order, in its row again
pub ordered_front : {us : List ℕ} (d e : List ℕ) (n : ℕ) → n ≤ length d → take n d ≡ us → length e ≡ length (take n d) → Ordered 0 (take n d) e → Ordered 0 us (take n (e ++ drop n d))
ordered_front d e n h q l O =
    let k : length e ≡ n = l ∙ length-take-le n d h in
    rw (take_at e (drop n d) n k) (subst (λ (us : List ℕ). Ordered 0 us e) q O)

-- ---- the ranges that stay
pub kept_strung : (n today : ℕ) (rs : List Range) → Strung n (spans_of rs) → Strung n (spans_of (kept today rs))
kept_strung n today [] S = tt
kept_strung n today (r ∷ rs) S = by_test (later today r.day 10)
    (λ q. rw q (weaken n (spans_of (kept today rs)) (kept_strung ((span_of r).to + 2) today rs S.2) (omega (arith, S.0, S.1))))
    (λ q. rw q (S.0, S.1, kept_strung ((span_of r).to + 2) today rs S.2))

pub kept_sound : (today : ℕ) (rs : List Range) → Sound rs → Sound (kept today rs)
kept_sound today [] S = tt
kept_sound today (r ∷ rs) S = by_test (later today r.day 10)
    (λ q. rw q (kept_sound today rs S.3))
    (λ q. rw q (S.0, S.1, S.2, kept_sound today rs S.3))

two : (latest : ℕ) (rs : List Range) → all_stand latest rs ≡ true → Strung 0 (spans_of rs) → Strung 2 (spans_of rs)
two latest [] e S = tt
two latest (r ∷ rs) e S =
    let p = range_parts latest r (and_parts (range_stands latest r) (all_stand latest rs) e).0 in
    let y : 1 ≤ r.day / 10000 = (real_parts r.day p.real).year_from in
    (omega (arith, y), S.1, S.2)

-- ---- what is said of keys, said of uses
ltb_next : (m n k : ℕ) → k ≡ n + 1 → ltb (m + 1) k ≡ ltb m n
ltb_next m n k e = by_test (ltb m n)
    (λ p. rw p (let q = ltb-true m n p in lt-ltb (m + 1) k (omega arith)))
    (λ p. rw p (let q = ltb-false m n p in le-ltb (m + 1) k (omega arith)))

module _ (g : Register) (w : well_formed g ≡ true) (us : List Use) (F : Fits us) (D : Dated us) (ks : List ℕ) (O : Ordered 0 (use_keys us) ks) (today : ℕ) where
  abbrev rs : List Range
  rs = kept today g.ranges

  f₀ : Formed g
  f₀ = formed g w

  S₀ : Sound g.ranges
  S₀ = stand_sound g.latest g.ranges f₀.stand

  S : Sound rs
  S = kept_sound today g.ranges S₀

  T : Strung 2 (spans_of rs)
  T = kept_strung 2 today g.ranges (two g.latest g.ranges f₀.stand (order_strung g.ranges S₀ f₀.order))

  R : Rises 2 ks
  R = rises_two (use_keys us) ks (keys_least us D) O.rises O.same

  hit_is : hits 0 (weave (spans_of rs) ks) ≡ clash rs us
  hit_is = clash_is rs S T us ks F R O.same

  module _ (q : clash rs us ≡ false) where
    spans_are : closed_up (spans_of rs) ks ≡ one 0 ∷ spans_of (add_all us rs)
    spans_are =
        closed_is (spans_of rs) (use_keys us) ks T (keys_least us D) R O.same (hit_is ∙ q)
        ∙ ap (λ (l : List Span). one 0 ∷ l) (sym (all_spans us rs F S))

    length_spans : (rs : List Range) → length (spans_of rs) ≡ length rs
    length_spans [] = refl
    length_spans (r ∷ rs) = ap suc (length_spans rs)

    length_is : length (closed_up (spans_of rs) ks) ≡ length (add_all us rs) + 1
    length_is = ap (λ (l : List Span). length l) spans_are ∙ (let e = length_spans (add_all us rs) in omega arith)

    ranges_are : ranges_of (froms (drop 1 (closed_up (spans_of rs) ks))) (tos (drop 1 (closed_up (spans_of rs) ks))) ≡ add_all us rs
    ranges_are = ap (λ (l : List Span). ranges_of (froms (drop 1 l)) (tos (drop 1 l))) spans_are ∙ ranges_back (add_all us rs) (all_sound us rs F S)

  same_first : (room : ℕ) → first (keys_refusals (spans_of rs) ks room) ≡ first (uses_refusals g us today room)
  same_first room = by_test (clash rs us)
      (λ p. rw (hit_is ∙ p, p))
      (λ p.
      let a : ltb 1025 (length (closed_up (spans_of rs) ks)) ≡ ltb 1024 (length (add_all us rs)) = ltb_next 1024 (length (add_all us rs)) (length (closed_up (spans_of rs) ks)) (length_is p) in
      let b : length (closed_up (spans_of rs) ks) - 1 ≡ length (add_all us rs) = omega (arith, length_is p) in
      rw (hit_is ∙ p, p, a, b))

  same_register : (code room : ℕ) → first (keys_refusals (spans_of rs) ks room) ≡ 0 → keys_register (spans_of rs) ks code today ≡ record { code = code; latest = today; ranges = add_all us rs }
  same_register code room e = by_test (clash rs us)
      (λ p. let z : first (keys_refusals (spans_of rs) ks room) ≡ 27 = rw (hit_is ∙ p) in absurd (omega (arith, z, e)))
      (λ p. ap (λ (l : List Range). record { code = code; latest = today; ranges = l }) (ranges_are p))

  pub enters_uses : (code : ℕ) {before : List ℕ} {r : Result ℕ EnterError} {after : List ℕ} → EntersKeys (spans_of rs) ks code today before r after → EntersUses g us code today before r after
  enters_uses code {before} A = answers_as (same_first (length before)) (same_register code (length before)) A
