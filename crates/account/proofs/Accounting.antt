-- The account is only a way to compute the rules: from the summary of the items above, the step makes the summary with one item
-- more, and the marks of its heading are those that the rules say.
use Prim.Native.Nat.{ℕ, ◌+◌, ◌-◌, ◌<◌, ◌≤◌, min}
use mathlib.Core.Path.{◌≡◌, refl, ap, sym, subst, ◌∙◌}
use mathlib.Core.Bool.{Bool, true, false, cond, not, ◌&&◌, ◌||◌, or-false, and-false, not-not}
use mathlib.Core.List.{List, [], ◌∷◌}
use native.Mathlib.Nat.{add-zero}
use native.Mathlib.Omega.{arith}
use lib.Dec.{eqb, leb, ltb}
use lib.ListN.{length, get_or, set}
use borrow.Author.Tests.{eqb-true, eq-eqb, ne_eqb, ltb-true, ltb-false, le-ltb, le-leb}
use Rattle.laws.specs.Tests.{among, mark}
use Rattle.laws.specs.Lists.{sum}
use Rattle.days.specs.Days.{is_real, day_number, day_of}
use Rattle.days.proofs.Order.{real_parts}
use Rattle.days.proofs.Reckoning.{not_before, by_limit, by_eleven, none_real}
use Rattle.headings.specs.declared.Code.{Code}
use Rattle.headings.specs.declared.Amount.{Amount}
use Rattle.headings.specs.declared.ItemNo.{ItemNo}
use Rattle.headings.specs.declared.Heading.{Heading}
use Rattle.headings.specs.ItemTypes.{is_payment, is_priority, is_input, group_of}
use Rattle.headings.specs.HeadRules.{rule10, rule13, rule14}
use Rattle.rules.specs.declared.First.{First}
use Rattle.rules.specs.declared.First.TheVariants.{Missing, Unread, Says}
use Rattle.rules.specs.declared.Payment.{Payment}
use Rattle.rules.specs.declared.Range.{Range}
use Rattle.rules.specs.declared.Statement.{Statement}
use Rattle.rules.specs.declared.Sums.{Sums}
use Rattle.rules.specs.declared.Digest.{Digest}
use Rattle.rules.specs.Terms.{Terms}
use Rattle.rules.specs.Blocks.{empty, oldest, block_above, readable, payments, amounts, with_amount}
use Rattle.rules.specs.FieldRules.{until_today, until_thirty, rule8}
use Rattle.rules.specs.HeadingRules.{rule11, rule12, rule15}
use Rattle.rules.specs.BlockRules.{skips, unlike, span_wrong, misstated, stated_in}
use Rattle.rules.specs.Spots.{own_tests, block_tests}
use Rattle.blocks.specs.Model.{breaks18, skips_to, breaks20, breaks21, tells_capped, misstated_capped, group_breaks, group_marks, open_marks, ending_marks, closing_marks, course_of, count_cap, sum_cap}
use Rattle.own_rules.specs.Model.{basis_of, breaks8, breaks11, own_marks}
use Rattle.group_sums.specs.Model.{plus_at}
use Rattle.account.specs.Model.{counts_after, sums_after, kc_block, heading_block, heading_course, touched_block, empty_block, read_block, read_marks, close_at, close_model}
use Rattle.account.specs.Summary.{priority_first, day_first, number_first, number_last, ten, summary, marks_by}
use Rattle.account.proofs.Ten.{cap_cap, get_ten, set_ten, same_ten}
use Rattle.std.specs.Prelude.{None, Option, Some}

-- ---- days by limits: what `breaks_eleven` and `breaks_eight` say
-- the last day itself is not after the accounting day; and where it is not real, it is 0
module _ (n day : ℕ) (e : eqb day (day_of n) ≡ true) where
  is_last : day ≡ day_of n
  is_last = eqb-true day (day_of n) e

  not_past : (r : is_real day ≡ true) (days : ℕ) → ltb (n + days) (day_number day) ≡ false
  not_past r days =
      let s = ltb-false n (day_number day) (sym (by_limit day (real_parts day r) n) ∙ le-ltb (day_of n) day (omega (arith, is_last))) in
      le-ltb (n + days) (day_number day) (omega arith)

  no_day : is_real day ≡ false → day ≡ 0
  no_day r = is_last ∙ none_real n (sym (ap is_real is_last) ∙ r)

pub same_eleven : (terms : Terms) (h : Heading) → breaks11 (basis_of terms) h.day ≡ rule11 terms h
unfolding breaks11 basis_of
same_eleven terms h = go (is_real day) refl (eqb day (day_of n)) refl
  where
    day : ℕ
    day = h.day

    n : ℕ
    n = day_number terms.today

    go : (r : Bool) → is_real day ≡ r → (t : Bool) → eqb day (day_of n) ≡ t
        → cond t (leb day (day_of (n - 11))) (not r || (ltb (day_of n) day || leb day (day_of (n - 11))))
        ≡ (not r || (ltb (n + 0) (day_number day) || ltb (day_number day + 10) n))
    go false q true e = le-leb day (day_of (n - 11)) (omega (arith, no_day n day e q))
    go false q false e = refl
    go true q true e = rw (not_past n day e q 0) (by_eleven day (real_parts day q) n)
    go true q false e = rw (by_limit day (real_parts day q) n, by_eleven day (real_parts day q) n, add-zero)

pub same_eight : (terms : Terms) (kind day : ℕ) → breaks8 (basis_of terms) kind day ≡ rule8 terms kind day
unfolding breaks8 basis_of
same_eight terms kind day = ap (λ (b : Bool). is_payment kind && b) (go (is_real day) refl (eqb day (day_of n)) refl (among kind until_today) (among kind until_thirty))
  where
    n : ℕ
    n = day_number terms.today

    none : (u v : Bool) → false ≡ ((u && false) || (v && false))
    none true true = refl
    none true false = refl
    none false true = refl
    none false false = refl

    go : (r : Bool) → is_real day ≡ r → (t : Bool) → eqb day (day_of n) ≡ t → (u v : Bool)
        → cond t (eqb day 0) (not r || ((u && ltb (day_of n) day) || (v && ltb (day_of (n + 30)) day)))
        ≡ (not r || ((u && ltb (n + 0) (day_number day)) || (v && ltb (n + 30) (day_number day))))
    go false q true e u v = eq-eqb day 0 (no_day n day e q)
    go false q false e u v = refl
    go true q true e u v = rw (not_past n day e q 0, not_past n day e q 30) (ne_eqb day 0 (λ z. omega (arith, z, not_before day (real_parts day q))) ∙ none u v)
    go true q false e u v = rw (by_limit day (real_parts day q) n, by_limit day (real_parts day q) (n + 30), add-zero)

-- ---- each test of the account is the rule's
same_day : (hs : List Heading) (h : Heading) → breaks18 (not (empty hs)) (day_first hs) h.day ≡ not (eqb h.day (oldest h hs).day)
same_day [] h = simp (eq-eqb h.day h.day refl)
same_day (g ∷ gs) h = refl

same_skips : (hs : List Heading) (n : ItemNo) → skips_to (not (empty hs)) (number_last hs) n ≡ skips hs n
same_skips [] n = refl
same_skips (g ∷ gs) n = refl

same_span : (hs : List Heading) (s : First Range) → breaks21 (not (empty hs)) (number_first hs) (number_last hs) s ≡ span_wrong hs s
same_span hs Missing = refl
same_span hs Unread = refl
same_span [] (Says p) = refl
same_span (g ∷ gs) (Says p) = refl

alike : (p : Bool) → unlike p p ≡ false
alike true = refl
alike false = refl

same_class : (ts : List ℕ) (k : ℕ)
    → breaks20 (not (empty ts)) (priority_first ts) k ≡ (is_payment k && unlike (is_priority k) (is_priority (oldest k ts)))
same_class [] k = ap (λ (b : Bool). is_payment k && b) (sym (alike (is_priority k)))
same_class (u ∷ us) k = refl

-- ---- an Sd has 7 digits for the count and 17 for the sum, so caps there change nothing
abbrev pub Within : First Statement → Type 0
Within Missing = Unit {0}
Within Unread = Unit {0}
Within (Says p) = (p.count < count_cap) × (p.sum.0 < sum_cap)

-- each of the ten does
abbrev pub AllWithin : Sums → Type 0
AllWithin stated = (d : ℕ) → Within (stated_in stated.groups d)

-- 'a true sum of 10^17 or more equals no Sd', nor does a count of 10^7 or more
pub large_sum : (n t c : ℕ) (s : Amount) → Within (Says (record { count = c; sum = s })) → sum_cap ≤ t → misstated n t (Says (record { count = c; sum = s })) ≡ true
large_sum n t c s w h = rw (ne_eqb s.0 t (λ e. omega (arith, w.1)), and-false (eqb c n))

pub large_count : (n t c : ℕ) (s : Amount) → Within (Says (record { count = c; sum = s })) → count_cap ≤ n → misstated n t (Says (record { count = c; sum = s })) ≡ true
large_count n t c s w h = rw (ne_eqb c n (λ e. omega (arith, w.0)))

below_cap : (c n : ℕ) → n < c → min c n ≡ n
below_cap c n h = omega arith

past_cap : (c n : ℕ) → c ≤ n → ltb (min c n) c ≡ false
past_cap c n h = le-ltb (min c n) c (omega arith)

-- a capped count and sum are told just as the true ones are
same_told : (n t c s : ℕ) → c < count_cap → s < sum_cap → tells_capped (min count_cap n) (min sum_cap t) c s ≡ (eqb c n && eqb s t)
same_told n t c s hc hs = go (ltb n count_cap) refl (ltb t sum_cap) refl
  where
    go : (p : Bool) → ltb n count_cap ≡ p → (q : Bool) → ltb t sum_cap ≡ q → tells_capped (min count_cap n) (min sum_cap t) c s ≡ (eqb c n && eqb s t)
    go false e q f = rw (past_cap count_cap n (ltb-false n count_cap e), ne_eqb c n (λ z. omega (arith, ltb-false n count_cap e)))
    go true e false f =
        rw (below_cap count_cap n (ltb-true n count_cap e), e, past_cap sum_cap t (ltb-false t sum_cap f), ne_eqb s t (λ z. omega (arith, ltb-false t sum_cap f)))
        (sym (and-false (eqb c n)))
    go true e true f = rw (below_cap count_cap n (ltb-true n count_cap e), below_cap sum_cap t (ltb-true t sum_cap f), e, f)

same_group : (n t : ℕ) (s : First Statement) → Within s → misstated_capped (min count_cap n) (min sum_cap t) s ≡ misstated n t s
same_group n t Missing w = ap not (same_told n t 0 0 (omega arith) (omega arith))
same_group n t Unread w = refl
same_group n t (Says p) w = ap not (same_told n t p.count p.sum.0 w.0 w.1)

-- ---- the account after one heading more
same_classed_after : (ts : List ℕ) (k : ℕ) (p : Bool) → (not (empty ts) || p) ≡ not (empty (cond p (k ∷ ts) ts))
same_classed_after [] k true = refl
same_classed_after [] k false = refl
same_classed_after (u ∷ us) k true = refl
same_classed_after (u ∷ us) k false = refl

same_priority_after : (ts : List ℕ) (k : ℕ) (p : Bool)
    → ((not (empty ts) && priority_first ts) || (not (not (empty ts)) && (p && is_priority k))) ≡ priority_first (cond p (k ∷ ts) ts)
same_priority_after [] k true = refl
same_priority_after [] k false = refl
same_priority_after (u ∷ us) k true = or-false (is_priority (oldest u us))
same_priority_after (u ∷ us) k false = or-false (is_priority (oldest u us))

same_day_after : (hs : List Heading) (h : Heading) → cond (not (empty hs)) (day_first hs) h.day ≡ (oldest h hs).day
same_day_after [] h = refl
same_day_after (g ∷ gs) h = refl

same_first_after : (hs : List Heading) (h : Heading) → cond (not (empty hs)) (number_first hs) h.number ≡ (oldest h hs).number
same_first_after [] h = refl
same_first_after (g ∷ gs) h = refl

-- the counts and the sums after one amount a more: μ is the length or the sum of a group's amounts, and a adds `inc` to it
module _ (cap a inc : ℕ) (μ : List ℕ → ℕ) (law : (ns : List ℕ) → μ (a ∷ ns) ≡ μ ns + inc) (is : List Digest) where
  abbrev was : ℕ → ℕ
  was d = min cap (μ (amounts d is))

  -- with the amount in group t
  abbrev will : ℕ → ℕ → ℕ
  will t d = min cap (μ (cond (eqb t d) (a ∷ amounts d is) (amounts d is)))

  there : (t : ℕ) → t < 10 → will t t ≡ min cap (get_or (ten was) t 0 + inc)
  there t l = rw (eq-eqb t t refl, law (amounts t is), get_ten was t l) (sym (cap_cap cap (μ (amounts t is)) inc))

  elsewhere : (t d : ℕ) → (d ≡ t → ⊥) → was d ≡ will t d
  elsewhere t d h = rw (ne_eqb t d (λ e. h (sym e)))

  plus_ten : (t : ℕ) → plus_at cap (ten was) t inc ≡ ten (will t)
  unfolding plus_at
  plus_ten t = go (ltb t 10) refl
    where
      go : (p : Bool) → ltb t 10 ≡ p → cond p (set (ten was) t (min cap (get_or (ten was) t 0 + inc))) (ten was) ≡ ten (will t)
      go true e = set_ten was (will t) t _ (ltb-true t 10 e) (there t (ltb-true t 10 e)) (elsewhere t)
      go false e = let h : 10 ≤ t = ltb-false t 10 e in same_ten was (will t) (λ d l. elsewhere t d (λ q. omega arith))

  amount_ten : (t : ℕ) (p : Bool)
      → cond p (plus_at cap (ten was) t inc) (ten was) ≡ ten (λ d. min cap (μ (cond (p && eqb t d) (a ∷ amounts d is) (amounts d is))))
  amount_ten t true = plus_ten t
  amount_ten t false = refl

same_counts : (is : List Digest) (k : ℕ) (kc : First Payment)
    → counts_after (ten (λ d. min count_cap (length (amounts d is)))) k kc
    ≡ ten (λ d. min count_cap (length (with_amount kc (is_payment k && eqb (group_of k) d) (amounts d is))))
unfolding counts_after
same_counts is k Missing = refl
same_counts is k Unread = refl
same_counts is k (Says p) = amount_ten count_cap p.amount.0 1 length (λ ns. omega arith) is (group_of k) (is_payment k)

same_sums : (is : List Digest) (k : ℕ) (kc : First Payment)
    → sums_after (ten (λ d. min sum_cap (sum (amounts d is)))) k kc
    ≡ ten (λ d. min sum_cap (sum (with_amount kc (is_payment k && eqb (group_of k) d) (amounts d is))))
unfolding sums_after
same_sums is k Missing = refl
same_sums is k Unread = refl
same_sums is k (Says p) = amount_ten sum_cap p.amount.0 p.amount.0 sum (λ ns. omega arith) is (group_of k) (is_payment k)

-- ---- the account after an item, and its marks
module _ (terms : Terms) (above : List Digest) (kc : First Payment) (span : First Range) (sums : Sums) (within : AllWithin sums) where
  abbrev item : Option Heading → Digest
  item hd = record { head = hd; kc = kc; span = span; sums = sums }

  abbrev blk : List Digest
  blk = block_above above

  -- a 51 with any other parts
  abbrev closing : ℕ → Code → ItemNo → Code → ItemNo → Code → Heading
  closing d f n s o t = record { kind = 51; day = d; first = f; number = n; second = s; output = o; third = t }

  block_open : (h : Heading) → eqb h.kind 51 ≡ false → kc_block (heading_block (summary above) h) h.kind kc ≡ summary (item (Some h) ∷ above)
  unfolding kc_block heading_block heading_course summary
  block_open h e =
      simp (
        e,
        same_classed_after (payments (readable above)) h.kind (is_payment h.kind),
        same_priority_after (payments (readable above)) h.kind (is_payment h.kind),
        same_day_after (readable blk) h,
        same_first_after (readable blk) h,
        same_counts blk h.kind kc,
        same_sums blk h.kind kc,
      )

  block_closing : (d : ℕ) (f : Code) (n : ItemNo) (s : Code) (o : ItemNo) (t : Code)
      → empty_block (summary above).course.classed (summary above).course.priority ≡ summary (item (Some (closing d f n s o t)) ∷ above)
  unfolding empty_block summary is_payment is_input
  block_closing d f n s o t = refl

  own_are : (h : Heading)
      → own_marks (basis_of terms) h kc
      ≡ mark 10 (rule10 h) + mark 11 (rule11 terms h) + mark 12 (rule12 terms h) + mark 13 (rule13 h) + mark 14 (rule14 h) + mark 15 (rule15 h kc)
  unfolding own_marks basis_of
  own_are h = rw (same_eleven terms h)

  marks_open : (h : Heading) → eqb h.kind 51 ≡ false
      → own_marks (basis_of terms) h kc + open_marks (course_of (summary above)) h ≡ marks_by terms above (item (Some h)) (Some h)
  unfolding open_marks own_tests block_tests summary
  marks_open h e =
      simp (
        own_are h,
        e,
        same_day (readable blk) h,
        same_skips (readable blk) h.number,
        same_class (payments (readable above)) h.kind,
      )
      (omega arith)

  marks_closing : (d : ℕ) (f : Code) (n : ItemNo) (s : Code) (o : ItemNo) (t : Code)
      → own_marks (basis_of terms) (closing d f n s o t) kc + closing_marks (summary above) (closing d f n s o t) span sums
      ≡ marks_by terms above (item (Some (closing d f n s o t))) (Some (closing d f n s o t))
  unfolding closing_marks ending_marks group_marks group_breaks own_tests block_tests summary is_payment is_input
  marks_closing d f n s o t =
      simp (
        own_are (closing d f n s o t),
        not-not (empty blk),
        same_day (readable blk) (closing d f n s o t),
        same_skips (readable blk) n,
        same_span (readable blk) span,
        group 0,
        group 1,
        group 2,
        group 3,
        group 4,
        group 5,
        group 6,
        group 7,
        group 8,
        group 9,
      )
      (omega arith)
    where
      group : (d : ℕ)
          → misstated_capped (min count_cap (length (amounts d blk))) (min sum_cap (sum (amounts d blk))) (stated_in sums.groups d)
          ≡ misstated (length (amounts d blk)) (sum (amounts d blk)) (stated_in sums.groups d)
      group d = same_group (length (amounts d blk)) (sum (amounts d blk)) (stated_in sums.groups d) (within d)

  abbrev Holds : Option Heading → Type 0
  Holds hd =
      close_at (basis_of terms) (summary above) (item hd) hd
      ≡ record { block = summary (item hd ∷ above); marks = marks_by terms above (item hd) hd }

  block_unreadable : (k : First Payment) → touched_block (summary above) ≡ summary (record { head = None; kc = k; span = span; sums = sums } ∷ above)
  unfolding touched_block summary
  block_unreadable Missing = refl
  block_unreadable Unread = refl
  block_unreadable (Says p) = refl

  holds_unreadable : Holds None
  unfolding close_at own_tests block_tests
  holds_unreadable = rw (block_unreadable kc)

  holds_open : (h : Heading) → eqb h.kind 51 ≡ false → Holds (Some h)
  unfolding close_at read_block read_marks
  holds_open h e = rw (e, block_open h e, marks_open h e)

  holds_closing : (d : ℕ) (f : Code) (n : ItemNo) (s : Code) (o : ItemNo) (t : Code) → Holds (Some (closing d f n s o t))
  unfolding close_at read_block read_marks
  holds_closing d f n s o t = rw (block_closing d f n s o t, marks_closing d f n s o t)

  holds_read : (h : Heading) (b : Bool) → eqb h.kind 51 ≡ b → Holds (Some h)
  holds_read h true e =
      subst
      (λ (k : ℕ). Holds (Some (record { kind = k; day = h.day; first = h.first; number = h.number; second = h.second; output = h.output; third = h.third })))
      (sym (eqb-true h.kind 51 e))
      (holds_closing h.day h.first h.number h.second h.output h.third)
  holds_read h false e = holds_open h e

  holds : (hd : Option Heading) → Holds hd
  holds None = holds_unreadable
  holds (Some h) = holds_read h (eqb h.kind 51) refl

-- the theorem: from the account of the items above, the step makes the account with the item, and the marks that the rules say
pub account : (terms : Terms) (above : List Digest) (it : Digest) → AllWithin it.sums
    → close_model (basis_of terms) (summary above) it ≡ record { block = summary (it ∷ above); marks = marks_by terms above it it.head }
account terms above it within = holds terms above it.kc it.span it.sums within it.head
