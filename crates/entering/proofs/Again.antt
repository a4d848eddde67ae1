-- What is written is a register again: so the next entering is never refused by 23.
use Prim.Native.Nat.{ℕ, ◌+◌, ◌/◌, ◌≤◌}
use native.Mathlib.Omega.{arith}
use mathlib.Core.Path.{◌≡◌, refl, sym, ap, ◌∙◌, subst}
use mathlib.Core.Bool.{Bool, true, false, cond, not, ◌&&◌, ◌||◌, false≢true}
use mathlib.Core.List.{List, [], ◌∷◌, ◌++◌}
use mathlib.Core.Logic.{◌⊎◌, inl, inr}
use lib.Dec.{T, eqb, leb, ltb}
use lib.ListN.{length, take, drop}
use lib.Seq.{take_at}
use borrow.Author.Tests.{eqb-true, eq-eqb, ltb-true, ltb-false, le-leb, le-ltb, not-true, not-false}
use Rattle.laws.specs.Refusals.{Refusal, ◌if◌, first}
use Rattle.laws.proofs.Truth.{and_parts, one_holds, first_holds, second_holds, both_hold, by_test}
use Rattle.days.specs.Days.{is_real, later, day_number}
use Rattle.days.proofs.Order.{real_parts, later_number}
use Rattle.headings.specs.declared.Heading.{Heading}
use Rattle.rules.specs.Terms.{is_code, is_accounting_day, Terms, input}
use Rattle.rules.specs.HeadingRules.{rule11}
use Rattle.rules.specs.Faults.{faults}
use Rattle.lines.specs.Lines.{body}
use Rattle.file_body.proofs.Body.{body_take}
use Rattle.item_reader.specs.declared.Slip.{Slip}
use Rattle.item_reader.specs.Slips.{slips_from}
use Rattle.item_reader.specs.Accepted.{Fine, Each, Readable}
use Rattle.item_reader.proofs.Accepted.{accepted}
use Rattle.listing.specs.Checking.{check_refusals}
use Rattle.register.specs.Register.{Range, Register, version, most_of, size_of, register_bytes, register_of, range_stands, all_stand, in_order, latest_stands, well_formed, is_register}
use Rattle.register.specs.Entering.{Use, used_at, used, kept, clash, join, add, add_all, entered}
use Rattle.register.specs.Spans.{Fits, Sound}
use Rattle.register.proofs.Sets.{order_strung, strung_order, all_sound, all_ordered}
use Rattle.register.proofs.RoundTrip.{length_register}
use Rattle.register.proofs.Formed.{Formed, formed, stand_sound, stands_again, read_again}
use Rattle.adding.specs.declared.EnterError.TheVariants.{NotRegister}
use Rattle.adding.specs.Answers.{uses_refusals}
use Rattle.gathering.specs.Keys.{Dated}
use Rattle.entering.specs.Jobs.{uses_of, enter_refusals, Enters, new_register, blank_refusals, Blanks}
use Rattle.adding.proofs.Uses.{uses_fit, kept_strung, kept_sound}
use Rattle.laws.proofs.Refusals.{NoneOf, none_applies}
use Rattle.laws.proofs.Entries.{and_right}
use Rattle.adding.proofs.Lengths.{is_formed}
use Rattle.std.specs.Prelude.{Option, Some, Ok, Err}

-- ---- days that a register of a latest day may have
abbrev pub DayStands : ℕ → ℕ → Type 0
DayStands latest day = (is_real day ≡ true) × (later day latest 0 ≡ false) × (later latest day 10 ≡ false)

abbrev AllDays : ℕ → List Range → Type 0
AllDays latest [] = Unit {0}
AllDays latest (r ∷ rs) = DayStands latest r.day × AllDays latest rs

abbrev pub UseDays : ℕ → List Use → Type 0
UseDays latest [] = Unit {0}
UseDays latest (u ∷ us) = DayStands latest u.day × UseDays latest us

-- ---- the days of an accepted file
day_stands : (terms : Terms) (h : Heading) → rule11 terms h ≡ false → DayStands terms.today h.day
day_stands terms h e = go (is_real h.day) refl (later h.day terms.today 0) refl (later terms.today h.day 10) refl e
  where
    go : (x : Bool) → is_real h.day ≡ x → (y : Bool) → later h.day terms.today 0 ≡ y → (z : Bool) → later terms.today h.day 10 ≡ z → (not x || (y || z)) ≡ false → DayStands terms.today h.day
    go true p false q false r e = (p, q, r)
    go true p false q true r e = absurd (false≢true (sym e))
    go true p true q z r e = absurd (false≢true (sym e))
    go false p y q z r e = absurd (false≢true (sym e))

use_days : (terms : Terms) (head : Option Heading) (h : Heading) → head ≡ Some h → rule11 terms h ≡ false → (us : List Use) → UseDays terms.today us → UseDays terms.today (used_at head us)
use_days terms head h e r us D = subst (λ (head : Option Heading). UseDays terms.today (used_at head us)) (sym e) (go (eqb h.number.0 0))
  where
    go : (x : Bool) → UseDays terms.today (cond x us (record { day = h.day; number = h.number.0 } ∷ us))
    go true = D
    go false = (day_stands terms h r, D)

pub fine_days : (terms : Terms) (ss : List Slip) → Each (Fine terms) ss → UseDays terms.today (used ss)
fine_days terms [] E = tt
fine_days terms (s ∷ ss) E = use_days terms s.head E.0.heading E.0.reads E.0.day (used ss) (fine_days terms ss E.1)

-- .. have eight digits
dated : (today : ℕ) (us : List Use) → UseDays today us → Dated us
dated today [] D = tt
dated today (u ∷ us) D =
    let y : 1 ≤ u.day / 10000 = (real_parts u.day D.0.0).year_from in
    let z : u.day / 10000 ≤ 9999 = (real_parts u.day D.0.0).year_to in
    (omega (arith, y), omega (arith, z), dated today us D.1)

pub accepted_dated : (code today : ℕ) (file : List ℕ) → length (faults (input code today) file) ≡ 0 → Dated (uses_of file)
accepted_dated code today file e = dated today (uses_of file) (fine_days (input code today) (slips_from 1 (body file)) (accepted (input code today) file e))

pub body_dated : (file : List ℕ) (k : ℕ) → k ≡ length (body file) → Dated (uses_of file) → Dated (used (slips_from 1 (take k file)))
body_dated file k e D = subst (λ (s : List ℕ). Dated (used (slips_from 1 s))) (sym (ap (λ (n : ℕ). take n file) e ∙ body_take file)) D

-- ---- the headings of an accepted file read
fine_read : (terms : Terms) (ss : List Slip) → Each (Fine terms) ss → Each Readable ss
fine_read terms [] E = tt
fine_read terms (s ∷ ss) E = ((E.0.heading, E.0.reads), fine_read terms ss E.1)

pub accepted_read : (code today : ℕ) (file : List ℕ) → length (faults (input code today) file) ≡ 0 → Each Readable (slips_from 1 (body file))
accepted_read code today file e = fine_read (input code today) (slips_from 1 (body file)) (accepted (input code today) file e)

pub body_read : (file : List ℕ) (k : ℕ) → k ≡ length (body file) → Each Readable (slips_from 1 (body file)) → Each Readable (slips_from 1 (take k file))
body_read file k e R = subst (λ (s : List ℕ). Each Readable (slips_from 1 s)) (sym (ap (λ (n : ℕ). take n file) e ∙ body_take file)) R

-- ---- the days of the ranges that stay
module _ (old today : ℕ) (ro : is_real old ≡ true) (rt : is_real today ≡ true) (h : old ≤ today) where
  pub number_le : day_number old ≤ day_number today
  number_le = by_test (ltb old today)
      (λ p. let l = later_number old today (real_parts old ro) (real_parts today rt) (ltb-true old today p) in omega arith)
      (λ p. let l = ltb-false old today p in let e : old ≡ today = omega arith in omega (arith, ap day_number e))

  kept_days : (rs : List Range) → all_stand old rs ≡ true → AllDays today (kept today rs)
  kept_days [] e = tt
  kept_days (r ∷ rs) e =
      let a = and_parts (range_stands old r) (all_stand old rs) e in
      let b = and_parts (is_real r.day) (not (later r.day old 0) && (not (later old r.day 10) && (leb 1 r.first && (leb r.first r.last && leb r.last 9999999)))) a.0 in
      let c = and_parts (not (later r.day old 0)) (not (later old r.day 10) && (leb 1 r.first && (leb r.first r.last && leb r.last 9999999))) b.1 in
      let l = ltb-false (day_number old + 0) (day_number r.day) (not-true _ c.0) in
      go (later today r.day 10) refl b.0 (le-ltb (day_number today + 0) (day_number r.day) (omega (arith, l, number_le))) (kept_days rs a.1)
    where
      go : (x : Bool) → later today r.day 10 ≡ x → is_real r.day ≡ true → later r.day today 0 ≡ false → AllDays today (kept today rs) → AllDays today (cond x (kept today rs) (r ∷ kept today rs))
      go true p real notlater ih = ih
      go false p real notlater ih = ((real, notlater, p), ih)

-- ---- one number more
join_days : (latest : ℕ) (r : Range) (qs : List Range) → DayStands latest r.day → AllDays latest qs → AllDays latest (join r qs)
join_days latest r [] d D = (d, tt)
join_days latest r (q ∷ qs) d D = by_test (eqb r.day q.day && eqb (r.last + 1) q.first)
    (λ w. rw w (d, D.1))
    (λ w. rw w (d, D))

add_days : (latest : ℕ) (u : Use) (rs : List Range) → DayStands latest u.day → AllDays latest rs → AllDays latest (add u rs)
add_days latest u [] d D = (d, tt)
add_days latest u (r ∷ rs) d D =
    go (ltb u.day r.day || (eqb u.day r.day && ltb u.number r.first)) (eqb u.day r.day && eqb (r.last + 1) u.number) (eqb u.day r.day && leb u.number r.last) (add_days latest u rs d D.1)
  where
    go : (x y z : Bool) → AllDays latest (add u rs)
        → AllDays latest (cond x (join (record { day = u.day; first = u.number; last = u.number }) (r ∷ rs)) (cond y (join (record { day = r.day; first = r.first; last = u.number }) rs) (cond z (r ∷ rs) (r ∷ add u rs))))
    go true y z ih = join_days latest (record { day = u.day; first = u.number; last = u.number }) (r ∷ rs) d D
    go false true z ih = join_days latest (record { day = r.day; first = r.first; last = u.number }) rs D.0 D.1
    go false false true ih = D
    go false false false ih = (D.0, ih)

all_days : (latest : ℕ) (us : List Use) (rs : List Range) → UseDays latest us → AllDays latest rs → AllDays latest (add_all us rs)
all_days latest [] rs U D = D
all_days latest (u ∷ us) rs U D = all_days latest us (add u rs) U.1 (add_days latest u rs U.0 D)

all_stand_lem : (latest : ℕ) (rs : List Range) → Sound rs → AllDays latest rs → all_stand latest rs ≡ true
all_stand_lem latest [] S D = refl
all_stand_lem latest (r ∷ rs) S D =
    let d = D.0 in
    both_hold (range_stands latest r) (all_stand latest rs)
    (both_hold (is_real r.day) _ d.0 (both_hold (not (later r.day latest 0)) _ (ap not d.1) (both_hold (not (later latest r.day 10)) _ (ap not d.2)
    (both_hold (leb 1 r.first) _ (le-leb 1 r.first S.0) (both_hold (leb r.first r.last) (leb r.last 9999999) (le-leb r.first r.last S.1) (le-leb r.last 9999999 S.2))))))
    (all_stand_lem latest rs S.3 D.1)

-- ---- the register with a file entered is well formed
module _ (g : Register) (w : well_formed g ≡ true) (us : List Use) (F : Fits us) (today : ℕ) (U : UseDays today us) (rt : is_real today ≡ true) (h : g.latest ≤ today) where
  f : Formed g
  f = formed g w

  S₀ : Sound g.ranges
  S₀ = stand_sound g.latest g.ranges f.stand

  S : Sound (kept today g.ranges)
  S = kept_sound today g.ranges S₀

  O : in_order (kept today g.ranges) ≡ true
  O = strung_order 0 (kept today g.ranges) S (kept_strung 0 today g.ranges (order_strung g.ranges S₀ f.order))

  D : AllDays today (kept today g.ranges)
  D = go (one_holds (is_real g.latest) (eqb g.latest 0 && eqb (length g.ranges) 0) f.latest)
    where
      none : (rs : List Range) → length rs ≡ 0 → AllDays today (kept today rs)
      none [] e = tt
      none (r ∷ rs) e = absurd (omega arith)

      go : (is_real g.latest ≡ true) ⊎ ((eqb g.latest 0 && eqb (length g.ranges) 0) ≡ true) → AllDays today (kept today g.ranges)
      go (inl p) = kept_days g.latest today p rt h g.ranges f.stand
      go (inr p) = none g.ranges (eqb-true (length g.ranges) 0 (and_parts (eqb g.latest 0) (eqb (length g.ranges) 0) p).1)

  entered_formed : well_formed (entered g today us) ≡ true
  entered_formed =
      both_hold (leb 1 g.code && leb g.code 9999) _ (both_hold (leb 1 g.code) (leb g.code 9999) (le-leb 1 g.code f.code_from) (le-leb g.code 9999 f.code_to))
      (both_hold (latest_stands today (add_all us (kept today g.ranges))) _ (first_holds (is_real today) _ rt)
      (both_hold (all_stand today (add_all us (kept today g.ranges))) (in_order (add_all us (kept today g.ranges)))
      (all_stand_lem today (add_all us (kept today g.ranges)) (all_sound us (kept today g.ranges) F S) (all_days today us (kept today g.ranges) U D))
      (all_ordered us (kept today g.ranges) F S O)))

-- ---- where nothing is refused
module _ (register file : List ℕ) (code day room : ℕ) (e : first (enter_refusals register file code day room) ≡ 0) where
  abbrev new : Register
  new = entered (register_of register) day (uses_of file)

  N : NoneOf (enter_refusals register file code day room)
  N = none_applies (enter_refusals register file code day room) tt e

  pub was_register : is_register register ≡ true
  was_register = not-false (is_register register) N.1.1.1.1.1.1.1.0

  pub day_real : is_real day ≡ true
  day_real = (and_parts (is_real day) (leb 20000101 day && leb day 20991231) (not-false (is_accounting_day day) N.1.0)).0

  pub day_from : (register_of register).latest ≤ day
  day_from = ltb-false day (register_of register).latest N.1.1.1.1.1.1.1.1.1.0

  pub uses_days : UseDays day (uses_of file)
  uses_days =
      let z : length (faults (input code day) file) ≡ 0 = eqb-true (length (faults (input code day) file)) 0 (not-false _ N.1.1.1.1.1.1.1.1.1.1.0) in
      fine_days (input code day) (slips_from 1 (body file)) (accepted (input code day) file z)

  pub unused : clash (kept day (register_of register).ranges) (uses_of file) ≡ false
  unused = N.1.1.1.1.1.1.1.1.1.1.1.0

  few : length new.ranges ≤ most_of version
  few = ltb-false (most_of version) (length new.ranges) N.1.1.1.1.1.1.1.1.1.1.1.1.0

  new_formed : well_formed new ≡ true
  new_formed = entered_formed (register_of register) (is_formed register was_register) (uses_of file) (uses_fit 1 (body file)) day uses_days day_real day_from

  -- what entering writes is a register
  pub entered_stands : is_register (register_bytes new) ≡ true
  entered_stands = stands_again new few new_formed

  -- .. and is read as the one that was written
  pub read_back : register_of (register_bytes new) ≡ new
  read_back = read_again new few new_formed

-- they are those of the register with the file's numbers
pub enter_writes : (register file : List ℕ) (code day : ℕ) (before : List ℕ) (n : ℕ) (after : List ℕ) → Enters register file code day before (Ok n) after
    → take n after ≡ register_bytes (entered (register_of register) day (uses_of file))
enter_writes register file code day before n after E =
    let g : Register = entered (register_of register) day (uses_of file) in
    let z = eq-eqb (first (enter_refusals register file code day (length before))) 0 (sym E.number) in
    let s : n ≡ size_of (length g.ranges) = E.written 0 ∙ ap (λ (b : Bool). cond b (size_of (length g.ranges)) 0) z in
    let t : after ≡ register_bytes g ++ drop (size_of (length g.ranges)) before =
    E.target ∙ ap (λ (b : Bool). cond b (register_bytes g ++ drop (size_of (length g.ranges)) before) before) z in
    ap (take n) t ∙ take_at (register_bytes g) (drop (size_of (length g.ranges)) before) n (length_register g ∙ sym s)

-- so the bytes that an answer says were written can be entered in again
pub enter_again : (register file : List ℕ) (code day : ℕ) (before : List ℕ) (n : ℕ) (after : List ℕ) → Enters register file code day before (Ok n) after → is_register (take n after) ≡ true
enter_again register file code day before n after E =
    ap is_register (enter_writes register file code day before n after E) ∙ entered_stands register file code day (length before) (sym E.number)

-- and so can a new one
pub blank_stands : (code : ℕ) → is_code code ≡ true → is_register (register_bytes (new_register code)) ≡ true
blank_stands code e = stands_again (new_register code) (omega arith) (both_hold (leb 1 code && leb code 9999) ((is_real 0 || true) && true) e (both_hold (is_real 0 || true) true (second_holds (is_real 0) true refl) refl))

pub blank_again : (code : ℕ) (before after : List ℕ) → Blanks code before (Ok tt) after → is_register (take 13 after) ≡ true
blank_again code before after B =
    let e : first (blank_refusals code (length before)) ≡ 0 = sym B.number in
    let z = eq-eqb (first (blank_refusals code (length before))) 0 e in
    let N = none_applies (blank_refusals code (length before)) tt e in
    let t : after ≡ register_bytes (new_register code) ++ drop 13 before = B.target ∙ ap (λ (b : Bool). cond b (register_bytes (new_register code) ++ drop 13 before) before) z in
    ap (λ (l : List ℕ). is_register (take 13 l)) t
    ∙ ap is_register (take_at (register_bytes (new_register code)) (drop 13 before) 13 (length_register (new_register code)))
    ∙ blank_stands code (not-false (is_code code) N.0)

-- ---- 23 is never the answer for a register
-- a number that none of the refusals has
abbrev absent : ℕ → List Refusal → Bool
absent k [] = true
absent k ((j if t) ∷ rs) = not (eqb j k) && absent k rs

absent_first : (k : ℕ) (rs : List Refusal) → 1 ≤ k → T (absent k rs) → first rs ≡ k → ⊥
absent_first k [] h n e = omega (arith, h, e)
absent_first k ((j if true) ∷ rs) h n e = other (eqb j k) refl n
  where
    other : (x : Bool) → eqb j k ≡ x → T (not x && absent k rs) → ⊥
    other true q m = m
    other false q m = false≢true (sym q ∙ eq-eqb j k e)
absent_first k ((j if false) ∷ rs) h n e = absent_first k rs h (and_right (not (eqb j k)) (absent k rs) n) e

-- one that does not apply, taken out
first_without : (rs : List Refusal) (k : ℕ) (ss : List Refusal) → first (rs ++ ((k if false) ∷ ss)) ≡ first (rs ++ ss)
first_without [] k ss = refl
first_without ((j if true) ∷ rs) k ss = refl
first_without ((j if false) ∷ rs) k ss = first_without rs k ss

pub never_23 : (register file : List ℕ) (code day : ℕ) (before : List ℕ) (after : List ℕ) → is_register register ≡ true → Enters register file code day before (Err NotRegister) after → ⊥
never_23 register file code day before after e E =
    absent_first 23 (check_refusals file (input code day) 0 0 0 ++ rest) (omega arith) tt
    (sym (first_without (check_refusals file (input code day) 0 0 0) 23 rest) ∙ ap (λ (b : Bool). first (check_refusals file (input code day) 0 0 0 ++ ((23 if not b) ∷ rest))) (sym e) ∙ sym E.number)
  where
    rest : List Refusal
    rest =
        (24 if not (eqb (register_of register).code code)) ∷
        (25 if ltb day (register_of register).latest) ∷
        (26 if not (eqb (length (faults (input code day) file)) 0)) ∷
        uses_refusals (register_of register) (uses_of file) day (length before)
