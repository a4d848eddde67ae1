-- The running day number tells the order of real days, and the next real day has the next number.
use mathlib.Core.Path.{◌≡◌, refl, ap, ◌∙◌, sym}
use mathlib.Core.Bool.{Bool, true, false, cond}
use mathlib.Core.List.{List, [], ◌∷◌}
use mathlib.Core.Logic.{⊎_elim}
use Prim.Native.Nat.{ℕ, zero, suc, ◌+◌, ◌-◌, ◌*◌, ◌≤◌, ◌<◌, zero-le}
use native.Mathlib.Nat.{add-zero, le_antisymm, eq-or-lt_of_le, le_refl, le_trans, le-add_right, add-suc, add-sub_cancel, le_of_suc-le-suc, not-suc-le-zero}
use native.Mathlib.Omega.{arith}
use lib.ListN.{get_or, take}
use native.Mathlib.Numerals.{add-one}
use lib.Arith.{lt_of_le-ne}
use lib.Dec.{leb, ltb, eqb, leb→le}
use borrow.Author.Tests.{leb-true, ltb-true, ltb-false, le-leb, lt-ltb, le-ltb, eqb-true, eqb-false}
use Rattle.laws.proofs.Every.{each_holds}
use Rattle.laws.proofs.Entries.{at}
use Rattle.laws.specs.Lists.{sum}
use Rattle.days.specs.Days.{is_leap, row, days_before, day_number, year_of, month_of, date_of, real_tests, is_real, month_length, later, next, on}
use Rattle.days.proofs.Calendar.{sum_more, month_le}

-- what the test of a real day says, part by part
pub record Real (n : ℕ) : Type 0 where
  pub year_from : 1 ≤ year_of n
  pub year_to : year_of n ≤ 9999
  pub month_from : 1 ≤ month_of n
  pub month_to : month_of n ≤ 12
  pub day_from : 1 ≤ date_of n
  pub day_to : date_of n ≤ month_length n

pub real_parts : (n : ℕ) → is_real n ≡ true → Real n
unfolding is_real
real_parts n e = record {
  year_from = leb-true _ _ (each_holds (real_tests n) e 0);
  year_to = leb-true _ _ (each_holds (real_tests n) e 1);
  month_from = leb-true _ _ (each_holds (real_tests n) e 2);
  month_to = leb-true _ _ (each_holds (real_tests n) e 3);
  day_from = leb-true _ _ (each_holds (real_tests n) e 4);
  day_to = leb-true _ _ (each_holds (real_tests n) e 5);
}

pub parts_real : (n : ℕ) → Real n → is_real n ≡ true
unfolding is_real
parts_real n r =
    simp (le-leb _ _ r.year_from, le-leb _ _ r.year_to, le-leb _ _ r.month_from, le-leb _ _ r.month_to, le-leb _ _ r.day_from, le-leb _ _ r.day_to)

-- sums of months
sum_take_le : (xs : List ℕ) (j k : ℕ) → j ≤ k → sum (take j xs) ≤ sum (take k xs)
sum_take_le xs zero k h = zero-le
sum_take_le xs (suc j) zero h = absurd (not-suc-le-zero h)
sum_take_le [] (suc j) (suc k) h = zero-le
sum_take_le (x ∷ xs) (suc j) (suc k) h = omega (arith, sum_take_le xs j k (le_of_suc-le-suc h))

pub sum_take_all : (xs : List ℕ) (j : ℕ) → sum (take j xs) ≤ sum xs
sum_take_all xs zero = zero-le
sum_take_all [] (suc j) = zero-le
sum_take_all (x ∷ xs) (suc j) = omega (arith, sum_take_all xs j)

years_le : (y z : ℕ) → y ≤ z → days_before y ≤ days_before z
years_le zero z h = zero-le
years_le (suc y) zero h = absurd (not-suc-le-zero h)
years_le (suc y) (suc z) h =
    ⊎_elim (λ e. rw e (le_refl _)) (λ l. le_trans (years_le (suc y) z l) (le-add_right _ _)) (eq-or-lt_of_le (le_of_suc-le-suc h))

within : (xs : List ℕ) (p d : ℕ) → d ≤ get_or xs p 0 → sum (take p xs) + d ≤ sum (take (suc p) xs)
within xs p d h = rw sum_more (omega arith)

pub pred_suc : (m : ℕ) → 1 ≤ m → suc (m - 1) ≡ m
pred_suc m h = omega arith

module _ (n : ℕ) (r : Real n) where
  -- up to a real day: the months before it, and its own month not over
  in_month : sum (take (month_of n - 1) (row (is_leap (year_of n)))) + date_of n ≤ sum (take (month_of n) (row (is_leap (year_of n))))
  unfolding month_length
  in_month = rw (pred_suc (month_of n) r.month_from) at (within (row (is_leap (year_of n))) (month_of n - 1) (date_of n) r.day_to)

  in_year : day_number n ≤ days_before (suc (year_of n))
  unfolding day_number
  in_year = omega (arith, in_month, sum_take_all (row (is_leap (year_of n))) (month_of n))

  after_start : days_before (year_of n) < day_number n
  unfolding day_number
  after_start = omega (arith, r.day_from)

-- which of year, month and day decides the order
years_in_order : (a b : ℕ) → a < b → year_of a ≤ year_of b
years_in_order a b h = omega arith

months_in_order : (a b : ℕ) → a < b → year_of a ≡ year_of b → month_of a ≤ month_of b
months_in_order a b h e = omega arith

days_in_order : (a b : ℕ) → a < b → year_of a ≡ year_of b → month_of a ≡ month_of b → date_of a < date_of b
days_in_order a b h e f = omega arith

-- a later real day has a greater number: in a later year, in a later month of the year, on a later day of the month
module _ (a b : ℕ) (ra : Real a) (rb : Real b) (h : a < b) where
  other_year : year_of a < year_of b → day_number a < day_number b
  other_year l = omega (arith, in_year a ra, years_le (suc (year_of a)) (year_of b) l, after_start b rb)

  same_month : year_of a ≡ year_of b → month_of a ≡ month_of b → day_number a < day_number b
  unfolding day_number
  same_month e f = rw (e, f) (omega (arith, days_in_order a b h e f))

  other_month : year_of a ≡ year_of b → month_of a < month_of b → day_number a < day_number b
  unfolding day_number
  other_month e l =
      let t = sum_take_le (row (is_leap (year_of b))) (month_of a) (month_of b - 1) (omega arith) in
      rw e (omega (arith, rw e at (in_month a ra), t, rb.day_from))

  pub later_number : day_number a < day_number b
  later_number =
      ⊎_elim
      (λ e. ⊎_elim (same_month e) (other_month e) (eq-or-lt_of_le (months_in_order a b h e)))
      other_year
      (eq-or-lt_of_le (years_in_order a b h))

-- a number by its three parts
module _ (y m d : ℕ) (hm : m < 100) (hd : d < 100) where
  made_year : year_of (y * 10000 + m * 100 + d) ≡ y
  made_year = omega arith

  made_month : month_of (y * 10000 + m * 100 + d) ≡ m
  made_month = omega arith

  made_day : date_of (y * 10000 + m * 100 + d) ≡ d
  made_day = omega arith

  -- the running number of a day that is given by its parts
  pub made_number : day_number (y * 10000 + m * 100 + d) ≡ days_before y + sum (take (m - 1) (row (is_leap y))) + d
  unfolding day_number
  made_number = rw (made_year, made_month, made_day)

parts : (n : ℕ) → n ≡ year_of n * 10000 + month_of n * 100 + date_of n
parts n = omega arith

december : (b : Bool) → sum (take 12 (row b)) ≡ sum (row b)
unfolding row
december true = refl
december false = refl

module _ (n : ℕ) (r : Real n) where
  pub short : date_of n < 32
  unfolding month_length
  short = omega (arith, r.day_to, month_le (is_leap (year_of n)) (month_of n - 1))

  -- at the end of its month a day has the months up to its own behind it
  month_done : month_length n ≤ date_of n → day_number n ≡ days_before (year_of n) + sum (take (month_of n) (row (is_leap (year_of n))))
  unfolding day_number month_length
  month_done e =
      let s = rw (pred_suc (month_of n) r.month_from) at (sum_more (row (is_leap (year_of n))) (month_of n - 1)) in
      omega (arith, s, r.day_to)

  in_same_month : day_number (n + 1) ≡ suc (day_number n)
  unfolding day_number
  in_same_month =
      let e : n + 1 ≡ year_of n * 10000 + month_of n * 100 + suc (date_of n) = omega arith in
      rw e (made_number (year_of n) (month_of n) (suc (date_of n)) (omega arith) (omega (arith, short)) ∙ add-suc _ _)

  in_next_month : month_length n ≤ date_of n → month_of n < 12 → day_number (year_of n * 10000 + (month_of n + 1) * 100 + 1) ≡ suc (day_number n)
  in_next_month e l =
      made_number (year_of n) (month_of n + 1) 1 (omega arith) (omega arith) ∙ rw (month_done e, add-sub_cancel) (add-one _)

  in_next_year : month_length n ≤ date_of n → 12 ≤ month_of n → day_number ((year_of n + 1) * 10000 + 101) ≡ suc (day_number n)
  in_next_year e l =
      let m : month_of n ≡ 12 = omega (arith, r.month_to) in
      let f : (year_of n + 1) * 10000 + 101 ≡ suc (year_of n) * 10000 + 1 * 100 + 1 = omega arith in
      rw (f, made_number (suc (year_of n)) 1 1 (omega arith) (omega arith), month_done e, m, december) (omega arith)

  -- the next day's number is one more
  pub follows : day_number (next n) ≡ suc (day_number n)
  unfolding next
  follows = go (ltb (date_of n) (month_length n)) refl (ltb (month_of n) 12) refl
    where
      go : (a : Bool) → ltb (date_of n) (month_length n) ≡ a → (b : Bool) → ltb (month_of n) 12 ≡ b
          → day_number (cond a (n + 1) (cond b (year_of n * 10000 + (month_of n + 1) * 100 + 1) ((year_of n + 1) * 10000 + 101))) ≡ suc (day_number n)
      go true p b q = in_same_month
      go false p true q = in_next_month (ltb-false _ _ p) (ltb-true _ _ q)
      go false p false q = in_next_year (ltb-false _ _ p) (ltb-false _ _ q)

-- a month has a first day
some_days : (b : Bool) (k : ℕ) → k < 12 → 1 ≤ get_or (row b) k 0
unfolding row
some_days true k h = leb→le _ _ (at (λ x. leb 1 x) (row true) tt k h)
some_days false k h = leb→le _ _ (at (λ x. leb 1 x) (row false) tt k h)

-- a day that is given by its parts is real
module _ (y m d : ℕ) (y1 : 1 ≤ y) (y2 : y ≤ 9999) (m1 : 1 ≤ m) (m2 : m ≤ 12) (d1 : 1 ≤ d) (d2 : d ≤ get_or (row (is_leap y)) (m - 1) 0) where
  pub made_real : Real (y * 10000 + m * 100 + d)
  unfolding month_length
  made_real =
      let hm : m < 100 = omega arith in
      let hd : d < 100 = omega (arith, month_le (is_leap y) (m - 1)) in
      let e = made_year y m d hm hd in
      let f = made_month y m d hm hd in
      let g = made_day y m d hm hd in
      record {
        year_from = rw e y1;
        year_to = rw e y2;
        month_from = rw f m1;
        month_to = rw f m2;
        day_from = rw g d1;
        day_to = rw (e, f, g) d2;
      }

december_days : (b : Bool) → get_or (row b) 11 0 ≡ 31
unfolding row
december_days true = refl
december_days false = refl

module _ (n : ℕ) (r : Real n) (not_last : n < 99991231) where
  -- at the end of December the year is not the last
  not_over : month_length n ≤ date_of n → 12 ≤ month_of n → year_of n + 1 ≤ 9999
  unfolding month_length
  not_over e l =
      let m : month_of n ≡ 12 = omega (arith, r.month_to) in
      let t : 31 ≤ date_of n = rw (m, december_days) at e in
      omega (arith, m, t, not_last, r.year_to)

  -- the next day is real, except after the last of all
  pub next_real : Real (next n)
  unfolding next month_length
  next_real = go (ltb (date_of n) (month_length n)) refl (ltb (month_of n) 12) refl
    where
      go : (a : Bool) → ltb (date_of n) (month_length n) ≡ a → (b : Bool) → ltb (month_of n) 12 ≡ b
          → Real (cond a (n + 1) (cond b (year_of n * 10000 + (month_of n + 1) * 100 + 1) ((year_of n + 1) * 10000 + 101)))
      go true p b q =
          let e : n + 1 ≡ year_of n * 10000 + month_of n * 100 + suc (date_of n) = omega arith in
          rw e (made_real (year_of n) (month_of n) (suc (date_of n)) r.year_from r.year_to r.month_from r.month_to (omega arith) (ltb-true _ _ p))
      go false p true q =
          let l : month_of n < 12 = ltb-true _ _ q in
          made_real (year_of n) (month_of n + 1) 1 r.year_from r.year_to (omega arith) (omega arith) (omega arith)
          (some_days (is_leap (year_of n)) (month_of n + 1 - 1) (omega arith))
      go false p false q =
          let f : (year_of n + 1) * 10000 + 101 ≡ (year_of n + 1) * 10000 + 1 * 100 + 1 = omega arith in
          rw f (made_real (year_of n + 1) 1 1 (omega arith) (not_over (ltb-false _ _ p) (ltb-false _ _ q)) (omega arith) (omega arith) (omega arith) (some_days (is_leap (year_of n + 1)) 0 (omega arith)))

-- the order of the day numbers is the order of the days
module _ (a b : ℕ) (ra : Real a) (rb : Real b) where
  pub earlier : day_number a < day_number b → a < b
  earlier h = go (ltb a b) refl (eqb a b) refl
    where
      go : (t : Bool) → ltb a b ≡ t → (u : Bool) → eqb a b ≡ u → a < b
      go true e u f = ltb-true a b e
      go false e true f = absurd (omega (arith, ap day_number (eqb-true a b f)))
      go false e false f =
          let n = eqb-false a b f in
          let m : b < a = lt_of_le-ne (ltb-false a b e) (λ q. n (sym q)) in
          absurd (omega (arith, later_number b a rb ra m))

  pub same_day : day_number a ≡ day_number b → a ≡ b
  same_day e = go (ltb a b) refl (ltb b a) refl
    where
      go : (t : Bool) → ltb a b ≡ t → (u : Bool) → ltb b a ≡ u → a ≡ b
      go true p u q = absurd (omega (arith, later_number a b ra rb (ltb-true a b p)))
      go false p true q = absurd (omega (arith, later_number b a rb ra (ltb-true b a q)))
      go false p false q = le_antisymm (ltb-false b a q) (ltb-false a b p)

-- a day that is no later has no greater number
pub no_later : (a b : ℕ) → Real a → Real b → a ≤ b → day_number a ≤ day_number b
no_later a b ra rb h = ⊎_elim (λ e. rw e (le_refl _)) (λ l. omega (arith, later_number a b ra rb l)) (eq-or-lt_of_le h)

pub last_real : Real 99991231
unfolding is_real month_length row is_leap
last_real = real_parts 99991231 refl

-- k days on the number is k more: so that 'k calendar days later' is a difference of day numbers
pub days_on : (k n : ℕ) → Real n → day_number n + k ≤ day_number 99991231 → Real (on k n) × (day_number (on k n) ≡ day_number n + k)
unfolding on
days_on zero n r h = (r, sym (add-zero (day_number n)))
days_on (suc k) n r h =
    let m : n < 99991231 = earlier n 99991231 r last_real (omega arith) in
    let f = follows n r in
    let t = days_on k (next n) (next_real n r m) (omega (arith, f)) in
    (t.0, omega (arith, f, t.1))

-- real days and their numbers have one order
pub one_order : (a b : ℕ) → Real a → Real b → ltb a b ≡ ltb (day_number a) (day_number b)
one_order a b ra rb = go (ltb a b) refl
  where
    go : (t : Bool) → ltb a b ≡ t → t ≡ ltb (day_number a) (day_number b)
    go true e = sym (lt-ltb _ _ (later_number a b ra rb (ltb-true _ _ e)))
    go false e = sym (le-ltb _ _ (no_later b a rb ra (ltb-false _ _ e)))

-- so 'more than k days later' says: after the day k days on
pub later_on : (k day than : ℕ) → Real day → Real than → day_number than + k ≤ day_number 99991231 → later day than k ≡ ltb (on k than) day
later_on k day than d t h =
    let o = days_on k than t h in
    rw (← o.1) (sym (one_order (on k than) day o.0 d))
