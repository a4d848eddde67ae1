-- The day of a number: its year and its month as the code finds them, and how real days compare with it.
use mathlib.Core.Path.{◌≡◌, refl, ap, sym, subst, ◌∙◌}
use mathlib.Core.Bool.{Bool, true, false, cond, false≢true}
use mathlib.Core.List.{List, [], ◌∷◌}
use Prim.Native.Nat.{ℕ, zero, suc, ◌+◌, ◌-◌, ◌*◌, ◌/◌, ◌≤◌, ◌<◌}
use native.Mathlib.Nat.{not-suc-le-zero}
use native.Mathlib.Omega.{arith}
use lib.ListN.{get_or, take}
use lib.Dec.{leb, ltb}
use borrow.Author.Tests.{le-leb, lt-leb, lt-ltb, le-ltb, leb-true, ltb-true, ltb-false}
use Rattle.laws.proofs.Truth.{by_test}
use Rattle.laws.specs.Lists.{sum}
use Rattle.laws.specs.Tests.{every}
use Rattle.laws.proofs.Every.{each_holds}
use Rattle.laws.proofs.Finite.{agree}
use Rattle.days.specs.Days.{is_leap, row, is_real, days_before, day_number, year_of, month_of, month_length, on, day_of}
use Rattle.days.proofs.Calendar.{fewer, years, sum_more, month_le}
use Rattle.days.proofs.Order.{Real, real_parts, parts_real, made_real, made_number, pred_suc, no_later, one_order, short, last_real, days_on, same_day, sum_take_all}

-- ---- the year: the days before one are those of so many mean years, but for a day or two
by4 : (y : ℕ) → (y ≤ 4 * ((y + 3) / 4)) × (4 * ((y + 3) / 4) ≤ y + 3)
by4 y = (omega arith, omega arith)

by100 : (y : ℕ) → (y ≤ 100 * ((y + 99) / 100)) × (100 * ((y + 99) / 100) ≤ y + 99)
by100 y = (omega arith, omega arith)

by400 : (y : ℕ) → (y ≤ 400 * ((y + 399) / 400)) × (400 * ((y + 399) / 400) ≤ y + 399)
by400 y = (omega arith, omega arith)

mean : (y : ℕ) → (146097 * y ≤ 400 * days_before y + 396) × (400 * days_before y ≤ 146097 * y + 699)
mean y = rw years (go ((y + 3) / 4) ((y + 99) / 100) ((y + 399) / 400) (by4 y) (by100 y) (by400 y) (fewer y))
  where
    go : (a b d : ℕ) → (y ≤ 4 * a) × (4 * a ≤ y + 3) → (y ≤ 100 * b) × (100 * b ≤ y + 99) → (y ≤ 400 * d) × (400 * d ≤ y + 399) → b ≤ a
        → (146097 * y ≤ 400 * (365 * y + a - b + d) + 396) × (400 * (365 * y + a - b + d) ≤ 146097 * y + 699)
    go a b d p q r h = (omega arith, omega arith)

-- a number of 32 bits has few enough
pub few_days : (y : ℕ) → y ≤ 1000000 → days_before y ≤ 400000000
few_days y h = omega (arith, (mean y).1)

-- a number of a real day falls in a real year
year_from : (n y : ℕ) → 367 ≤ n → n ≤ days_before (suc y) → 1 ≤ y
unfolding is_leap row
year_from n zero h l = absurd (omega arith)
year_from n (suc y) h l = omega arith

year_to : (n y : ℕ) → n ≤ 3652425 → days_before y < n → y ≤ 9999
year_to n y h l = let m = (mean y).0 in omega arith

abbrev InYear : ℕ → ℕ → Type 0
InYear n y = (1 ≤ y) × (y ≤ 9999) × (days_before y < n) × (n ≤ days_before (suc y))

-- the guess of the year is not too early, and at most a year late
module _ (n g : ℕ) (e : g ≡ 400 * (n + 1) / 146097) (h : (367 ≤ n) × (n ≤ 3652425)) where
  floor : (146097 * g ≤ 400 * (n + 1)) × (400 * (n + 1) < 146097 * suc g)
  floor = rw e (omega arith, omega arith)

  pub guessed : days_before g < n → InYear n g
  guessed s =
      let m = (mean (suc g)).0 in
      let l : n ≤ days_before (suc g) = omega (arith, m, floor) in
      (year_from n g h.0 l, year_to n g h.1 s, s, l)

  -- before year 0 there are no days
  some : (g : ℕ) → n ≤ days_before g → 1 ≤ g
  some zero l = absurd (omega (arith, h.0))
  some (suc g) l = omega arith

  pub guessed_late : n ≤ days_before g → InYear n (g - 1)
  guessed_late l =
      let k = some g l in
      let m = (mean (g - 1)).1 in
      let s : days_before (g - 1) < n = omega (arith, m, floor, k) in
      let u : n ≤ days_before (suc (g - 1)) = subst (λ (x : ℕ). n ≤ days_before x) (sym (pred_suc g k)) l in
      (year_from n (g - 1) h.0 u, year_to n (g - 1) h.1 s, s, u)

pub year_days : (b : Bool) → sum (row b) ≤ 366
unfolding row
year_days true = omega arith
year_days false = omega arith

-- ---- the month of a day that is counted from the start of its year, computed at each
abbrev month_at : Bool → ℕ → ℕ
month_at b r = cond (ltb r 32) 1 (cond (leb r (sum (take 2 (row b)))) 2 ((5 * (r - sum (take 2 (row b))) + 456) / 153))

abbrev month_tests : Bool → ℕ → ℕ → List Bool
month_tests b r m = leb 1 m ∷ leb m 12 ∷ ltb (sum (take (m - 1) (row b))) r ∷ leb r (sum (take m (row b))) ∷ []

abbrev InMonth : Bool → ℕ → ℕ → Type 0
InMonth b r m = (1 ≤ m) × (m ≤ 12) × (sum (take (m - 1) (row b)) < r) × (r ≤ sum (take m (row b)))

tests_hold : (b : Bool) (r : ℕ) → 1 ≤ r → r ≤ sum (row b) → every (month_tests b r (month_at b r)) ≡ true
unfolding row
tests_hold b zero h l = absurd (not-suc-le-zero h)
tests_hold true (suc k) h l = agree (λ j. every (month_tests true (suc j) (month_at true (suc j)))) (λ j. true) 366 tt k l
tests_hold false (suc k) h l = agree (λ j. every (month_tests false (suc j) (month_at false (suc j)))) (λ j. true) 365 tt k l

-- it is the month that the day falls in
pub in_month : (b : Bool) (r : ℕ) → 1 ≤ r → r ≤ sum (row b) → InMonth b r (month_at b r)
in_month b r h l =
    let t = tests_hold b r h l in
    let m = month_at b r in (
      leb-true _ _ (each_holds (month_tests b r m) t 0),
      leb-true _ _ (each_holds (month_tests b r m) t 1),
      ltb-true _ _ (each_holds (month_tests b r m) t 2),
      leb-true _ _ (each_holds (month_tests b r m) t 3),
    )

-- ---- the day
number_first : day_number 10101 ≡ 367
unfolding day_number is_leap row
number_first = refl

number_last : day_number 99991231 ≡ 3652425
unfolding day_number is_leap row
number_last = refl

first_real : Real 10101
unfolding is_real month_length row is_leap
first_real = real_parts 10101 refl

pub before_first : (n : ℕ) → n < 367 → 0 ≡ day_of n
unfolding day_of
before_first n h = rw (number_first, lt-ltb n 367 h)

pub after_last : (n : ℕ) → 3652425 < n → 99991231 ≡ day_of n
unfolding day_of
after_last n h = rw (number_first, number_last, le-ltb n 367 (omega arith), lt-ltb 3652425 n h)

module _ (n : ℕ) (h : 367 ≤ n) (l : n ≤ 3652425) where
  counted_on : day_of n ≡ on (n - 367) 10101
  unfolding day_of
  counted_on = rw (number_first, number_last, le-ltb n 367 h, le-ltb 3652425 n l)

  day_real : Real (day_of n) × (day_number (day_of n) ≡ n)
  day_real =
      let o = days_on (n - 367) 10101 first_real (rw (number_first, number_last) (omega arith)) in
      rw counted_on (o.0, o.1 ∙ rw number_first (omega arith))

module _ (d : ℕ) (r : Real d) where
  pub not_before : 10101 ≤ d
  not_before = omega (arith, r.year_from, r.month_from, r.day_from)

  pub not_after : d ≤ 99991231
  not_after = omega (arith, r.year_to, r.month_to, short d r)

  pub in_range : (367 ≤ day_number d) × (day_number d ≤ 3652425)
  in_range =
      let a = no_later 10101 d first_real r not_before in
      let b = no_later d 99991231 r last_real not_after in
      (rw number_first at a, rw number_last at b)

  -- a real day is that of its number
  pub own_number : d ≡ day_of (day_number d)
  own_number =
      let q = day_real (day_number d) in_range.0 in_range.1 in
      same_day d (day_of (day_number d)) r q.0 (sym q.1)

  -- a real day is after the day of a number as its own number is greater
  pub by_limit : (n : ℕ) → ltb (day_of n) d ≡ ltb n (day_number d)
  by_limit n = go (ltb n 367) refl (ltb 3652425 n) refl
    where
      go : (t : Bool) → ltb n 367 ≡ t → (u : Bool) → ltb 3652425 n ≡ u → ltb (day_of n) d ≡ ltb n (day_number d)
      go true e u f =
          let s = ltb-true n 367 e in
          rw (← before_first n s) (lt-ltb 0 d (omega (arith, not_before)) ∙ sym (lt-ltb n (day_number d) (omega (arith, in_range, s))))
      go false e true f =
          let s = ltb-true 3652425 n f in
          rw (← after_last n s) (le-ltb 99991231 d not_after ∙ sym (le-ltb n (day_number d) (omega (arith, in_range, s))))
      go false e false f =
          let q = day_real n (ltb-false n 367 e) (ltb-false 3652425 n f) in
          one_order (day_of n) d q.0 r ∙ ap (λ (k : ℕ). ltb k (day_number d)) q.1

  -- and not after that of the number less eleven, as it is more than ten days before
  pub by_eleven : (n : ℕ) → leb d (day_of (n - 11)) ≡ ltb (day_number d + 10) n
  by_eleven n = by_test (ltb (n - 11) (day_number d))
      (λ e.
      let s = ltb-true (n - 11) (day_number d) e in
      lt-leb d _ (ltb-true _ _ (by_limit (n - 11) ∙ e)) ∙ sym (le-ltb (day_number d + 10) n (omega (arith, s))))
      (λ e.
      let s = ltb-false (n - 11) (day_number d) e in
      le-leb d _ (ltb-false _ _ (by_limit (n - 11) ∙ e)) ∙ sym (lt-ltb (day_number d + 10) n (omega (arith, s, in_range))))

-- the day of a number is real, where there is one
pub none_real : (n : ℕ) → is_real (day_of n) ≡ false → day_of n ≡ 0
none_real n e = go (ltb n 367) refl (ltb 3652425 n) refl
  where
    real : Real (day_of n) → day_of n ≡ 0
    real r = absurd (false≢true (sym e ∙ parts_real (day_of n) r))

    go : (t : Bool) → ltb n 367 ≡ t → (u : Bool) → ltb 3652425 n ≡ u → day_of n ≡ 0
    go true p u q = sym (before_first n (ltb-true n 367 p))
    go false p true q = real (subst Real (after_last n (ltb-true 3652425 n q)) last_real)
    go false p false q = real (day_real n (ltb-false n 367 p) (ltb-false 3652425 n q)).0

-- a day that is given by its parts is that of its number
module _ (y m d : ℕ) (y1 : 1 ≤ y) (y2 : y ≤ 9999) (m1 : 1 ≤ m) (m2 : m ≤ 12) (d1 : 1 ≤ d) (d2 : d ≤ get_or (row (is_leap y)) (m - 1) 0) where
  made : y * 10000 + m * 100 + d ≡ day_of (days_before y + sum (take (m - 1) (row (is_leap y))) + d)
  made =
      own_number (y * 10000 + m * 100 + d) (made_real y m d y1 y2 m1 m2 d1 d2)
      ∙ ap day_of (made_number y m d (omega arith) (omega (arith, month_le (is_leap y) (m - 1))))

-- as the code makes it, of the number's year and month and of what is left
pub made_of_rest : (n y m : ℕ) → InYear n y → InMonth (is_leap y) (n - days_before y) m
    → y * 10000 + m * 100 + (n - days_before y - sum (take (m - 1) (row (is_leap y)))) ≡ day_of n
made_of_rest n y m j i =
    let e = rw (pred_suc m i.0) at (sum_more (row (is_leap y)) (m - 1)) in
    made y m _ j.0 j.1 i.0 i.1 (omega (arith, i)) (omega (arith, i, e)) ∙ ap day_of (omega (arith, i, j))

-- a number of 32 bits has a day number that leaves room for more
pub number_le : (n : ℕ) → n < 4294967296 → day_number n ≤ 400001000
unfolding day_number
number_le n h =
    let y = few_days (year_of n) (omega arith) in
    omega (arith, y, year_days (is_leap (year_of n)), sum_take_all (row (is_leap (year_of n))) (month_of n - 1))
