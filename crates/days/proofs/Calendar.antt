-- Laws of the rows of month lengths and of the running day number.
use mathlib.Core.Path.{◌≡◌, refl, ap, subst, sym, ◌∙◌}
use mathlib.Core.Bool.{Bool, true, false, not, ◌&&◌, ◌||◌, and-true}
use mathlib.Core.List.{List, [], ◌∷◌}
use Prim.Native.Nat.{ℕ, zero, suc, ◌+◌, ◌-◌, ◌*◌, ◌/◌, ◌%◌, ◌≤◌, ◌<◌, min, zero-le}
use native.Mathlib.Nat.{min-eq_left, min-eq_right, le_of_lt}
use native.Mathlib.Omega.{arith}
use lib.ListN.{get_or, take, get_or-eq_default}
use lib.Seq.{take_all}
use lib.Dec.{leb, eqb, leb→le, eqb→eq}
use mathlib.Core.Logic.{◌⊎◌, inl, inr, ⊎_elim}
use Rattle.std.specs.Int.{from_bool}
use borrow.Author.Tests.{le-leb, lt-leb, leb-true, leb-false, eqb-true, eqb-false}
use Rattle.laws.proofs.Truth.{le_or_lt}
use Rattle.laws.proofs.Entries.{at}
use Rattle.laws.proofs.Finite.{at as below_at}
use Rattle.laws.specs.Lists.{sum}
use Rattle.days.specs.Days.{is_leap, row, days_before, year_of, month_of, date_of, is_real, month_length}

row_past : (b : Bool) (k : ℕ) → 12 ≤ k → get_or (row b) k 0 ≡ 0
unfolding row
row_past true k h = get_or-eq_default (row true) 0 h
row_past false k h = get_or-eq_default (row false) 0 h

pub month_le : (b : Bool) (k : ℕ) → get_or (row b) k 0 ≤ 31
unfolding row
month_le true k = ⊎_elim (λ h. rw (row_past true k h) zero-le) (λ h. leb→le _ _ (at (λ x. leb x 31) (row true) tt k h)) (le_or_lt 12 k)
month_le false k = ⊎_elim (λ h. rw (row_past false k h) zero-le) (λ h. leb→le _ _ (at (λ x. leb x 31) (row false) tt k h)) (le_or_lt 12 k)

-- one month more
pub sum_more : (xs : List ℕ) (k : ℕ) → sum (take (suc k) xs) ≡ sum (take k xs) + get_or xs k 0
sum_more [] zero = refl
sum_more [] (suc k) = refl
sum_more (x ∷ xs) zero = omega arith
sum_more (x ∷ xs) (suc k) = omega (arith, sum_more xs k)

pub january : (b : Bool) → 31 ≡ sum (take 1 (row b))
unfolding row
january true = refl
january false = refl

-- the days before a month, by its number: from March on, five months have 153 days
abbrev reckoned : Bool → ℕ → ℕ
reckoned b m = (153 * m - 162) / 5 + from_bool b

by_fives : (b : Bool) (k : ℕ) → k < 11 → reckoned b (3 + k) ≡ sum (take (3 + k - 1) (row b))
unfolding row
by_fives true k h = eqb→eq _ _ (below_at (λ j. eqb (reckoned true (3 + j)) (sum (take (3 + j - 1) (row true)))) 11 tt k h)
by_fives false k h = eqb→eq _ _ (below_at (λ j. eqb (reckoned false (3 + j)) (sum (take (3 + j - 1) (row false)))) 11 tt k h)

all_before : (b : Bool) (m : ℕ) → 13 ≤ m → sum (take (13 - 1) (row b)) ≡ sum (take (m - 1) (row b))
unfolding row
all_before true m h = ap sum (sym (take_all (m - 1) (row true) (omega arith)))
all_before false m h = ap sum (sym (take_all (m - 1) (row false) (omega arith)))

-- .. and past the twelfth, all of them
pub from_march : (b : Bool) (m : ℕ) → 3 ≤ m → reckoned b (min m 13) ≡ sum (take (m - 1) (row b))
from_march b m l = by (le_or_lt m 13)
  where
    by : (m ≤ 13) ⊎ (13 < m) → reckoned b (min m 13) ≡ sum (take (m - 1) (row b))
    by (inl h) =
        let e : 3 + (m - 3) ≡ m = omega arith in
        rw (min-eq_left h) (subst (λ (j : ℕ). reckoned b j ≡ sum (take (j - 1) (row b))) e (by_fives b (m - 3) (omega arith)))
    by (inr h) = rw (min-eq_right (le_of_lt h)) (by_fives b 10 (omega arith) ∙ all_before b m (omega arith))

pub few : (b : Bool) (m : ℕ) → reckoned b (min m 13) ≤ 366
few true m = omega arith
few false m = omega arith

after_more : (s d l : ℕ) → leb (s + d) (s + l) ≡ leb d l
after_more s d l = go (leb d l) refl
  where
    go : (t : Bool) → leb d l ≡ t → leb (s + d) (s + l) ≡ t
    go true e = le-leb (s + d) (s + l) (omega (arith, leb-true d l e))
    go false e = lt-leb (s + d) (s + l) (omega (arith, leb-false d l e))

-- the dates of a month are those that, with the days before it, do not pass the days before the next
pub by_starts : (b : Bool) (m d : ℕ) → 1 ≤ m → leb (sum (take (m - 1) (row b)) + d) (sum (take (m + 1 - 1) (row b))) ≡ leb d (get_or (row b) (m - 1) 0)
by_starts b m d h =
    let e : m + 1 - 1 ≡ suc (m - 1) = omega arith in
    rw (e, sum_more) (after_more (sum (take (m - 1) (row b))) d (get_or (row b) (m - 1) 0))

-- the years before, by the usual count of leap years
abbrev pub closed : ℕ → ℕ
closed y = 365 * y + (y + 3) / 4 - (y + 99) / 100 + (y + 399) / 400

-- the multiples of 4, 100 and 400 up to y - 1, and whether y is one more: `omega` takes one divisor at a time
up4 : (y : ℕ) → y % 4 ≡ 0 → (suc y + 3) / 4 ≡ (y + 3) / 4 + 1
up4 y h = omega arith

same4 : (y : ℕ) → (y % 4 ≡ 0 → ⊥) → (suc y + 3) / 4 ≡ (y + 3) / 4
same4 y h = omega arith

up100 : (y : ℕ) → y % 100 ≡ 0 → (suc y + 99) / 100 ≡ (y + 99) / 100 + 1
up100 y h = omega arith

same100 : (y : ℕ) → (y % 100 ≡ 0 → ⊥) → (suc y + 99) / 100 ≡ (y + 99) / 100
same100 y h = omega arith

up400 : (y : ℕ) → y % 400 ≡ 0 → (suc y + 399) / 400 ≡ (y + 399) / 400 + 1
up400 y h = omega arith

same400 : (y : ℕ) → (y % 400 ≡ 0 → ⊥) → (suc y + 399) / 400 ≡ (y + 399) / 400
same400 y h = omega arith

pub fewer : (y : ℕ) → (y + 99) / 100 ≤ (y + 3) / 4
fewer y = omega arith

-- the count by its parts, so that `omega` meets no division here; one year more, where none, the first, two or all three of the counts go up
abbrev count : ℕ → ℕ → ℕ → ℕ → ℕ
count y a b d = 365 * y + a - b + d

module _ (y a b d : ℕ) (h : b ≤ a) where
  none : count y a b d + 365 ≡ count (suc y) a b d
  none = omega arith

  one : count y a b d + 366 ≡ count (suc y) (a + 1) b d
  one = omega arith

  two : count y a b d + 365 ≡ count (suc y) (a + 1) (b + 1) d
  two = omega arith

  three : count y a b d + 366 ≡ count (suc y) (a + 1) (b + 1) (d + 1)
  three = omega arith

not100 : (y : ℕ) → (y % 4 ≡ 0 → ⊥) → y % 100 ≡ 0 → ⊥
not100 y h e = omega arith

not400 : (y : ℕ) → (y % 100 ≡ 0 → ⊥) → y % 400 ≡ 0 → ⊥
not400 y h e = omega arith

-- a year adds its days to the count: by the three tests of a leap year
year : (y : ℕ) → closed y + sum (row (is_leap y)) ≡ closed (suc y)
unfolding is_leap row
year y = go (eqb (y % 4) 0) refl (eqb (y % 100) 0) refl (eqb (y % 400) 0) refl
  where
    go : (a : Bool) → eqb (y % 4) 0 ≡ a → (b : Bool) → eqb (y % 100) 0 ≡ b → (d : Bool) → eqb (y % 400) 0 ≡ d
        → closed y + sum (row ((a && not b) || d)) ≡ closed (suc y)
    go false p b q false r =
        let n = not100 y (eqb-false _ _ p) in
        rw (same4 y (eqb-false _ _ p), same100 y n, same400 y (eqb-false _ _ r)) (none y _ _ _ (fewer y))
    go false p b q true r = absurd (not400 y (not100 y (eqb-false _ _ p)) (eqb-true _ _ r))
    go true p false q d r =
        let n = eqb-false _ _ q in
        rw (up4 y (eqb-true _ _ p), same100 y n, same400 y (not400 y n)) (one y _ _ _ (fewer y))
    go true p true q false r =
        rw (up4 y (eqb-true _ _ p), up100 y (eqb-true _ _ q), same400 y (eqb-false _ _ r)) (two y _ _ _ (fewer y))
    go true p true q true r =
        rw (up4 y (eqb-true _ _ p), up100 y (eqb-true _ _ q), up400 y (eqb-true _ _ r)) (three y _ _ _ (fewer y))

pub years : (y : ℕ) → days_before y ≡ closed y
years zero = refl
years (suc y) = ap (λ (n : ℕ). n + sum (row (is_leap y))) (years y) ∙ year y

-- where the other tests of a real day hold, the last decides
pub real_by_last : (n : ℕ) → 1 ≤ year_of n → year_of n ≤ 9999 → 1 ≤ month_of n → month_of n ≤ 12 → 1 ≤ date_of n → leb (date_of n) (month_length n) ≡ is_real n
unfolding is_real
real_by_last n a b c d e = rw (le-leb _ _ a, le-leb _ _ b, le-leb _ _ c, le-leb _ _ d, le-leb _ _ e, and-true)
