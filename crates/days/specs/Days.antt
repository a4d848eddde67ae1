-- 'A day is real by the Gregorian calendar, years 0001 to 9999' (document 01). A day is the number YYYYMMDD.
use Rattle.std.specs.Prelude.{ℕ, zero, suc, ◌+◌, ◌-◌, ◌*◌, ◌/◌, ◌%◌, Bool, true, false, not, cond, ◌&&◌, ◌||◌, List, [], ◌∷◌, get_or, take, leb, ltb, eqb}
use Rattle.laws.specs.Lists.{sum}
use Rattle.laws.specs.Tests.{every}

abbrev pub year_of : ℕ → ℕ
year_of n = n / 10000

abbrev pub month_of : ℕ → ℕ
month_of n = n / 100 % 100

abbrev pub date_of : ℕ → ℕ
date_of n = n % 100

-- divisible by 4 and not by 100, or by 400
unfoldable pub is_leap : ℕ → Bool
is_leap y = (eqb (y % 4) 0 && not (eqb (y % 100) 0)) || eqb (y % 400) 0

-- the month lengths of a leap year, and of a plain one
unfoldable pub row : Bool → List ℕ
row true = 31 ∷ 29 ∷ 31 ∷ 30 ∷ 31 ∷ 30 ∷ 31 ∷ 31 ∷ 30 ∷ 31 ∷ 30 ∷ 31 ∷ []
row false = 31 ∷ 28 ∷ 31 ∷ 30 ∷ 31 ∷ 30 ∷ 31 ∷ 31 ∷ 30 ∷ 31 ∷ 30 ∷ 31 ∷ []

-- the length of a day's month
unfoldable pub month_length : ℕ → ℕ
month_length n = get_or (row (is_leap (year_of n))) (month_of n - 1) 0

-- what makes a day real
abbrev pub real_tests : ℕ → List Bool
real_tests n =
    leb 1 (year_of n) ∷ leb (year_of n) 9999 ∷ leb 1 (month_of n) ∷ leb (month_of n) 12 ∷ leb 1 (date_of n) ∷ leb (date_of n) (month_length n) ∷ []

unfoldable pub is_real : ℕ → Bool
is_real n = every (real_tests n)

-- the days of the years 0 to y - 1
abbrev pub days_before : ℕ → ℕ
days_before zero = 0
days_before (suc y) = days_before y + sum (row (is_leap y))

-- the days of the years before, of the months before, and of the month up to this day
unfoldable pub day_number : ℕ → ℕ
day_number n = days_before (year_of n) + sum (take (month_of n - 1) (row (is_leap (year_of n)))) + date_of n

-- a day is more than so many calendar days after another
abbrev pub later : ℕ → ℕ → ℕ → Bool
later day than days = ltb (day_number than + days) (day_number day)

-- the day after: in the same month, on the first of the next month, on the first of January
unfoldable pub next : ℕ → ℕ
next n =
    cond (ltb (date_of n) (month_length n)) (n + 1)
    (cond (ltb (month_of n) 12) (year_of n * 10000 + (month_of n + 1) * 100 + 1) ((year_of n + 1) * 10000 + 101))

-- the day k days on
unfoldable pub on : ℕ → ℕ → ℕ
on zero n = n
on (suc k) n = on k (next n)

-- the real day of a number, counted on from the first; 0 where all are later, and the last where all are earlier
unfoldable pub day_of : ℕ → ℕ
day_of n =
    cond (ltb n (day_number 10101)) 0
    (cond (ltb (day_number 99991231) n) 99991231 (on (n - day_number 10101) 10101))
