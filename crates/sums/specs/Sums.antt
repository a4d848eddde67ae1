-- A turnover and an amount, and the limit.
use Rattle.std.specs.Prelude.{ℕ, ◌≡◌, Bool, true, false, cond, ◌||◌, List, Option, Some, None, ltb, get_or, set, ℤ, pos, neg_ℤ, nat_abs, ◌+ℤ◌}

abbrev pub signed : Bool → ℕ → ℤ
signed false a = pos a
signed true a = neg_ℤ (pos a)

-- '10^17 - 1 either way'
abbrev pub beyond : ℤ → Bool
beyond z = ltb 99999999999999999 (nat_abs z)

-- a turnover and an amount, together or past the limit
abbrev pub sum_of : ℤ → ℤ → Option ℤ
sum_of t x = cond (beyond (t +ℤ x)) None (Some (t +ℤ x))

-- a turnover with an amount more
abbrev pub plus_at : List ℤ → ℕ → ℤ → List ℤ
plus_at ts k x = set ts k (get_or ts k (pos 0) +ℤ x)

-- .. that stays where it would pass the limit
abbrev pub added : List ℤ → ℕ → ℤ → List ℤ
added ts k x = cond (beyond (get_or ts k (pos 0) +ℤ x)) ts (plus_at ts k x)

-- two turnovers with an amount more: whether one passes the limit, and the sheet where none does
pub record AddsBoth (ts : List ℤ) (here there : ℕ) (x : ℤ) (r : Bool) (ts' : List ℤ) : Type 0 where
  pub passes : r ≡ (beyond (get_or ts here (pos 0) +ℤ x) || beyond (get_or (plus_at ts here x) there (pos 0) +ℤ x))
  pub sheet : r ≡ false → ts' ≡ plus_at (plus_at ts here x) there x
