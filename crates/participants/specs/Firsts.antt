-- Model of the code, not part of the statement: the table that finds a code's place at one look.
use Rattle.std.specs.Prelude.{ℕ, ◌%◌, ◌≤◌, ◌<◌, List, length, get_or}

-- no code stands before the place that the table has for its remainder
pub record Firsts (codes firsts : List ℕ) : Type 0 where
  pub first : (j : ℕ) → j < length codes → get_or firsts (get_or codes j 0 % 1024) 0 ≤ j
