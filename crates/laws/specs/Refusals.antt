-- 'Each job tests its numbers in ascending order and the first wins' (document 01): a job's refusals are a list in the order
-- in which it tests them, each with its condition.
use Rattle.std.specs.Prelude.{ℕ, Bool, true, false, List, [], ◌∷◌}

infix 45 ◌if◌
-- a refusal's number, and whether its condition holds
pub data Refusal : Type 0 where
  ◌if◌ : ℕ → Bool → Refusal

-- the number of the first that applies, 0 where none does
abbrev pub first : List Refusal → ℕ
first [] = 0
first ((k if true) ∷ rs) = k
first ((k if false) ∷ rs) = first rs
