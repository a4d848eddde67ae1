-- Asking first, writing later (A12): how an answer of telling and one of deriving belong together.
use Rattle.std.specs.Prelude.{ℕ, ◌≡◌, cond, List, length, take, eqb, Some, Result, Ok}
use Rattle.laws.specs.Refusals.{first}
use Rattle.headings.specs.declared.ItemNo.{ItemNo}
use Rattle.headings.specs.declared.Heading.{Heading}
use Rattle.headings.specs.Reading.{heading_of}
use Rattle.outcomes.specs.declared.Going.{Going}
use Rattle.outcomes.specs.declared.TellError.{TellError}
use Rattle.outcomes.specs.declared.DeriveError.{DeriveError}
use Rattle.outcomes.specs.Deriving.{told_number, number_refusals, derived_number}

-- the heading in a target's first 54 bytes has the type and the recipient that were told
pub record Foretold (r : Result Going TellError) (t : List ℕ) : Type 0 where
  pub heading : Heading
  pub reads : heading_of (take 54 t) ≡ Some heading
  pub told : r ≡ Ok (record { kind = heading.kind; recipient = heading.second })

-- r is told of a heading text s; then d is derived of it with the number n, and the target t₀ becomes t. What telling refuses deriving
-- refuses with the same number; what it tells of deriving refuses by the number and the target alone, or writes
pub record Together (s : List ℕ) (n : ItemNo) (t₀ : List ℕ) (r : Result Going TellError) (d : Result (Unit {0}) DeriveError) (t : List ℕ) : Type 0 where
  pub refusal : derived_number d ≡ cond (eqb (told_number r) 0) (first (number_refusals s n (length t₀))) (told_number r)
  pub heading : derived_number d ≡ 0 → Foretold r t
