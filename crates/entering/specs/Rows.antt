-- Files handed in one after the other, refused ones among them: the register after them, and the numbers that were taken.
use Rattle.std.specs.Prelude.{ℕ, cond, List, [], ◌∷◌, ◌++◌, eqb}
use Rattle.laws.specs.Refusals.{first}
use Rattle.register.specs.Register.{register_of, register_bytes}
use Rattle.register.specs.Entering.{Use, entered}
use Rattle.entering.specs.Jobs.{uses_of, enter_refusals}

-- a file that is handed in, with its submitter's code, the accounting day and the room for the new register
pub record Handed : Type 0 where
  pub file : List ℕ
  pub code : ℕ
  pub day : ℕ
  pub room : ℕ

-- what it is refused by in a register, 0 where it is entered
abbrev pub refusal_of : List ℕ → Handed → ℕ
refusal_of register h = first (enter_refusals register h.file h.code h.day h.room)

-- the register after a file, and after a row of them
abbrev pub after : List ℕ → Handed → List ℕ
after register h =
    cond (eqb (refusal_of register h) 0) (register_bytes (entered (register_of register) h.day (uses_of h.file))) register

abbrev pub through : List ℕ → List Handed → List ℕ
through register [] = register
through register (h ∷ hs) = through (after register h) hs

-- the days and numbers of the files that were entered
abbrev pub taken : List ℕ → List Handed → List Use
taken register [] = []
taken register (h ∷ hs) = cond (eqb (refusal_of register h) 0) (uses_of h.file) [] ++ taken (after register h) hs
