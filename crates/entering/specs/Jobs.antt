-- Entering a file, and a new register (document 02, A2 and A9): the refusals in their order, the answers, and what the target holds after.
use Rattle.std.specs.Prelude.{ℕ, ◌≡◌, not, List, [], ◌∷◌, ◌++◌, eqb, ltb, length, ⊤, Result, Ok, Err}
use Rattle.laws.specs.Refusals.{Refusal, ◌if◌, first}
use Rattle.lines.specs.Lines.{body}
use Rattle.rules.specs.Terms.{is_code, input}
use Rattle.rules.specs.Faults.{faults}
use Rattle.item_reader.specs.Slips.{slips_from}
use Rattle.listing.specs.Checking.{check_refusals}
use Rattle.register.specs.Register.{Register, size_of, register_of, is_register}
use Rattle.register.specs.Entering.{Use, used, entered}
use Rattle.adding.specs.declared.EnterError.{EnterError}
use Rattle.adding.specs.Answers.{uses_refusals, target_after, Answers}
use Rattle.entering.specs.declared.blanking.BlankError.{BlankError}
use Rattle.entering.specs.declared.blanking.BlankError.TheVariants.{BadCode, TooShort as TooShortBlank}

-- the numbers that a file uses
abbrev pub uses_of : List ℕ → List Use
uses_of file = used (slips_from 1 (body file))

-- 'checking's own; 23, not a well-formed register; 24, its code differs; 25, day before its latest; 26, the file has faults', and those of a file's numbers
abbrev pub enter_refusals : List ℕ → List ℕ → ℕ → ℕ → ℕ → List Refusal
enter_refusals register file code day room =
    check_refusals file (input code day) 0 0 0 ++
    ((23 if not (is_register register)) ∷
    (24 if not (eqb (register_of register).code code)) ∷
    (25 if ltb day (register_of register).latest) ∷
    (26 if not (eqb (length (faults (input code day) file)) 0)) ∷
    uses_refusals (register_of register) (uses_of file) day room)

-- what entering a file answers, and the target after
abbrev pub Enters : List ℕ → List ℕ → ℕ → ℕ → List ℕ → Result ℕ EnterError → List ℕ → Type 0
Enters register file code day before r after =
    Answers (enter_refusals register file code day (length before)) (entered (register_of register) day (uses_of file)) before r after

-- ---- a new register: 1, the code is not 1 to 9999; 29, target too short
-- 'a new register has latest day 0 and no ranges'
abbrev pub new_register : ℕ → Register
new_register code = record { code = code; latest = 0; ranges = [] }

abbrev pub blank_refusals : ℕ → ℕ → List Refusal
blank_refusals code room = (1 if not (is_code code)) ∷ (29 if ltb room (size_of 0)) ∷ []

abbrev pub unblanked_number : BlankError → ℕ
unblanked_number BadCode = 1
unblanked_number TooShortBlank = 29

abbrev pub blanked_number : Result ⊤ BlankError → ℕ
blanked_number (Ok done) = 0
blanked_number (Err e) = unblanked_number e

pub record Blanks (code : ℕ) (before : List ℕ) (r : Result ⊤ BlankError) (after : List ℕ) : Type 0 where
  pub number : blanked_number r ≡ first (blank_refusals code (length before))
  pub target : after ≡ target_after (first (blank_refusals code (length before))) (new_register code) before
