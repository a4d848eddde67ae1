-- What entering answers (document 02, A2 and A9): the refusals by a file's numbers in their order, the answers, and what the target holds
-- after.
use Rattle.std.specs.Prelude.{ℕ, ◌≡◌, cond, List, [], ◌∷◌, ◌++◌, eqb, ltb, length, drop, Result, Ok, Err}
use Rattle.std.specs.Result.{result_unwrap_or}
use Rattle.laws.specs.Refusals.{Refusal, ◌if◌, first}
use Rattle.listing.specs.Checking.{unchecked_number}
use Rattle.register.specs.Register.{Register, version, most_of, size_of, register_bytes}
use Rattle.register.specs.Entering.{Use, kept, clash, entered}
use Rattle.adding.specs.declared.EnterError.{EnterError}
use Rattle.adding.specs.declared.EnterError.TheVariants.{Refused, NotRegister, OtherCode, DayBefore, HasFaults, UsedAlready, TooMany, TooShort}

-- '27, a number is used already, in the register or twice in the file; 28, more than' 1,024 'ranges would remain; 29, target too short'
abbrev pub uses_refusals : Register → List Use → ℕ → ℕ → List Refusal
uses_refusals g us day room =
    (27 if clash (kept day g.ranges) us) ∷
    (28 if ltb (most_of version) (length (entered g day us).ranges)) ∷
    (29 if ltb room (size_of (length (entered g day us).ranges))) ∷ []

-- document 02's number for each refusal, and for each answer
abbrev pub unentered_number : EnterError → ℕ
unentered_number (Refused u) = unchecked_number u
unentered_number NotRegister = 23
unentered_number OtherCode = 24
unentered_number DayBefore = 25
unentered_number HasFaults = 26
unentered_number UsedAlready = 27
unentered_number TooMany = 28
unentered_number TooShort = 29

abbrev pub entered_number : Result ℕ EnterError → ℕ
entered_number (Ok n) = 0
entered_number (Err e) = unentered_number e

-- how many bytes were written, or another number where it is a refusal
abbrev pub written_or : Result ℕ EnterError → ℕ → ℕ
written_or r old = result_unwrap_or r old

-- the length of a register where nothing is refused
abbrev pub size_after : ℕ → Register → ℕ → ℕ
size_after refusal g old = cond (eqb refusal 0) (size_of (length g.ranges)) old

-- what a target holds after: the register, then what it held; on a refusal what it held
abbrev pub target_after : ℕ → Register → List ℕ → List ℕ
target_after refusal g before = cond (eqb refusal 0) (register_bytes g ++ drop (size_of (length g.ranges)) before) before

-- what an answer and the target after it are, for some refusals and the register to be written
pub record Answers (refusals : List Refusal) (g : Register) (before : List ℕ) (r : Result ℕ EnterError) (after : List ℕ) : Type 0 where
  pub number : entered_number r ≡ first refusals
  pub written : (old : ℕ) → written_or r old ≡ size_after (first refusals) g old
  pub target : after ≡ target_after (first refusals) g before
