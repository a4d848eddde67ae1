-- What a file is judged by.
use Rattle.std.specs.Prelude.{ℕ, Bool, ◌&&◌, leb}
use Rattle.days.specs.Days.{is_real}
use Rattle.headings.specs.declared.Code.{Code}

-- a participant's code
abbrev pub is_code : ℕ → Bool
is_code code = leb 1 code && leb code 9999

-- 'a real day from 20000101 to 20991231'
abbrev pub is_accounting_day : ℕ → Bool
is_accounting_day day = is_real day && (leb 20000101 day && leb day 20991231)

-- which rules hold: those of input files
pub data Regime : Type 0 where
  Input : Regime

-- the regime, the submitter's code, and the accounting day
pub record Terms : Type 0 where
  pub regime : Regime
  pub code : Code
  pub today : ℕ

-- an input file's, for a submitter and an accounting day
abbrev pub input : ℕ → ℕ → Terms
input code today = record { regime = Input; code = record { 0 = code }; today = today }
