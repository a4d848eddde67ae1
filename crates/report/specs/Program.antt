-- What the listing program prints for every input (document 01, 'The listing program').
use Rattle.std.specs.Prelude.{ℕ, cond, List, eqb, ltb, length, take, drop, Option, Some, None}
use Rattle.laws.specs.Refusals.{first}
use Rattle.rules.specs.Terms.{input}
use Rattle.rules.specs.Faults.{Fault, faults}
use Rattle.listing.specs.Checking.{check_refusals}
use Rattle.listing_texts.specs.declared.job.Job.{Job}
use Rattle.listing_texts.specs.Job.{job_of}
use Rattle.listing_texts.specs.Printing.{listing_text, refused_text}

-- 'a line `refused K`, or the listing'; refusal 0 is none
unfoldable pub answer_text : ℕ → ℕ → ℕ → List Fault → ℕ → List ℕ
answer_text refusal code day rows total = cond (eqb refusal 0) (listing_text code day rows total) (refused_text refusal)

-- where checking a file for a code and a day refuses with a number, and finds faults
module _ (refusal : List ℕ → ℕ → ℕ → ℕ) (faults : List ℕ → ℕ → ℕ → List Fault) where
  -- '8: input doesn't start with four digits, space, eight digits, LF'; otherwise the file is checked, 'with room for 256 pairs'
  abbrev pub job_text : Option Job → List ℕ → List ℕ
  job_text (Some job) file =
      answer_text (refusal file job.code job.day) job.code job.day (take 256 (faults file job.code job.day)) (length (faults file job.code job.day))
  job_text None file = refused_text 8

  -- '7: input over 65,536 bytes'; 7 and 8 come 'before all else'
  unfoldable pub printed : List ℕ → List ℕ
  printed input = cond (ltb 65536 (length input)) (refused_text 7) (job_text (job_of input) (drop 14 input))

-- checking's own refusal, for two slices of 256
abbrev check_refusal : List ℕ → ℕ → ℕ → ℕ
check_refusal file code day = first (check_refusals file (input code day) 256 256 256)

abbrev faults_for : List ℕ → ℕ → ℕ → List Fault
faults_for file code day = faults (input code day) file

abbrev pub file_text : Option Job → List ℕ → List ℕ
file_text job file = job_text check_refusal faults_for job file

-- what the program prints
abbrev pub list_of : List ℕ → List ℕ
list_of input = printed check_refusal faults_for input
