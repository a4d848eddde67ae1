-- The job line of the listing program: 'four digits, space, eight digits, LF, then the file' (document 01).
use Rattle.std.specs.Prelude.{ℕ, Bool, cond, List, [], ◌∷◌, get_or, take, Option, Some, None}
use Rattle.laws.specs.Ascii.{ascii}
use Rattle.text.specs.Forms.{Piece, fixed, padded, template, has_form, numbers}
use Rattle.listing_texts.specs.declared.job.Job.{Job}

abbrev pub job_layout : List Piece
job_layout = padded 4 ∷ fixed (ascii " ") ∷ padded 8 ∷ fixed (ascii "\n") ∷ []

abbrev pub is_job_line : List ℕ → Bool
is_job_line line = has_form (template job_layout) line

-- its two numbers: the submitter's code and the accounting day
abbrev pub job_from : List ℕ → Job
job_from vs = record { code = get_or vs 0 0; day = get_or vs 1 0 }

unfoldable pub job_line_of : List ℕ → Option Job
job_line_of line = cond (is_job_line line) (Some (job_from (numbers job_layout line))) None

-- the job of an input: what its first 14 bytes say
unfoldable pub job_of : List ℕ → Option Job
job_of input = job_line_of (take 14 input)
