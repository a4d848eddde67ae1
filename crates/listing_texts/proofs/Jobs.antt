-- Reading a job line, in each case of the code: its two numbers stand at their places.
use mathlib.Core.Path.{◌≡◌, ◌∙◌}
use mathlib.Core.Bool.{true, false}
use mathlib.Core.List.{List}
use Prim.Native.Nat.{ℕ, ◌≤◌, ◌<◌}
use native.Mathlib.Omega.{arith}
use lib.Dec.{leb}
use lib.ListN.{length, take, length-take}
use borrow.Author.Tests.{leb-true, leb-false}
use Rattle.laws.proofs.Truth.{by_test}
use Rattle.text.specs.Forms.{template, numbers, part_at}
use Rattle.text.proofs.Pieces.{form_length, placed, placed_is}
use Rattle.std.specs.Prelude.{Some, None}
use Rattle.listing_texts.specs.declared.job.Job.{Job}
use Rattle.listing_texts.specs.Job.{job_layout, is_job_line, job_line_of, job_of}

module _ (line : List ℕ) where
  places : numbers job_layout line ≡ placed job_layout 0 line
  places = placed_is job_layout 0 line

  pub found : is_job_line line ≡ true → Some (record { code = part_at line 0 4; day = part_at line 5 8 }) ≡ job_line_of line
  unfolding job_line_of
  found m = rw (m, places)

  pub lost : is_job_line line ≡ false → None ≡ job_line_of line
  unfolding job_line_of
  lost m = rw m

-- an input that is too short for a job line
pub short : (input : List ℕ) → length input < 14 → None ≡ job_of input
unfolding job_of template
short input h = by_test (is_job_line (take 14 input))
    (λ m. absurd (omega (arith, form_length (template job_layout) (take 14 input) m, length-take 14 input)))
    (λ m. lost (take 14 input) m)

-- so an input with a job has all of it, and what follows is the file
pub whole : (input : List ℕ) (job : Job) → job_of input ≡ Some job → 14 ≤ length input
whole input job e = by_test (leb 14 (length input))
    (λ q. leb-true 14 (length input) q)
    (λ q. let f = short input (leb-false 14 (length input) q) ∙ e in let z : ◌≡◌ {A = ℕ} 0 1 = cc in absurd (omega arith))
