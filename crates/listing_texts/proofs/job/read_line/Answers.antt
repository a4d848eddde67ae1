use Prim.Native.Nat.{ℕ}
use mathlib.Core.Path.{◌≡◌, refl, sym, ap, ◌∙◌}
use mathlib.Core.Bool.{true, false, not}
use mathlib.Core.List.{List}
use native.Mathlib.Omega.{arith}
use borrow.Author.Tests.{not-true, not-false}
use Rattle.text.specs.Forms.{template}
use Rattle.text.proofs.Pieces.{ready}
use Rattle.listing_texts.specs.Job.{job_layout, is_job_line}
use Rattle.listing_texts.proofs.Jobs.{found, lost}
use Rattle.listing_texts.proofs.job.read_line.Goals as goal
use Rattle.listing_texts.proofs.job.read_line.Goals.{Else-not-has_form}

form : (c : Else-not-has_form) → is_job_line c.args.line.now ≡ true
unfolding template
form c = sym c.has_form.ensures ∙ c.if-not-has_form.false

pub returns-then-not-has_form : goal.returns-then-not-has_form
unfolding template
returns-then-not-has_form c = lost _ (sym c.has_form.ensures ∙ c.if-not-has_form.true)

pub part-requires : goal.part-requires
unfolding template
part-requires c = ready (template job_layout) c.args.line.now 0 4 (form (goal.at.part-requires c).Else-not-has_form) refl refl (omega arith)

pub part-requires-2 : goal.part-requires-2
unfolding template
part-requires-2 c = ready (template job_layout) c.args.line.now 5 8 (form (goal.at.part-requires-2 c).Else-not-has_form) refl refl (omega arith)

pub returns : goal.returns
returns c = rw (c.part.ensures, c.part-2.ensures) (found c.args.line.now (form (goal.at.returns c).Else-not-has_form))
