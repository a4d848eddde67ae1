use mathlib.Core.Path.{sym}
use lib.Seq.{length-take-le}
use Rattle.listing_texts.specs.Job.{job_of}
use Rattle.listing_texts.proofs.Jobs.{short}
use Rattle.listing_texts.proofs.job.read_job.Goals as goal

pub returns-then-input-lt14 : goal.returns-then-input-lt14
returns-then-input-lt14 c = short _ c.if-input-lt14.true

pub slice_bounds-read_line-end : goal.slice_bounds-read_line-end
slice_bounds-read_line-end c = sym (length-take-le 14 c.args.input.now c.if-input-lt14.false)

pub returns : goal.returns
unfolding job_of
returns c = c.read_line.ensures
