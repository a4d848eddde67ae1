use Rattle.account.specs.Model.{heading_course}
use Rattle.account.proofs.with_heading.Goals as goal

pub returns : goal.returns
unfolding heading_course
returns c = simp (c.first_kept-2.ensures, c.first_kept.ensures, c.is_priority.ensures, c.is_payment-paying.ensures)
