use Rattle.account.specs.Summary.{summary}
use Rattle.account.proofs.start.Goals as goal

pub returns : goal.returns
unfolding summary
returns c = rw c.no_course.ensures
