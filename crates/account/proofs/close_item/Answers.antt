use native.Mathlib.Omega.{arith}
use Rattle.account.specs.Model.{close_course}
use Rattle.account.proofs.close_item.Goals as goal

pub returns-in-None : goal.returns-in-None
unfolding close_course
returns-in-None c = (rw (c.with_unreadable-course.ensures, c.in-None.is), omega arith)

pub returns-in-Some : goal.returns-in-Some
unfolding close_course
returns-in-Some c = (rw (c.read_marks-marks.ensures.0, c.read_course-course.ensures, c.in-Some.is), c.read_marks-marks.ensures.1)
