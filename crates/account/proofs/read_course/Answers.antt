use borrow.Author.Tests.{eq-eqb, ne_eqb}
use Rattle.account.specs.Model.{read_course}
use Rattle.account.proofs.read_course.Goals as goal

pub returns-then-h-eq51 : goal.returns-then-h-eq51
unfolding read_course
returns-then-h-eq51 c = simp (c.no_course.ensures, eq-eqb _ _ c.if-h-eq51.true)

pub returns-else-h-eq51 : goal.returns-else-h-eq51
unfolding read_course
returns-else-h-eq51 c = simp (c.with_heading.ensures, ne_eqb _ _ c.if-h-eq51.false)
