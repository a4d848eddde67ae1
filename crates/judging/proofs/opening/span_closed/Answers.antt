use borrow.Author.Tests.{eq-eqb, ne_eqb}
use Rattle.judging.proofs.opening.span_closed.Goals as goal

pub returns-then-o-eq5 : goal.returns-then-o-eq5
returns-then-o-eq5 c = rw (eq-eqb _ 5 c.if-o-eq5.true, c.first_of.ensures, c.span_by.ensures, c.said_closed.ensures)

pub returns : goal.returns
returns c = rw (ne_eqb _ 5 c.if-o-eq5.false)
