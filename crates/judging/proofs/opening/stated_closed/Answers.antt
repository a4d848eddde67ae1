use borrow.Author.Tests.{eq-eqb, ne_eqb}
use Rattle.judging.proofs.opening.stated_closed.Goals as goal

pub returns-then-o-eq6 : goal.returns-then-o-eq6
returns-then-o-eq6 c = rw (eq-eqb _ 6 c.if-o-eq6.true, c.group_claims.ensures, c.said_closed.ensures, c.sum_group.ensures)

pub returns : goal.returns
returns c = rw (ne_eqb _ 6 c.if-o-eq6.false)
