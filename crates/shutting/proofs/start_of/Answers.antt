use borrow.Author.Tests.{eq-eqb, ne_eqb}
use Rattle.shutting.proofs.start_of.Goals as goal

pub returns-then-line-eq0 : goal.returns-then-line-eq0
returns-then-line-eq0 c = rw (eq-eqb _ _ c.if-line-eq0.true)

pub returns-then-line-no : goal.returns-then-line-no
returns-then-line-no c = rw (ne_eqb _ _ c.if-line-eq0.false, eq-eqb _ _ c.if-line-no.true)

pub returns-else-line-no : goal.returns-else-line-no
returns-else-line-no c = rw (ne_eqb _ _ c.if-line-eq0.false, ne_eqb _ _ c.if-line-no.false)
