use borrow.Author.Tests.{eq-eqb, ne_eqb}
use Rattle.fields.specs.Kinds.{place}
use Rattle.judging.proofs.opening.field_open.Goals as goal

pub returns-then-since-eq0 : goal.returns-then-since-eq0
returns-then-since-eq0 c = rw (eq-eqb _ 0 c.if-since-eq0.true)

pub returns : goal.returns
unfolding place
returns c = rw (ne_eqb _ 0 c.if-since-eq0.false, c.said_marks.ensures.0, c.flag.ensures.0, c.has_no_kc.ensures, c.requires.0)
