use Rattle.judging.proofs.opening.with_low.Goals as goal

pub returns-then-continues-o : goal.returns-then-continues-o
returns-then-continues-o c = rw (c.if-continues-o.true, c.with_more.ensures)

pub returns : goal.returns
returns c = rw c.if-continues-o.false
