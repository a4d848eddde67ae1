use Rattle.judging.proofs.opening.broken_by.Goals as goal

pub returns-then-breaks : goal.returns-then-breaks
returns-then-breaks c = rw c.if-breaks.true
