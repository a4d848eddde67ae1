use borrow.Author.Tests.{le-leb, lt-leb}
use Rattle.judging.proofs.opening.keep_own.Goals as goal

pub returns-then-class-ge5 : goal.returns-then-class-ge5
returns-then-class-ge5 c = rw (← c.requires, le-leb 5 _ c.if-class-ge5.true)

pub returns : goal.returns
returns c = rw (← c.requires, lt-leb 5 _ c.if-class-ge5.false)
