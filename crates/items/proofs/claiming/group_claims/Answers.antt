use borrow.Author.Tests.{le-leb, lt-leb}
use Rattle.items.specs.Claims.{group_claims}
use Rattle.items.proofs.claiming.group_claims.Goals as goal

pub returns-then-d-ge10 : goal.returns-then-d-ge10
unfolding group_claims
returns-then-d-ge10 c = rw (le-leb 10 _ c.if-d-ge10.true)

pub returns : goal.returns
unfolding group_claims
returns c = rw (lt-leb 10 _ c.if-d-ge10.false, c.first_of-stated.ensures, c.stated_by.ensures)
