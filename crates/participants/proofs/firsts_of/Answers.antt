use Rattle.participants.proofs.Listing.{fill_start, fill_more, fill_end}
use borrow.Author.Rules.{rules}
use Rattle.participants.proofs.firsts_of.Goals as goal

pub loop-i-init : goal.loop-i-init
loop-i-init c = fill_start _ _ (search rules)

pub loop-i-preserved : goal.loop-i-preserved
loop-i-preserved c = fill_more c.loop-i.invariant c.loop-i-test.true

pub returns : goal.returns
returns c = fill_end c.loop-i.invariant c.loop-i-test.false
