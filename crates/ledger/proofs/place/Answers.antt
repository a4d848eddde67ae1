use borrow.Author.Rules.{rules}
use Rattle.ledger.proofs.Placing.{place_start, place_more, place_hit, place_end}
use Rattle.ledger.proofs.place.Goals as goal

pub loop-p-init : goal.loop-p-init
loop-p-init c = place_start c.requires

pub returns-then-key_of-k : goal.returns-then-key_of-k
returns-then-key_of-k c = record { within = search rules; split = place_hit c.requires c.loop-p.invariant (search rules) c.key_of-k.ensures c.key_of.ensures c.if-key_of-k.true }

pub loop-p-preserved : goal.loop-p-preserved
loop-p-preserved c = place_more c.requires c.loop-p.invariant (search rules) c.key_of-k.ensures c.key_of.ensures c.if-key_of-k.false

pub returns : goal.returns
returns c = record { within = search rules; split = place_end c.loop-p.invariant c.loop-p-test.false }
