use borrow.Author.Rules.{rules}
use Rattle.handing.proofs.Order.{too_few, unequal, look_start, look_falls, look_more, look_end}
use Rattle.handing.proofs.ready.is_ready.Goals as goal

pub returns-then-lines-n : goal.returns-then-lines-n
returns-then-lines-n c = too_few _ _ _ c.if-lines-n.true

pub returns-then-lines-rules : goal.returns-then-lines-rules
returns-then-lines-rules c = unequal _ _ _ (search rules) c.if-lines-rules.true

pub loop-i-init : goal.loop-i-init
loop-i-init c = look_start (search rules) (search rules)

pub returns-then-k-low : goal.returns-then-k-low
returns-then-k-low c = look_falls c.loop-i.invariant (search rules) c.key_of-k.ensures c.if-k-low.true

pub loop-i-preserved : goal.loop-i-preserved
loop-i-preserved c = look_more c.loop-i.invariant (search rules) c.key_of-k.ensures c.if-k-low.false

pub returns : goal.returns
returns c = look_end c.loop-i.invariant (search rules)
