use Prim.Native.Nat.{◌-◌}
use borrow.Author.Rules.{rules}
use Rattle.handing.proofs.Handed.{hand_start, hand_more, hand_end}
use Rattle.handing.proofs.hand_out.Goals as goal

pub loop-i-init : goal.loop-i-init
loop-i-init c = hand_start (search rules) (search rules)

pub loop-i-preserved : goal.loop-i-preserved
loop-i-preserved c = hand_more c.loop-i.invariant (search rules)

pub returns : goal.returns
returns c = hand_end c.loop-i.invariant (search rules)
