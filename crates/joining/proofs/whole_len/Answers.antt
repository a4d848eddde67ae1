use Rattle.std.proofs.Common.{arith}
use Rattle.joining.proofs.Behind.{seek_start, seek_more, seek_hit, seek_end}
use Rattle.joining.proofs.whole_len.Goals as goal

pub loop-end-init : goal.loop-end-init
loop-end-init c = seek_start _

pub returns-then-s-end : goal.returns-then-s-end
returns-then-s-end c = omega (arith, seek_hit _ c.loop-end.end c.loop-end.invariant c.loop-end-test.true c.if-s-end.true)

pub loop-end-preserved : goal.loop-end-preserved
loop-end-preserved c = seek_more _ c.loop-end.end c.loop-end.invariant c.loop-end-test.true c.if-s-end.false

pub returns : goal.returns
returns c = seek_end _ c.loop-end.end c.loop-end.invariant c.loop-end-test.false
