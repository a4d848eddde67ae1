use native.Mathlib.Omega.{arith}
use Rattle.surveying.proofs.Counting.{count_start, count_on, count_full, count_end}
use Rattle.surveying.proofs.count_items.Goals as goal

pub loop-at-init : goal.loop-at-init
loop-at-init c = count_start c.heading_from-at.ensures

pub returns-then-n-gt30000 : goal.returns-then-n-gt30000
returns-then-n-gt30000 c = count_full c.loop-at.invariant c.if-n-gt30000.true

pub slip_at-x-requires : goal.slip_at-x-requires
slip_at-x-requires c = (c.loop-at-test.true, c.loop-at.invariant.headed c.loop-at-test.true)

pub loop-at-smaller : goal.loop-at-smaller
loop-at-smaller c = omega (arith, c.slip_at-x.ensures.moves, c.slip_at-x.ensures.within)

pub loop-at-preserved : goal.loop-at-preserved
loop-at-preserved c = count_on c.loop-at.invariant (omega (arith, c.if-n-gt30000.false)) c.slip_at-x.ensures

pub returns : goal.returns
returns c = count_end c.loop-at.invariant c.loop-at-test.false
