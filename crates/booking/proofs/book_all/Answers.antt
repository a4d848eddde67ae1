use native.Mathlib.Omega.{arith}
use Rattle.booking.proofs.Soundness.{sound}
use Rattle.booking.proofs.Walks.{walk_start, walk_on, walk_end}
use Rattle.booking.proofs.book_all.Goals as goal

pub loop-at-init : goal.loop-at-init
loop-at-init c = walk_start c.heading_from-at.ensures

pub slip_at-x-requires : goal.slip_at-x-requires
slip_at-x-requires c = (c.loop-at-test.true, c.loop-at.invariant.headed c.loop-at-test.true)

pub book-t-requires : goal.book-t-requires
book-t-requires c = (c.requires.0, c.requires.1, rw c.posting_of.ensures (sound c.slip_at-x.result.slip c.slip_at-x.ensures.small))

pub loop-at-smaller : goal.loop-at-smaller
loop-at-smaller c = omega (arith, c.slip_at-x.ensures.moves, c.slip_at-x.ensures.within)

pub loop-at-preserved : goal.loop-at-preserved
loop-at-preserved c = walk_on c.loop-at.invariant c.slip_at-x.ensures c.posting_of.ensures c.book-t.ensures.value c.book-t.ensures.kept_by

pub returns : goal.returns
returns c = walk_end c.loop-at.invariant c.loop-at-test.false
