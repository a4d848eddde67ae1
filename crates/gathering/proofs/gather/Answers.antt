use native.Mathlib.Omega.{arith}
use mathlib.Core.Path.{refl, ◌∙◌}
use lib.ListN.{length-set}
use Rattle.text.specs.Digits.{value_after}
use Rattle.words.specs.Words.{bytes_of}
use Rattle.gathering.proofs.Items.{key_none, key_used, gather_start, gather_room, gather_key, gather_none, gather_end}
use Rattle.gathering.proofs.gather.Goals as goal

pub loop-at-init : goal.loop-at-init
unfolding bytes_of value_after
loop-at-init c = (gather_start c.heading_from-at.ensures c.requires.1, refl, refl)

pub number_at-x-requires : goal.number_at-x-requires
number_at-x-requires c = let g = c.loop-at.invariant.0 in
    (c.loop-at-test.true, g.headed c.loop-at-test.true, g.reads, c.loop-at.invariant.2)

pub bounds-keys-n : goal.bounds-keys-n
bounds-keys-n c = let k = key_used c.number_at-x.ensures c.if-number-ne0.true c.day_key.ensures in
    gather_room c.loop-at.invariant.0 c.number_at-x.ensures.head.item k.0 k.1 c.requires.0 c.loop-at.invariant.1

pub overflow_add-n : goal.overflow_add-n
overflow_add-n c = record { fits = omega (arith, c.loop-at.invariant.0.few, c.loop-at.invariant.0.to, c.well_formed.0.0) }

pub loop-at-smaller-then-number-ne0 : goal.loop-at-smaller-then-number-ne0
loop-at-smaller-then-number-ne0 c = let x = c.number_at-x.ensures.head.item in omega (arith, x.moves, x.within)

pub loop-at-preserved-then-number-ne0 : goal.loop-at-preserved-then-number-ne0
loop-at-preserved-then-number-ne0 c = let k = key_used c.number_at-x.ensures c.if-number-ne0.true c.day_key.ensures in
    (gather_key c.loop-at.invariant.0 c.number_at-x.ensures.head.item k.0 k.1 c.requires.0 c.loop-at.invariant.1, length-set c.loop-at.keys c.loop-at.n c.day_key.result ∙ c.loop-at.invariant.1, c.number_at-x.ensures.word)

pub loop-at-smaller : goal.loop-at-smaller
loop-at-smaller c = let x = c.number_at-x.ensures.head.item in omega (arith, x.moves, x.within)

pub loop-at-preserved : goal.loop-at-preserved
loop-at-preserved c = (gather_none c.loop-at.invariant.0 c.number_at-x.ensures.head.item (key_none c.number_at-x.ensures c.if-number-ne0.false) refl, c.loop-at.invariant.1, c.number_at-x.ensures.word)

pub shape_of-keys : goal.shape_of-keys
shape_of-keys c = c.loop-at.invariant.1

pub returns : goal.returns
returns c = gather_end c.loop-at.invariant.0 c.loop-at-test.false c.requires.0 c.loop-at.invariant.1
