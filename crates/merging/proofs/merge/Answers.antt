use native.Mathlib.Omega.{arith}
use Prim.Native.Nat.{◌+◌, ◌-◌, ◌<◌}
use lib.ListN.{length}
use mathlib.Core.Path.{◌≡◌}
use mathlib.Core.Path.{refl, ◌∙◌}
use Rattle.merging.proofs.Turns.{going_start, going_hit, going_gap, going_touch, going_end}
use Rattle.merging.proofs.merge.Goals as goal

pub loop-i-init : goal.loop-i-init
loop-i-init c = let left : length c.args.keys.now + length c.args.starts.now - 0 ≡ length c.args.keys.now + length c.args.starts.now = omega arith in rw left (going_start _ _, refl, refl)

pub next-t-requires : goal.next-t-requires
next-t-requires c = (c.loop-i-test.true, c.loop-i.invariant.0.keys_in, c.loop-i.invariant.0.spans_in, c.requires.1)

pub shape_of-froms-then-t-to : goal.shape_of-froms-then-t-to
shape_of-froms-then-t-to c = c.loop-i.invariant.1

pub shape_of-tos-then-t-to : goal.shape_of-tos-then-t-to
shape_of-tos-then-t-to c = c.loop-i.invariant.2

pub returns-then-t-to : goal.returns-then-t-to
returns-then-t-to c = going_hit c.loop-i.invariant.0 c.next-t.ensures c.if-t-to.true

pub overflow_sub-t : goal.overflow_sub-t
overflow_sub-t c = omega (arith, c.if-t-to.false)

pub overflow_add-count : goal.overflow_add-count
overflow_add-count c = record { fits = omega (arith, c.loop-i.invariant.0.few, c.loop-i.invariant.0.rest, c.requires.0) }

pub loop-i-smaller-then-to-t : goal.loop-i-smaller-then-to-t
loop-i-smaller-then-to-t c = omega (arith, c.next-t.ensures.on, c.loop-i-test.true)

pub loop-i-preserved-then-to-t : goal.loop-i-preserved-then-to-t
loop-i-preserved-then-to-t c = let left : length c.args.keys.now + length c.args.starts.now - (c.next-t.result.keys + c.next-t.result.spans) ≡ length c.args.keys.now + length c.args.starts.now - (c.loop-i.i + c.loop-i.j) - 1 = omega (arith, c.next-t.ensures.on) in
    let more : 0 < length c.args.keys.now + length c.args.starts.now - (c.loop-i.i + c.loop-i.j) = omega (arith, c.loop-i-test.true) in rw left (
      going_gap c.loop-i.invariant.0 c.next-t.ensures more c.if-to-t.true c.store.ensures c.store-then-to-t.ensures,
      c.store.auto.row ∙ c.loop-i.invariant.1,
      c.store-then-to-t.auto.row ∙ c.loop-i.invariant.2,
    )

pub loop-i-smaller : goal.loop-i-smaller
loop-i-smaller c = omega (arith, c.next-t.ensures.on, c.loop-i-test.true)

pub loop-i-preserved : goal.loop-i-preserved
loop-i-preserved c = let left : length c.args.keys.now + length c.args.starts.now - (c.next-t.result.keys + c.next-t.result.spans) ≡ length c.args.keys.now + length c.args.starts.now - (c.loop-i.i + c.loop-i.j) - 1 = omega (arith, c.next-t.ensures.on) in
    let more : 0 < length c.args.keys.now + length c.args.starts.now - (c.loop-i.i + c.loop-i.j) = omega (arith, c.loop-i-test.true) in rw left (going_touch c.loop-i.invariant.0 c.next-t.ensures more c.if-t-to.false c.if-to-t.false, c.loop-i.invariant.1, c.loop-i.invariant.2)

pub overflow_add-result : goal.overflow_add-result
overflow_add-result c = record { fits = omega (arith, c.loop-i.invariant.0.few, c.loop-i.invariant.0.rest, c.requires.0) }

pub shape_of-froms : goal.shape_of-froms
shape_of-froms c = c.store-2.auto.row ∙ c.loop-i.invariant.1

pub shape_of-tos : goal.shape_of-tos
shape_of-tos c = c.store-3.auto.row ∙ c.loop-i.invariant.2

pub returns : goal.returns
returns c = going_end c.loop-i.invariant.0 (omega (arith, c.loop-i-test.false)) c.store-2.ensures c.store-3.ensures
