use native.Mathlib.Omega.{arith}
use Prim.Native.Nat.{◌+◌, ◌-◌, ◌*◌, ◌<◌}
use mathlib.Core.Path.{◌≡◌}
use mathlib.Core.Path.{refl, ◌∙◌}
use lib.ListN.{length-set}
use Rattle.gathering.proofs.Items.{keep_start, keep_take, keep_drop, keep_end}
use Rattle.gathering.proofs.keep.Goals as goal

pub loop-i-init : goal.loop-i-init
loop-i-init c = let left : c.args.n - 0 ≡ c.args.n = omega arith in rw left (keep_start _ _ _ _ _, refl, refl)

pub bounds-starts-k : goal.bounds-starts-k
bounds-starts-k c = omega (arith, c.loop-i.invariant.0.few, c.loop-i.invariant.1, c.loop-i-test.true, c.requires.1)

pub bounds-ends-k : goal.bounds-ends-k
bounds-ends-k c = omega (arith, c.loop-i.invariant.0.few, c.loop-i.invariant.2, c.loop-i-test.true, c.requires.2)

pub loop-i-preserved : goal.loop-i-preserved
loop-i-preserved c = let left : c.args.n - (c.loop-i.i + 1) ≡ c.args.n - c.loop-i.i - 1 = omega arith in
    let at : 13 + 12 * (c.loop-i.i + 1) ≡ 13 + 12 * c.loop-i.i + 12 = omega arith in
    let more : 0 < c.args.n - c.loop-i.i = omega (arith, c.loop-i-test.true) in rw (left, at) (
      keep_take c.loop-i.invariant.0 more c.read-then.ensures c.read-from.ensures c.read-to.ensures c.later-old.ensures c.if-old.false (omega (arith, c.loop-i.invariant.0.few, c.loop-i.invariant.1, c.loop-i-test.true, c.requires.1)) (omega (arith, c.loop-i.invariant.0.few, c.loop-i.invariant.2, c.loop-i-test.true, c.requires.2)) c.day_key.ensures c.day_key-in-loop-i.ensures,
      length-set c.loop-i.starts c.loop-i.k c.day_key.result ∙ c.loop-i.invariant.1,
      length-set c.loop-i.ends c.loop-i.k c.day_key-in-loop-i.result ∙ c.loop-i.invariant.2,
    )

pub loop-i-preserved-then-old : goal.loop-i-preserved-then-old
loop-i-preserved-then-old c = let left : c.args.n - (c.loop-i.i + 1) ≡ c.args.n - c.loop-i.i - 1 = omega arith in
    let at : 13 + 12 * (c.loop-i.i + 1) ≡ 13 + 12 * c.loop-i.i + 12 = omega arith in
    let more : 0 < c.args.n - c.loop-i.i = omega (arith, c.loop-i-test.true) in rw (left, at) (keep_drop c.loop-i.invariant.0 more c.read-then.ensures c.read-from.ensures c.read-to.ensures c.later-old.ensures c.if-old.true, c.loop-i.invariant.1, c.loop-i.invariant.2)

pub shape_of-starts : goal.shape_of-starts
shape_of-starts c = c.loop-i.invariant.1

pub shape_of-ends : goal.shape_of-ends
shape_of-ends c = c.loop-i.invariant.2

pub returns : goal.returns
returns c = keep_end c.loop-i.invariant.0 (omega (arith, c.loop-i-test.false)) (omega (arith, c.loop-i.invariant.1, c.requires.1)) (omega (arith, c.loop-i.invariant.2, c.requires.2))
