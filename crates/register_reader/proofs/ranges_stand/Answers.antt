use Prim.Native.Nat.{◌+◌, ◌-◌, ◌*◌}
use native.Mathlib.Omega.{arith}
use mathlib.Core.Path.{◌≡◌}
use lib.ListN.{drop}
use Rattle.register.specs.Register.{ranges_in}
use Rattle.register_reader.proofs.Standing.{stand_start, stand_more, stand_fails, stand_end}
use Rattle.register_reader.proofs.ranges_stand.Goals as goal

pub loop-i-init : goal.loop-i-init
loop-i-init c = let left : c.args.n - 0 ≡ c.args.n = omega arith in rw left (stand_start c.args.latest (ranges_in c.args.n (drop 13 c.args.s.now)))

pub returns-then-not-range_stands-is_apart : goal.returns-then-not-range_stands-is_apart
returns-then-not-range_stands-is_apart c = let i = c.loop-i.i in
    stand_fails c.args.s.now _ _ _ (13 + 12 * i) (c.args.n - i) _ c.loop-i.invariant (omega (arith, c.loop-i-test.true)) c.read-then.ensures c.read-from.ensures c.read-to.ensures c.range_stands.ensures c.is_apart.ensures c.if-not-range_stands-is_apart.true

pub loop-i-preserved : goal.loop-i-preserved
loop-i-preserved c = let i = c.loop-i.i in
    let left : c.args.n - (i + 1) ≡ c.args.n - i - 1 = omega arith in
    let at : 13 + 12 * (i + 1) ≡ 13 + 12 * i + 12 = omega arith in
    rw (left, at) (stand_more c.args.s.now _ _ _ (13 + 12 * i) (c.args.n - i) _ c.loop-i.invariant (omega (arith, c.loop-i-test.true)) c.read-then.ensures c.read-from.ensures c.read-to.ensures c.range_stands.ensures c.is_apart.ensures c.if-not-range_stands-is_apart.false)

pub returns : goal.returns
returns c = let i = c.loop-i.i in
    stand_end c.args.s.now _ _ _ (13 + 12 * i) (c.args.n - i) _ c.loop-i.invariant (omega (arith, c.loop-i-test.false))
