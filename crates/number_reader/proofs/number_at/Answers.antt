use Rattle.std.proofs.Common.{◌≡◌, arith, refl, rules}
use Rattle.number_reader.proofs.Scanning.{next, other, ended, room}
use Rattle.number_reader.proofs.number_at.Goals as goal

pub returns-then-d-gt9 : goal.returns-then-d-gt9
returns-then-d-gt9 c = other _ _ _ _ _ _ c.loop-i.invariant _ c.loop-i-test.true (search rules) refl c.if-d-gt9.true

pub overflow_mul-v : goal.overflow_mul-v
overflow_mul-v c = omega (arith, room _ _ _ _ _ _ c.loop-i.invariant c.loop-i-test.true)

pub overflow_add-v : goal.overflow_add-v
overflow_add-v c = omega (arith, room _ _ _ _ _ _ c.loop-i.invariant c.loop-i-test.true, c.from.ensures, c.if-d-gt9.false)

pub loop-i-preserved : goal.loop-i-preserved
loop-i-preserved c = rw c.from.ensures (next _ _ _ _ _ _ c.loop-i.invariant _ c.loop-i-test.true (search rules) refl c.if-d-gt9.false)

pub returns : goal.returns
returns c =
    let e : c.loop-i.i ≡ c.min-stop.result = omega (arith, c.loop-i.invariant.inside, c.loop-i-test.false) in
    rw e at (ended _ _ _ _ _ _ c.loop-i.invariant c.loop-i-test.false)
