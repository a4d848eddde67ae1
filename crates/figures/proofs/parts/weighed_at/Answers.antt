use Rattle.std.proofs.Common.{arith, refl, ◌≡◌, rules}
use Rattle.figures.proofs.Reading.{read_more, read_other, read_end}
use Rattle.figures.proofs.parts.weighed_at.Goals as goal

pub returns-then-e-gt9 : goal.returns-then-e-gt9
returns-then-e-gt9 c = read_other _ _ _ _ _ _ _ c.loop-i.invariant _ c.loop-i-test.true (search rules) refl c.if-e-gt9.true

pub loop-i-preserved : goal.loop-i-preserved
loop-i-preserved c = rw c.from-d.ensures (read_more _ _ _ _ _ _ _ c.loop-i.invariant _ c.loop-i-test.true (search rules) refl c.if-e-gt9.false)

pub returns : goal.returns
returns c =
    let e : c.loop-i.i ≡ c.min-stop.result = omega (arith, c.loop-i.invariant.inside, c.loop-i-test.false) in
    rw e at (read_end _ _ _ _ _ _ _ c.loop-i.invariant c.loop-i-test.false)
