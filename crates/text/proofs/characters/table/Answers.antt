use Prim.Native.Nat.{suc, ◌+◌}
use mathlib.Core.Path.{◌≡◌, ap, ◌∙◌}
use native.Mathlib.Omega.{arith}
use Rattle.text.proofs.Admissible.{others_to, others_all}
use Rattle.text.proofs.characters.table.Goals as goal

pub loop-b-preserved : goal.loop-b-preserved
loop-b-preserved c = let l = c.loop-b in
    let e : suc l.b-index ≡ l.b-index + 1 = omega arith in
    rw (l.invariant, c.from.ensures) (ap others_to e)

pub returns : goal.returns
returns c = let l = c.loop-b in
    let e : l.b-index ≡ 45 = omega (arith, c.loop-b-test.false) in
    l.invariant ∙ ap others_to e ∙ others_all
