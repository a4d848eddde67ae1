use native.Mathlib.Omega.{arith}
use Prim.Native.Nat.{◌+◌, ◌<◌}
use mathlib.Core.Path.{◌≡◌, refl, ◌∙◌}
use native.Mathlib.Nat.{sub_self, div-one}
use lib.ListN.{length-set}
use Rattle.register.proofs.Backwards.{none, store, left, all}
use Rattle.register.proofs.bytes.store.Goals as goal

pub loop-p-init : goal.loop-p-init
loop-p-init c = (refl, none c.args.s.now (c.args.at + c.args.n) c.args.value, rw (sub_self, div-one), omega arith)

pub loop-p-preserved : goal.loop-p-preserved
loop-p-preserved c = let a = c.args in
    let e = a.at + a.n in
    let p = c.loop-p.p in
    let I = c.loop-p.invariant in
    let pos : 0 < p = omega (arith, c.loop-p-test.true) in (
      rw length-set I.0,
      rw (I.1, I.2) (store a.s.now e p a.value pos c.loop-p.auto.p c.requires),
      rw I.2 (left e p a.value pos c.loop-p.auto.p),
      omega (arith, c.loop-p-test.true),
    )

pub returns : goal.returns
returns c = let a = c.args in
    let e : c.loop-p.p ≡ a.at = omega (arith, c.loop-p-test.false, c.loop-p.invariant.3) in
    c.loop-p.invariant.1 ∙ rw e (all a.s.now a.at a.n a.value)
