use Prim.Native.Nat.{◌+◌, ◌<◌}
use mathlib.Core.Path.{◌≡◌, ◌∙◌}
use native.Mathlib.Nat.{sub_self, div-one}
use native.Mathlib.Omega.{arith}
use Rattle.text.proofs.Writing.{none, store, left, all}
use Rattle.text.proofs.digits.write.Goals as goal

pub loop-i-init : goal.loop-i-init
loop-i-init c = record { from = omega arith; text = none c.args.s.now (c.args.at + c.args.n) c.args.value; left = rw (sub_self, div-one) }

pub loop-i-preserved : goal.loop-i-preserved
loop-i-preserved c = let a = c.args in
    let l = c.loop-i in
    let pos : 0 < l.i = omega (arith, c.loop-i-test.true) in record {
      from = omega (arith, c.loop-i-test.true);
      text = rw (l.invariant.text, l.invariant.left) (store a.s.now (a.at + a.n) l.i a.value pos l.auto.i c.requires);
      left = rw l.invariant.left (left (a.at + a.n) l.i a.value pos l.auto.i);
    }

pub returns : goal.returns
returns c = let a = c.args in
    let l = c.loop-i in
    let e : l.i ≡ a.at = omega (arith, l.invariant.from, c.loop-i-test.false) in
    l.invariant.text ∙ rw e (all a.s.now a.at a.n a.value)
