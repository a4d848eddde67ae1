use native.Mathlib.Omega.{arith}
use Prim.Native.Nat.{◌+◌, ◌<◌}
use lib.ListN.{get_or}
use Rattle.register.proofs.ByteByByte.{read_start, read_more, read_end, grows, small}
use Rattle.register.proofs.bytes.read.Goals as goal

pub loop-i-init : goal.loop-i-init
loop-i-init c = (read_start _ _ _, omega arith)

pub overflow_mul-v : goal.overflow_mul-v
overflow_mul-v c = let few = small 3 c.loop-i.v c.loop-i.i c.loop-i.invariant.1 (omega (arith, c.loop-i-test.true, c.requires.1)) in record { fits = omega (arith, few) }

pub overflow_add-v-in-loop-i : goal.overflow_add-v-in-loop-i
overflow_add-v-in-loop-i c = let few = small 3 c.loop-i.v c.loop-i.i c.loop-i.invariant.1 (omega (arith, c.loop-i-test.true, c.requires.1)) in record { fits = omega (arith, few, c.type_inv.s (c.args.at + c.loop-i.i)) }

pub loop-i-preserved : goal.loop-i-preserved
loop-i-preserved c = let a = c.args in
    let i = c.loop-i.i in
    let byte : get_or a.s.now (a.at + i) 0 < 256 = omega (arith, c.type_inv.s (a.at + i)) in (
      read_more a.s.now a.at a.n i c.loop-i.v c.loop-i-test.true c.requires.0 c.loop-i.invariant.0,
      grows c.loop-i.v i (get_or a.s.now (a.at + i) 0) c.loop-i.invariant.1 byte,
    )

pub returns : goal.returns
returns c = read_end _ _ _ c.loop-i.i _ c.loop-i.auto.i-end c.loop-i-test.false c.loop-i.invariant.0
