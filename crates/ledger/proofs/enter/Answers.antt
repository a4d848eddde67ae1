use native.Mathlib.Omega.{arith}
use mathlib.Core.Path.{refl, ◌∙◌, sym}
use Prim.Native.Nat.{◌-◌}
use lib.Bits.{and_le_r}
use lib.Count.{ones-le}
use Rattle.ledger.proofs.Entering.{enter_nothing, enter_start, enter_more, enter_end}
use Rattle.ledger.proofs.enter.Goals as goal

pub returns-then-m-eq0 : goal.returns-then-m-eq0
returns-then-m-eq0 c = record { entered = enter_nothing _ _ c.requires.ready c.if-m-eq0.true; few = omega arith; placed = λ off ps₀ h B. B }

pub loop-m-init : goal.loop-m-init
loop-m-init c = (enter_start c.requires.ready c.ranges.marks.fits, refl, λ off ps₀ h B. B)

pub keep-kept-requires : goal.keep-kept-requires
keep-kept-requires c = let inv = c.loop-m.invariant in
    record { ready = inv.0.put.ready; lines_len = inv.0.put.lines_long ∙ c.requires.lines_len ∙ sym inv.1 }

pub loop-m-smaller : goal.loop-m-smaller
loop-m-smaller c = let m = c.loop-m.m in omega (arith, and_le_r m (m - 1))

pub loop-m-preserved : goal.loop-m-preserved
loop-m-preserved c = let inv = c.loop-m.invariant in
    (enter_more inv.0 (omega arith) c.keep-kept.ensures.put, c.keep-kept.auto.offsets ∙ inv.1, λ off ps₀ h B. c.keep-kept.ensures.placed off ps₀ h (inv.2 off ps₀ h B))

pub overflow_cast-size : goal.overflow_cast-size
overflow_cast-size c = omega (arith, ones-le 64 c.args.marks c.ranges.marks.fits)

pub overflow_add-total : goal.overflow_add-total
overflow_add-total c = omega (arith, ones-le 64 c.args.marks c.ranges.marks.fits, c.requires.total_bound)

pub shape_of-lines : goal.shape_of-lines
shape_of-lines c = c.loop-m.invariant.0.put.lines_long

pub shape_of-rules : goal.shape_of-rules
shape_of-rules c = c.loop-m.invariant.0.put.rules_long

pub shape_of-offsets : goal.shape_of-offsets
shape_of-offsets c = c.loop-m.invariant.1

pub returns : goal.returns
returns c = let inv = c.loop-m.invariant in
    record { entered = enter_end c.ranges.marks.fits inv.0 c.loop-m-test.false; few = omega (arith, ones-le 64 c.args.marks c.ranges.marks.fits); placed = inv.2 }
