use native.Mathlib.Omega.{arith}
use Rattle.text.proofs.Reading.{digit_next, value_next, value_done, grows, small}
use Rattle.text.proofs.digits.value.Goals as goal

pub overflow_mul-v : goal.overflow_mul-v
overflow_mul-v c = let l = c.loop-digit in omega (arith, small 8 l.v l.digit-index l.invariant.small (omega (arith, c.requires.0, c.loop-digit-test.true)))

pub overflow_sub-v : goal.overflow_sub-v
overflow_sub-v c = omega (arith, c.from.ensures, (digit_next _ _ c.loop-digit-test.true c.loop-digit.invariant.to_come).0)

pub overflow_add-v : goal.overflow_add-v
overflow_add-v c = let l = c.loop-digit in
    let d = digit_next _ _ c.loop-digit-test.true l.invariant.to_come in
    omega (arith, c.from.ensures, d.1, small 8 l.v l.digit-index l.invariant.small (omega (arith, c.requires.0, c.loop-digit-test.true)))

pub loop-digit-preserved : goal.loop-digit-preserved
loop-digit-preserved c = let l = c.loop-digit in
    let h = c.loop-digit-test.true in
    let d = digit_next _ _ h l.invariant.to_come in
    rw c.from.ensures record {
      to_come = d.2;
      known = value_next _ _ h l.v l.invariant.known;
      small = grows l.v l.digit-index _ l.invariant.small (omega (arith, d.1));
    }

pub returns : goal.returns
returns c = value_done _ _ _ c.loop-digit.invariant.known c.loop-digit-test.false
