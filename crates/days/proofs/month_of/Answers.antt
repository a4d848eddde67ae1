use native.Mathlib.Omega.{arith}
use borrow.Author.Tests.{lt-ltb, le-ltb, le-leb, lt-leb}
use Rattle.days.proofs.Reckoning.{year_days, in_month}
use Rattle.days.proofs.month_of.Goals as goal

pub returns-then-rest-lt32 : goal.returns-then-rest-lt32
returns-then-rest-lt32 c = rw (lt-ltb _ 32 c.if-rest-lt32.true) at (in_month c.args.leap c.args.rest c.requires.0 c.requires.1)

pub returns-then-rest-spring : goal.returns-then-rest-spring
returns-then-rest-spring c = rw (le-ltb _ 32 c.if-rest-lt32.false, le-leb _ _ (rw c.days_before-spring.ensures.0 at c.if-rest-spring.true)) at (in_month c.args.leap c.args.rest c.requires.0 c.requires.1)

pub overflow_mul-result : goal.overflow_mul-result
overflow_mul-result c = omega (arith, year_days c.args.leap, c.requires)

pub overflow_add-result : goal.overflow_add-result
overflow_add-result c = omega (arith, year_days c.args.leap, c.requires)

pub returns : goal.returns
returns c = rw c.days_before-spring.ensures.0
    (rw (le-ltb _ 32 c.if-rest-lt32.false, lt-leb _ _ (rw c.days_before-spring.ensures.0 at c.if-rest-spring.false)) at (in_month c.args.leap c.args.rest c.requires.0 c.requires.1))
