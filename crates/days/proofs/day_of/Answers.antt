use native.Mathlib.Omega.{arith}
use Rattle.days.proofs.Reckoning.{before_first, after_last, made_of_rest}
use Rattle.days.proofs.day_of.Goals as goal

pub returns-then-number-lt367 : goal.returns-then-number-lt367
returns-then-number-lt367 c = before_first _ c.if-number-lt367.true

pub returns-then-number-gt3652425 : goal.returns-then-number-gt3652425
returns-then-number-gt3652425 c = after_last _ c.if-number-gt3652425.true

pub month_of-month-requires : goal.month_of-month-requires
month_of-month-requires c = rw (c.is_leap-leap.ensures, c.years_before.ensures.0) (omega (arith, c.year_of-year.ensures), omega (arith, c.year_of-year.ensures))

pub returns : goal.returns
returns c = let y = c.year_of-year.ensures in
    let e = c.years_before.ensures.0 in
    rw (c.days_before.ensures.0, c.is_leap-leap.ensures, e)
    (made_of_rest _ _ _ y (rw (c.is_leap-leap.ensures, e) at c.month_of-month.ensures))
