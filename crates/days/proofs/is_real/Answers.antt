use borrow.Author.Rules.{rules}
use Prim.Native.Nat.{◌≤◌}
use Rattle.days.proofs.Calendar.{by_starts, real_by_last}
use Rattle.days.specs.Days.{year_of, month_of, month_length}
use Rattle.days.proofs.is_real.Goals as goal

pub returns : goal.returns
unfolding month_length
returns c = let day = c.args.day in
    let y : (1 ≤ year_of day) × (year_of day ≤ 9999) = search rules in
    let m : (1 ≤ month_of day) × (month_of day ≤ 12) = search rules in
    rw (c.days_before.ensures.0, c.days_before-2.ensures.0, c.is_leap-leap.ensures, by_starts _ (month_of day) _ m.0)
    (real_by_last day y.0 y.1 m.0 m.1 c.if-date-lt1.false)
