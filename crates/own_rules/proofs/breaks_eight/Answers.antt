use borrow.Author.Tests.{eq-eqb, ne_eqb}
use Rattle.own_rules.specs.Model.{breaks8}
use Rattle.own_rules.proofs.breaks_eight.Goals as goal

pub returns-then-day-basis : goal.returns-then-day-basis
unfolding breaks8
returns-then-day-basis c = simp (eq-eqb _ _ c.if-day-basis.true, c.is_payment-paying.ensures)

pub returns : goal.returns
unfolding breaks8
returns c = simp (ne_eqb _ _ c.if-day-basis.false, c.until_thirty.ensures, c.until_today.ensures, c.is_real.ensures, c.is_payment-paying.ensures)
