use borrow.Author.Tests.{eq-eqb, ne_eqb}
use Rattle.own_rules.specs.Model.{breaks11}
use Rattle.own_rules.proofs.breaks_eleven.Goals as goal

pub returns-then-day-basis : goal.returns-then-day-basis
unfolding breaks11
returns-then-day-basis c = simp (eq-eqb _ _ c.if-day-basis.true)

pub returns : goal.returns
unfolding breaks11
returns c = simp (ne_eqb _ _ c.if-day-basis.false, c.is_real.ensures)
