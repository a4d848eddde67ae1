use mathlib.Core.Path.{refl}
use Rattle.days.proofs.Reckoning.{guessed, guessed_late}
use Rattle.days.proofs.year_of.Goals as goal

pub returns-then-number-years_before : goal.returns-then-number-years_before
returns-then-number-years_before c = guessed_late _ _ refl c.requires (rw c.years_before.ensures.0 at c.if-number-years_before.true)

pub returns-else-number-years_before : goal.returns-else-number-years_before
returns-else-number-years_before c = guessed _ _ refl c.requires (rw c.years_before.ensures.0 at c.if-number-years_before.false)
