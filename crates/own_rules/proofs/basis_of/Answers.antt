use native.Mathlib.Omega.{arith}
use Rattle.days.proofs.Reckoning.{number_le}
use Rattle.own_rules.specs.Model.{basis_of}
use Rattle.own_rules.proofs.basis_of.Goals as goal

pub overflow_add-number : goal.overflow_add-number
overflow_add-number c = record { fits = omega (arith, c.day_number-number.ensures, number_le c.args.day (omega arith)) }

pub returns : goal.returns
unfolding basis_of
returns c = rw (c.eleven_less-stale.ensures, c.day_of-thirty.ensures, c.day_of-last.ensures, c.day_number-number.ensures)
