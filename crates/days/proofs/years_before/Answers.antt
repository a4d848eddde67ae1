use mathlib.Core.Path.{sym}
use Rattle.days.proofs.Calendar.{years}
use Rattle.days.proofs.Reckoning.{few_days}
use Rattle.days.proofs.years_before.Goals as goal

pub returns : goal.returns
returns c = let y = c.args.year in (sym (years y), rw years at (few_days y c.requires))
