use native.Mathlib.Omega.{arith}
use Rattle.days.proofs.Calendar.{january, from_march, few}
use Rattle.days.proofs.days_before.Goals as goal

pub returns-in-2 : goal.returns-in-2
returns-in-2 c = (rw c.in-2.is (january c.args.leap), omega arith)

pub returns-in_default : goal.returns-in_default
returns-in_default c = rw (c.min.ensures, c.from.ensures) (from_march c.args.leap c.args.month (omega arith), few c.args.leap c.args.month)
