use native.Mathlib.Omega.{arith}
use Rattle.own_rules.specs.Model.{own_marks}
use Rattle.own_rules.proofs.own_marks.Goals as goal

pub returns : goal.returns
unfolding own_marks
returns c = (simp (c.flag-6.ensures.0, c.breaks_fifteen.ensures, c.flag-5.ensures.0, c.breaks_fourteen.ensures, c.flag-4.ensures.0, c.breaks_thirteen.ensures, c.flag-3.ensures.0, c.breaks_twelve.ensures, c.flag-2.ensures.0, c.breaks_eleven.ensures, c.flag.ensures.0, c.breaks_ten.ensures), omega arith)
