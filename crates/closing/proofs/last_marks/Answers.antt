use native.Mathlib.Omega.{arith}
use Rattle.closing.specs.Closing.{last_marks}
use Rattle.closing.proofs.last_marks.Goals as goal

pub returns : goal.returns
unfolding last_marks
returns c = (c.flag.ensures.0, omega (arith, c.flag.ensures.1, c.requires))
