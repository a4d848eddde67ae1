use native.Mathlib.Omega.{arith}
use Rattle.closing.proofs.head_marks.Goals as goal

pub returns : goal.returns
returns c = (rw (c.flag.ensures.0, c.is_unreadable.ensures), omega (arith, c.flag.ensures.1, c.requires))
