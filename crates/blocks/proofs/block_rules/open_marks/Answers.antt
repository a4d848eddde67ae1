use native.Mathlib.Omega.{arith}
use Rattle.blocks.specs.Model.{open_marks}
use Rattle.blocks.proofs.block_rules.open_marks.Goals as goal

pub returns : goal.returns
unfolding open_marks
returns c = (simp (c.flag-3.ensures.0, c.breaks_twenty.ensures, c.flag-2.ensures.0, c.breaks_nineteen.ensures, c.flag.ensures.0, c.breaks_eighteen.ensures), omega arith)
