use native.Mathlib.Omega.{arith}
use Rattle.blocks.specs.Model.{ending_marks}
use Rattle.blocks.proofs.block_rules.ending_marks.Goals as goal

pub returns : goal.returns
unfolding ending_marks
returns c = (simp (c.flag-4.ensures.0, c.breaks_twenty_one.ensures, c.flag-3.ensures.0, c.breaks_nineteen_closing.ensures, c.flag-2.ensures.0, c.breaks_eighteen.ensures, c.flag.ensures.0), omega arith)
