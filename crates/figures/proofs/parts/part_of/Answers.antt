use Rattle.figures.proofs.Reading.{no_part, is_part}
use Rattle.figures.proofs.parts.part_of.Goals as goal

pub returns-then-w-s : goal.returns-then-w-s
returns-then-w-s c = no_part _ _ c.weighed_at-w.ensures.0 c.if-w-s.true

pub returns : goal.returns
returns c = is_part _ _ c.weighed_at-w.ensures.0 c.if-w-s.false
