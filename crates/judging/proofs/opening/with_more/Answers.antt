use Rattle.judging.proofs.opening.with_more.Goals as goal

pub returns : goal.returns
returns c = rw (c.broken_by-marks.ensures, c.breaks_tail.ensures)
