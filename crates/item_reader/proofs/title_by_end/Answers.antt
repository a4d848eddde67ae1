use native.Mathlib.Omega.{arith}
use Rattle.lines.proofs.Reading.{is_next}
use Rattle.item_reader.proofs.title_by_end.Goals as goal

pub slice_bounds-read-end : goal.slice_bounds-read-end
slice_bounds-read-end c = let n = is_next _ _ _ c.line_near-line.ensures c.requires in omega (arith, n.starts, n.closes, n.within)
