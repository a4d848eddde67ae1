use native.Mathlib.Omega.{arith}
use Rattle.lines.proofs.Reading.{is_next}
use Rattle.item_reader.proofs.kc_at.Goals as goal

pub slice_bounds-read_claim-end : goal.slice_bounds-read_claim-end
slice_bounds-read_claim-end c = let n = is_next _ _ _ c.line_near-line.ensures c.requires in omega (arith, n.starts, n.closes, n.within)
