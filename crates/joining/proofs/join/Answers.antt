use Rattle.joining.proofs.Joins.{found_part, joined_lf, joined_by}
use Rattle.joining.proofs.join.Goals as goal

pub returns-then-h-starts : goal.returns-then-h-starts
returns-then-h-starts c = let a = c.args in
    joined_lf a.h a.s.now _ c.starts.ensures c.with_cr-t.result c.if-h-starts.true c.with_cr-t.ensures

pub slice_bounds-add-end : goal.slice_bounds-add-end
slice_bounds-add-end c = found_part c.args.s.now c.line_near-f.result c.line_near-f.ensures

pub returns : goal.returns
returns c = let a = c.args in
    joined_by a.h a.s.now _ c.starts.ensures c.line_near-f.result c.add-held.result c.if-h-starts.false c.line_near-f.ensures c.add-held.ensures
