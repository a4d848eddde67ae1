use Rattle.std.proofs.Common.{arith}
use Rattle.lines.proofs.Reading.{is_next}
use Rattle.outgoing_lines.proofs.Loops.{size_start, size_more, size_end}
use Rattle.outgoing_lines.proofs.size_of.Goals as goal

pub loop-at-init : goal.loop-at-init
loop-at-init c = size_start _ _

pub slice_bounds-kind_of-end : goal.slice_bounds-kind_of-end
slice_bounds-kind_of-end c =
    let n = is_next _ _ _ c.line_at-f.ensures c.loop-at-test.true in
    omega (arith, n.starts, n.closes, n.within)

pub loop-at-smaller : goal.loop-at-smaller
loop-at-smaller c =
    let n = is_next _ _ _ c.line_at-f.ensures c.loop-at-test.true in
    omega (arith, n.moves, n.within)

pub loop-at-preserved : goal.loop-at-preserved
loop-at-preserved c =
    size_more _ _ c.loop-at.invariant (is_next _ _ _ c.line_at-f.ensures c.loop-at-test.true) c.kind_of-kind.ensures c.line_size.ensures c.grown-size.ensures
    c.count_in-k.ensures c.outcome_in-o.ensures

pub returns : goal.returns
returns c = λ standings start. size_end _ _ c.loop-at.invariant c.loop-at-test.false standings start
