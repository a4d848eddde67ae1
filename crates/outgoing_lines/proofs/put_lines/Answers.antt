use Rattle.std.proofs.Common.{arith}
use Rattle.lines.proofs.Reading.{is_next}
use Rattle.outgoing_lines.proofs.Loops.{put_start, put_fine, put_room, put_more, put_end}
use Rattle.outgoing_lines.proofs.put_lines.Goals as goal

pub loop-at-init : goal.loop-at-init
loop-at-init c = put_start _ _ _ c.requires.s_value

pub slice_bounds-kind_of-end : goal.slice_bounds-kind_of-end
slice_bounds-kind_of-end c =
    let n = is_next _ _ _ c.line_at-f.ensures c.loop-at-test.true in
    omega (arith, n.starts, n.closes, n.within)

pub put_line-next-requires-clause-line_value : goal.put_line-next-requires-clause-line_value
put_line-next-requires-clause-line_value c =
    put_fine _ _ _ c.loop-at.invariant (is_next _ _ _ c.line_at-f.ensures c.loop-at-test.true) c.kind_of-kind.ensures

pub put_line-next-requires-clause-ending_in_bounds : goal.put_line-next-requires-clause-ending_in_bounds
put_line-next-requires-clause-ending_in_bounds c =
    put_room _ _ _ c.loop-at.invariant (is_next _ _ _ c.line_at-f.ensures c.loop-at-test.true) c.kind_of-kind.ensures c.requires.s_in_bounds

pub count_in-k-requires : goal.count_in-k-requires
count_in-k-requires c = omega (arith, c.loop-at.invariant.few, c.loop-at-test.true)

pub loop-at-smaller : goal.loop-at-smaller
loop-at-smaller c =
    let n = is_next _ _ _ c.line_at-f.ensures c.loop-at-test.true in
    omega (arith, n.moves, n.within)

pub loop-at-preserved : goal.loop-at-preserved
loop-at-preserved c =
    put_more _ _ _ c.loop-at.invariant (is_next _ _ _ c.line_at-f.ensures c.loop-at-test.true) c.kind_of-kind.ensures c.put_line-next.ensures c.count_in-k.ensures
    c.outcome_in-o.ensures

pub returns : goal.returns
returns c = put_end _ _ _ c.loop-at.invariant c.loop-at-test.false
