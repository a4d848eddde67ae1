use Rattle.std.proofs.Common.{arith}
use Rattle.lines.proofs.Reading.{is_next}
use Rattle.vetting.proofs.Here.{judged_is}
use Rattle.vetting.proofs.own_line.judged_at.Goals as goal

pub slice_bounds-holds_inadmissible-end : goal.slice_bounds-holds_inadmissible-end
slice_bounds-holds_inadmissible-end c =
    let n = is_next _ _ _ c.line_at-f.ensures c.requires.1 in
    omega (arith, n.starts, n.closes, n.within)

pub returns : goal.returns
returns c = judged_is _ _ c.line_at-f.ensures c.requires.1 c.holds_inadmissible-inadmissible.ensures
