use Rattle.std.proofs.Common.{◌≡◌, ◌+◌, ◌*◌, ◌%◌, ◌^◌, ◌≤◌, sym, ap, ◌∙◌, arith}
use Rattle.blocks.specs.Model.{group_breaks}
use Rattle.blocks.proofs.Ten.{no_marks, marks_more, marks_of_ten, moved, twice}
use Rattle.blocks.proofs.groups.group_marks.Goals as goal

pub loop-d-init : goal.loop-d-init
loop-d-init c = (no_marks c.args.counts c.args.sums c.args.groups, omega arith)

pub loop-d-preserved : goal.loop-d-preserved
loop-d-preserved c =
    let d = c.loop-d.d in
    let bit : 2 ^ 30 * 2 ^ d % 2 ^ 64 ≡ 2 ^ (30 + d) = moved d c.loop-d-test.true in
    -- whichever group is asked, it must be d
    let breaks : c.group_breaks.result ≡ group_breaks c.args.counts c.args.sums c.args.groups d = c.group_breaks.ensures ∙ ap (group_breaks c.args.counts c.args.sums c.args.groups) (omega arith) in
    (rw (marks_more c.args.counts c.args.sums c.args.groups d, sym c.loop-d.invariant.0, c.flag-marks.ensures.0, bit, breaks), omega (arith, c.loop-d.invariant.1, c.flag-marks.ensures.1, twice d))

pub returns : goal.returns
returns c =
    let ten : c.loop-d.d ≡ 10 = omega arith in
    let m = c.loop-d.invariant in
    let few : c.loop-d.marks + 2 ^ 30 ≤ 2 ^ 40 = rw ten at m.1 in (m.0 ∙ rw ten (marks_of_ten c.args.counts c.args.sums c.args.groups), omega (arith, few))
