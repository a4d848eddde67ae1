use native.Mathlib.Omega.{arith}
use lib.ListN.{length-take}
use Rattle.going.proofs.Reached.{whole_fits, whole_sound, whole_judged}
use Rattle.going.proofs.judge_whole.Goals as goal

pub slice_bounds-feed-end : goal.slice_bounds-feed-end
slice_bounds-feed-end c = omega (arith, whole_fits c.args.s.now _ c.whole_len-n.ensures, length-take c.whole_len-n.result c.args.s.now)

pub feed-pass-requires : goal.feed-pass-requires
feed-pass-requires c = record { s_bound = omega (arith, c.requires.s_bound, length-take c.whole_len-n.result c.args.s.now); bounded = c.requires.bounded }

pub slice_bounds-add-count : goal.slice_bounds-add-count
slice_bounds-add-count c = whole_fits c.args.s.now _ c.whole_len-n.ensures

pub slice_bounds-add-start : goal.slice_bounds-add-start
slice_bounds-add-start c = whole_fits c.args.s.now _ c.whole_len-n.ensures

pub slice_bounds-add-end : goal.slice_bounds-add-end
slice_bounds-add-end c = omega arith

pub overflow_cast-result : goal.overflow_cast-result
overflow_cast-result c = omega (arith, whole_fits c.args.s.now _ c.whole_len-n.ensures, c.requires.s_bound)

pub overflow_add-result : goal.overflow_add-result
overflow_add-result c = omega (arith, whole_fits c.args.s.now _ c.whole_len-n.ensures, c.requires.s_bound)

pub overflow_cast-result-2 : goal.overflow_cast-result-2
overflow_cast-result-2 c = omega (arith, c.requires.s_bound)

pub overflow_add-result-2 : goal.overflow_add-result-2
overflow_add-result-2 c = omega (arith, c.requires.s_bound)

pub shape_of-lines : goal.shape_of-lines
shape_of-lines c = c.feed-pass.auto.lines

pub shape_of-rules : goal.shape_of-rules
shape_of-rules c = c.feed-pass.auto.rules

pub shape_of-offsets : goal.shape_of-offsets
shape_of-offsets c = c.feed-pass.auto.offsets

pub returns : goal.returns
returns c = let s = c.args.s.now in
    record { sound = whole_sound s c.whole_len-n.ensures c.none-none.ensures c.add-held.ensures c.args.came c.feed-pass.ensures.bounded_2; judged = whole_judged s c.whole_len-n.ensures c.none-none.ensures c.add-held.ensures c.feed-pass.ensures.fed }
