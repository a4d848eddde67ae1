use mathlib.Core.Path.{ap}
use native.Mathlib.Omega.{arith}
use lib.ListN.{length}
use Rattle.joining.proofs.Padded.{few_ended}
use Rattle.going.proofs.Reached.{text_part, text_fits, fed_as}
use Rattle.going.proofs.judge_kept.Goals as goal

pub slice_bounds-text-end : goal.slice_bounds-text-end
slice_bounds-text-end c = (text_fits c.ended-t.result _ c.ended-t.ensures (few_ended c.args.held)).0

pub slice_bounds-feed-end : goal.slice_bounds-feed-end
slice_bounds-feed-end c = (text_fits c.ended-t.result _ c.ended-t.ensures (few_ended c.args.held)).1

pub feed-requires : goal.feed-requires
feed-requires c = record { s_bound = omega (arith, c.requires.held_bound, ap length (text_part c.ended-t.result _ c.ended-t.ensures (few_ended c.args.held))); bounded = c.requires.bounded }

pub shape_of-lines : goal.shape_of-lines
shape_of-lines c = c.feed.auto.lines

pub shape_of-rules : goal.shape_of-rules
shape_of-rules c = c.feed.auto.rules

pub shape_of-offsets : goal.shape_of-offsets
shape_of-offsets c = c.feed.auto.offsets

pub returns : goal.returns
returns c = record { bounded_2 = (fed_as (text_part c.ended-t.result _ c.ended-t.ensures (few_ended c.args.held)) c.feed.ensures.bounded_2 c.feed.ensures.fed).0; fed = (fed_as (text_part c.ended-t.result _ c.ended-t.ensures (few_ended c.args.held)) c.feed.ensures.bounded_2 c.feed.ensures.fed).1 }
