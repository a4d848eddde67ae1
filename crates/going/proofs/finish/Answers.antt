use mathlib.Core.Path.{ap, ◌∙◌}
use native.Mathlib.Omega.{arith}
use lib.ListN.{length}
use Rattle.pass.proofs.Feeding.{bounded_more}
use Rattle.going.proofs.Reached.{text_part, text_fits, few_closing, fed_as, done}
use Rattle.going.proofs.finish.Goals as goal

pub slice_bounds-text-end : goal.slice_bounds-text-end
slice_bounds-text-end c = (text_fits c.closing-t.result _ c.closing-t.ensures (few_closing c.args.g.held)).0

pub slice_bounds-feed-end : goal.slice_bounds-feed-end
slice_bounds-feed-end c = (text_fits c.closing-t.result _ c.closing-t.ensures (few_closing c.args.g.held)).1

pub feed-p-requires : goal.feed-p-requires
feed-p-requires c = record { s_bound = omega (arith, c.requires.came_bound, c.requires.sound.came, ap length (text_part c.closing-t.result _ c.closing-t.ensures (few_closing c.args.g.held))); bounded = c.requires.sound.bounded }

pub finish-requires : goal.finish-requires
finish-requires c = bounded_more (omega (arith, c.requires.came_bound, c.requires.sound.came, ap length (text_part c.closing-t.result _ c.closing-t.ensures (few_closing c.args.g.held)))) c.feed-p.ensures.bounded_2

pub shape_of-lines : goal.shape_of-lines
shape_of-lines c = c.finish.auto.lines ∙ c.feed-p.auto.lines

pub shape_of-rules : goal.shape_of-rules
shape_of-rules c = c.finish.auto.rules ∙ c.feed-p.auto.rules

pub shape_of-offsets : goal.shape_of-offsets
shape_of-offsets c = c.finish.auto.offsets ∙ c.feed-p.auto.offsets

pub returns : goal.returns
returns c = done (fed_as (text_part c.closing-t.result _ c.closing-t.ensures (few_closing c.args.g.held)) c.feed-p.ensures.bounded_2 c.feed-p.ensures.fed).1 c.finish.ensures
