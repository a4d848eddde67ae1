use native.Mathlib.Omega.{arith}
use mathlib.Core.Path.{refl, ◌∙◌}
use Rattle.text.proofs.Wrote.{same_length as as_long}
use Rattle.register_writer.proofs.Putting.{put_start, put_more, put_end}
use Rattle.register_writer.proofs.put_register.Goals as goal

pub loop-i-init : goal.loop-i-init
loop-i-init c = (put_start _ _ c.args.starts.now c.args.ends.now (omega (arith, c.put_head-at.ensures.end, as_long c.put_head-at.ensures.text, c.requires.1)), omega arith, refl)

pub put_range-at-requires : goal.put_range-at-requires
put_range-at-requires c = omega (arith, c.put_head-at.ensures.end, as_long c.put_head-at.ensures.text, c.requires.1, c.loop-i.invariant.1, c.loop-i.invariant.2, c.loop-i-test.true)

pub loop-i-preserved : goal.loop-i-preserved
loop-i-preserved c = let w = c.put_range-at.ensures.text in (
  put_more _ _ c.loop-i.i c.loop-i-test.true c.requires.0 c.loop-i.invariant.0 w,
  omega (arith, c.put_range-at.ensures.end, c.loop-i.invariant.1),
  as_long w ∙ c.loop-i.invariant.2,
)

pub returns : goal.returns
returns c = put_end _ _ c.args.starts.now c.args.ends.now c.loop-i.i c.loop-i-test.false c.requires.0 c.put_head-at.ensures.text c.loop-i.invariant.0
