use Rattle.std.proofs.Common.{arith, refl, ◌∙◌}
use Rattle.text.proofs.Wrote.{same_length as as_long}
use Rattle.closing_lines.proofs.Rows.{sums_none, sums_more, sums_all}
use Rattle.closing_lines.proofs.put_groups.Goals as goal

pub loop-group-init : goal.loop-group-init
loop-group-init c = record { written = sums_none _ _ _ _ (omega arith); within = omega arith; long = refl }

pub loop-group-preserved : goal.loop-group-preserved
loop-group-preserved c = record {
  written = sums_more c.loop-group.group c.args.counts.now c.args.sums.now (omega arith) (omega arith) c.loop-group.invariant.written c.put_group-next.ensures.text;
  within = omega (arith, c.loop-group.invariant.within, c.put_group-next.ensures.end);
  long = as_long c.put_group-next.ensures.text ∙ c.loop-group.invariant.long;
}

pub returns : goal.returns
returns c = record { text = sums_all c.loop-group.group c.args.counts.now c.args.sums.now (omega arith) c.loop-group.invariant.written; end = omega arith }
