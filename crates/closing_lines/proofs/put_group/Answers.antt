use Rattle.std.proofs.Common.{arith, sym}
use Rattle.closing_lines.proofs.Rows.{wrote_none, same_text, group_empty}
use Rattle.closing_lines.proofs.put_group.Goals as goal

pub returns-then-count-eq0-clause-text : goal.returns-then-count-eq0-clause-text
returns-then-count-eq0-clause-text c = same_text (sym (group_empty c.args.group c.args.count c.args.sum c.if-count-eq0.true)) (wrote_none c.args.out.now c.args.at (omega arith))
