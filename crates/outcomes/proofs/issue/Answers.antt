use Rattle.std.proofs.Common.{arith, rules, ◌∙◌}
use Rattle.heading_writer.proofs.Answers.{at_start}
use Rattle.outcomes.proofs.Issuing.{issued}
use Rattle.outcomes.proofs.issue.Goals as goal

pub returns-clause-after : goal.returns-clause-after
returns-clause-after c =
    at_start c.numbered.result c.put_heading.ensures.text
    ∙ rw c.numbered.ensures (issued c.args.kind c.args.g c.args.number c.args.target.now (search rules) (omega arith))
