use mathlib.Core.Path.{ap, ◌∙◌}
use Rattle.fields.specs.Kinds.{kind_of}
use Rattle.sign_finder.proofs.Signs.{rest_all}
use Rattle.vetting.proofs.own_line.kind_at.Goals as goal

pub returns : goal.returns
returns c = c.kind_of.ensures ∙ ap kind_of (rest_all c.args.s.now 0 0 c.args.at)
