use mathlib.Core.Path.{◌∙◌}
use Rattle.text.proofs.Comparing.{starts_begins}
use Rattle.text.proofs.strings.starts.Goals as goal

pub returns : goal.returns
returns c = c.starts_with.ensures.value ∙ starts_begins c.args.s.now c.args.x.now
