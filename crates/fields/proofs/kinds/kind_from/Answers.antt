use Rattle.fields.proofs.LineKinds.{short}
use Rattle.fields.proofs.kinds.kind_from.Goals as goal

pub returns-then-line-lt3 : goal.returns-then-line-lt3
returns-then-line-lt3 c = short _ c.if-line-lt3.true
