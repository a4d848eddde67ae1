use Rattle.std.proofs.Common.{◌∙◌, le-leb}
use Rattle.figures.proofs.Endings.{rest_past, rest_at}
use Rattle.fields.proofs.readings.ends_or_rest.Goals as goal

pub returns-then-t-at : goal.returns-then-t-at
returns-then-t-at c = le-leb _ _ c.if-t-at.true ∙ rest_past _ _ c.if-t-at.true

pub returns-else-t-at : goal.returns-else-t-at
returns-else-t-at c = rest_at _ _ c.if-t-at.false
