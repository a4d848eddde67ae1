use Rattle.std.proofs.Common.{◌∙◌, le-leb, ne_eqb}
use Rattle.figures.proofs.Endings.{name_past, name_other, name_at}
use Rattle.fields.proofs.readings.ends_or_name.Goals as goal

pub returns-then-t-at : goal.returns-then-t-at
returns-then-t-at c = le-leb _ _ c.if-t-at.true ∙ name_past _ _ c.if-t-at.true

pub returns-then-t-at-eq32 : goal.returns-then-t-at-eq32
returns-then-t-at-eq32 c = name_at _ _ c.if-t-at.false c.if-t-at-eq32.true

pub returns-else-t-at-eq32 : goal.returns-else-t-at-eq32
returns-else-t-at-eq32 c = ne_eqb _ _ c.if-t-at-eq32.false ∙ name_other _ _ c.if-t-at.false c.if-t-at-eq32.false
