use Rattle.std.proofs.Common.{sym, ◌∙◌, arith}
use Rattle.fields.proofs.LineKinds.{few, as_heading, as_field, as_low}
use Rattle.fields.proofs.kinds.kind_by.Goals as goal

pub overflow_mul-ident : goal.overflow_mul-ident
overflow_mul-ident c = omega (arith, few c.args.a c.args.b _ c.if-a-b.true)

pub overflow_add-ident : goal.overflow_add-ident
overflow_add-ident c = omega (arith, few c.args.a c.args.b _ c.if-a-b.true)

pub returns-then-ident-eq-HD : goal.returns-then-ident-eq-HD
returns-then-ident-eq-HD c = as_heading _ _ _ c.requires.a_value.0 c.requires.a_value.1 c.if-a-b.true c.if-ident-eq-HD.true

pub returns-then-a-b : goal.returns-then-a-b
returns-then-a-b c = as_field _ _ _ c.requires.a_value.0 c.requires.a_value.1 c.if-a-b.true c.if-ident-eq-HD.false

pub returns-then-starts : goal.returns-then-starts
returns-then-starts c = as_low _ _ _ c.requires.a_value.0 c.requires.a_value.1 c.if-a-b.false (sym c.if-starts.true ∙ c.starts.ensures)

pub returns-else-starts : goal.returns-else-starts
returns-else-starts c = as_low _ _ _ c.requires.a_value.0 c.requires.a_value.1 c.if-a-b.false (sym c.if-starts.false ∙ c.starts.ensures)
