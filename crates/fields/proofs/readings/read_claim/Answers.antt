use Rattle.fields.specs.declared.classes.Class.TheVariants.{Money, Range, Group}
use Rattle.fields.proofs.Codes.{same_code, left_claim}
use Rattle.fields.proofs.Says.{read_as}
use Rattle.fields.proofs.readings.read_claim.Goals as goal

pub returns-then-class-eq1 : goal.returns-then-class-eq1
returns-then-class-eq1 c = λ k e m. read_as Money k c.args.line.now _ _ c.text_of-t.ensures c.read_money.ensures (same_code Money k e c.if-class-eq1.true)

pub returns-then-class-eq5 : goal.returns-then-class-eq5
returns-then-class-eq5 c = λ k e m. read_as Range k c.args.line.now _ _ c.text_of-t.ensures c.read_range.ensures (same_code Range k e c.if-class-eq5.true)

pub returns : goal.returns
returns c = λ k e m. read_as Group k c.args.line.now _ _ c.text_of-t.ensures c.read_group.ensures (left_claim k e m c.if-class-eq1.false c.if-class-eq5.false)
