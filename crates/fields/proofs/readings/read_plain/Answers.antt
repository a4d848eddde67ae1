use mathlib.Core.Path.{refl, ◌∙◌}
use Rattle.fields.specs.declared.classes.Class.TheVariants.{Number, Account}
use Rattle.fields.proofs.Codes.{same_code}
use Rattle.fields.proofs.Says.{read_as, rest}
use Rattle.fields.proofs.readings.read_plain.Goals as goal

pub returns-then-class-eq2 : goal.returns-then-class-eq2
returns-then-class-eq2 c = λ k e m. read_as Number k c.args.line.now _ _ c.text_of-t.ensures c.read_number.ensures (same_code Number k e c.if-class-eq2.true)

pub returns-then-class-eq3 : goal.returns-then-class-eq3
returns-then-class-eq3 c = λ k e m. read_as Account k c.args.line.now _ _ c.text_of-t.ensures c.read_account.ensures (same_code Account k e c.if-class-eq3.true)

pub returns : goal.returns
returns c = λ k e m. read_as k k c.args.line.now _ _ c.text_of-t.ensures (c.if_fits.ensures ∙ rest k _ e m c.if-class-eq2.false c.if-class-eq3.false) refl
