use Rattle.std.proofs.Common.{sym, refl, ◌∙◌, arith}
use Rattle.fields.specs.declared.classes.Class.TheVariants.{Money}
use Rattle.fields.specs.declared.readings.Reading.TheVariants.{Paid}
use Rattle.figures.specs.Layouts.{maybe_rest}
use Rattle.number_reader.proofs.Told.{second_lt}
use Rattle.fields.proofs.Says.{not_two, made_by}
use Rattle.fields.proofs.readings.read_money.Goals as goal

pub overflow_cast-two : goal.overflow_cast-two
overflow_cast-two c = omega (arith, second_lt _ _ _ _ c.args.t.now _ (sym c.read_two.ensures ∙ c.in-Some.is))

pub returns-in_default : goal.returns-in_default
returns-in_default c = not_two Money 1 15 8 8 maybe_rest c.args.t.now refl (sym c.read_two.ensures ∙ c.in_default.is)

pub returns : goal.returns
returns c = c.if_fits.ensures
    ∙ made_by Money 1 15 8 8 maybe_rest c.args.t.now refl _ (sym c.read_two.ensures ∙ c.in-Some.is) (λ v w. Paid (record { 0 = v }) w) _ c.ends_or_rest.ensures refl
