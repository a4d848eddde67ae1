use Rattle.std.proofs.Common.{sym, refl, ◌∙◌, arith}
use Rattle.fields.specs.declared.classes.Class.TheVariants.{Group}
use Rattle.fields.specs.declared.readings.Reading.TheVariants.{Stated}
use Rattle.figures.specs.Layouts.{no_more}
use Rattle.number_reader.proofs.Told.{first_lt}
use Rattle.fields.proofs.Says.{not_two, made_by}
use Rattle.fields.proofs.readings.read_group.Goals as goal

pub overflow_cast-two : goal.overflow_cast-two
overflow_cast-two c = omega (arith, first_lt _ _ _ _ c.args.t.now _ (sym c.read_two.ensures ∙ c.in-Some.is))

pub returns-in_default : goal.returns-in_default
returns-in_default c = not_two Group 1 7 1 17 no_more c.args.t.now refl (sym c.read_two.ensures ∙ c.in_default.is)

pub returns : goal.returns
returns c = c.if_fits.ensures
    ∙ made_by Group 1 7 1 17 no_more c.args.t.now refl _ (sym c.read_two.ensures ∙ c.in-Some.is) (λ v w. Stated v (record { 0 = w })) _ c.ends.ensures refl
