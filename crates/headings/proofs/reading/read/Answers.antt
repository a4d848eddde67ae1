use Rattle.std.proofs.Common.{refl, sym, ◌∙◌, arith}
use Rattle.text.specs.Forms.{template}
use Rattle.text.proofs.Pieces.{ready}
use Rattle.headings.specs.Reading.{layout}
use Rattle.headings.proofs.Places.{found, lost}
use Rattle.headings.proofs.reading.read.Goals as goal

pub part-requires : goal.part-requires
unfolding template
part-requires c = ready (template layout) c.args.text.now 3 2 (sym c.has_form.ensures ∙ c.if-has_form.true) refl refl (omega arith)

pub part-requires-then-has_form : goal.part-requires-then-has_form
unfolding template
part-requires-then-has_form c = ready (template layout) c.args.text.now 6 8 (sym c.has_form.ensures ∙ c.if-has_form.true) refl refl (omega arith)

pub part-requires-then-has_form-2 : goal.part-requires-then-has_form-2
unfolding template
part-requires-then-has_form-2 c = ready (template layout) c.args.text.now 15 7 (sym c.has_form.ensures ∙ c.if-has_form.true) refl refl (omega arith)

pub part-requires-then-has_form-3 : goal.part-requires-then-has_form-3
unfolding template
part-requires-then-has_form-3 c = ready (template layout) c.args.text.now 23 7 (sym c.has_form.ensures ∙ c.if-has_form.true) refl refl (omega arith)

pub part-requires-then-has_form-4 : goal.part-requires-then-has_form-4
unfolding template
part-requires-then-has_form-4 c = ready (template layout) c.args.text.now 31 7 (sym c.has_form.ensures ∙ c.if-has_form.true) refl refl (omega arith)

pub part-requires-then-has_form-5 : goal.part-requires-then-has_form-5
unfolding template
part-requires-then-has_form-5 c = ready (template layout) c.args.text.now 39 7 (sym c.has_form.ensures ∙ c.if-has_form.true) refl refl (omega arith)

pub part-requires-then-has_form-6 : goal.part-requires-then-has_form-6
unfolding template
part-requires-then-has_form-6 c = ready (template layout) c.args.text.now 47 7 (sym c.has_form.ensures ∙ c.if-has_form.true) refl refl (omega arith)

pub returns-then-has_form : goal.returns-then-has_form
unfolding template
returns-then-has_form c =
    let f = found c.args.text.now (sym c.has_form.ensures ∙ c.if-has_form.true) in
    (f.0, rw (c.part.ensures, c.part-then-has_form.ensures, c.part-then-has_form-2.ensures, c.part-then-has_form-3.ensures, c.part-then-has_form-4.ensures, c.part-then-has_form-5.ensures, c.part-then-has_form-6.ensures) f.1)

pub returns-else-has_form : goal.returns-else-has_form
unfolding template
returns-else-has_form c = lost _ (sym c.has_form.ensures ∙ c.if-has_form.false)
