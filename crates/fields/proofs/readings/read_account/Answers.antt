use mathlib.Core.Path.{refl, ap, ◌∙◌}
use Rattle.fields.specs.declared.classes.Class.TheVariants.{Account}
use Rattle.fields.specs.declared.readings.Reading.TheVariants.{Party}
use Rattle.figures.specs.Layouts.{maybe_name}
use Rattle.number_reader.proofs.Halved.{none_after, no_space, no_digit, both, halves}
use Rattle.fields.proofs.Says.{not_two, made}
use Rattle.fields.proofs.readings.read_account.Goals as goal
use Rattle.fields.proofs.readings.read_account.Goals.{then-t-mid-via-then-t-mid, then-t-mid-via-else-t-mid+then-t-mid-ne32}

pub returns-then-t-mid : goal.returns-then-t-mid
returns-then-t-mid c =
    elim c.then-t-mid.branch [
      | then-t-mid-via-then-t-mid w ↦ not_two Account 0 6 1 10 maybe_name c.args.t.now refl (none_after 6 10 c.args.t.now c.weighed_at-a.ensures.0 w.if-t-mid.true)
      | then-t-mid-via-else-t-mid+then-t-mid-ne32 w ↦ not_two Account 0 6 1 10 maybe_name c.args.t.now refl (no_space 6 10 c.args.t.now c.weighed_at-a.ensures.0 w.if-t-mid.false w.if-t-mid-ne32.true)
    ]

pub returns-then-end-mid : goal.returns-then-end-mid
returns-then-end-mid c = not_two Account 0 6 1 10 maybe_name c.args.t.now refl (no_digit 6 10 c.args.t.now c.weighed_at-a.ensures.0 c.if-t-mid.false c.weighed_at-b.ensures.0 c.if-end-mid.true)

pub returns : goal.returns
returns c = c.if_fits.ensures
    ∙ rw c.number_by.ensures
    (made Account 0 6 1 10 maybe_name c.args.t.now refl _
    (both 6 10 c.args.t.now c.weighed_at-a.ensures.0 c.if-t-mid.false c.weighed_at-b.ensures.0 c.if-end-mid.false c.if-t-mid-ne32.false)
    _ _ c.ends_or_name.ensures
    (ap Party (halves 6 10 c.args.t.now c.weighed_at-a.ensures.0 c.if-t-mid.false c.weighed_at-b.ensures.0 c.if-end-mid.false)))
