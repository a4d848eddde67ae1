use native.Mathlib.Omega.{arith}
use mathlib.Core.Path.{sym, ap, ◌∙◌}
use mathlib.Core.Logic.{⊎_elim}
use Rattle.lines.specs.Lines.{lines}
use Rattle.lines.specs.declared.Found.{Found}
use Rattle.lines.proofs.Reading.{is_next}
use Rattle.fields.specs.Kinds.{kind_of}
use lib.ListN.{drop}
use Rattle.item_reader.proofs.Passing.{top_in}
use Rattle.item_reader.proofs.Slips.{asked, top_at_heading, top_at_continuation, top_at_field, top_at_other, top_at_end}
use Rattle.item_reader.proofs.continued_from.Goals as goal

pub returns-in-Heading : goal.returns-in-Heading
returns-in-Heading c =
    let told = asked c.args.s.now c.loop-place.place kind_of c.kind_of.ensures in
    λ n.
    c.loop-place.invariant.1 n
    ∙ ⊎_elim (λ h. top_at_heading _ _ c.loop-place-test.true (told ∙ h) n) (λ f. top_at_field _ _ c.loop-place-test.true f.0 (told ∙ f.1) n) c.in-Heading.is

pub returns-in-Continuation : goal.returns-in-Continuation
returns-in-Continuation c =
    let told = asked c.args.s.now c.loop-place.place kind_of c.kind_of.ensures in
    λ n. c.loop-place.invariant.1 n ∙ top_at_continuation _ _ c.loop-place-test.true (told ∙ c.in-Continuation.is) n

pub loop-place-smaller : goal.loop-place-smaller
loop-place-smaller c = let n = is_next _ _ _ c.line_near-place.ensures c.loop-place-test.true in omega (arith, n.moves, n.within)

pub loop-place-preserved : goal.loop-place-preserved
loop-place-preserved c =
    let told = asked c.args.s.now c.loop-place.place kind_of c.kind_of.ensures in (
      (is_next _ _ _ c.line_near-place.ensures c.loop-place-test.true).within,
      λ n.
          c.loop-place.invariant.1 n
          ∙ top_at_other _ _ c.loop-place-test.true (told ∙ c.in-Other.is) n
          ∙ ap (λ (f : Found). top_in n (lines (drop f.next c.args.s.now))) (sym c.line_near-place.ensures),
    )

pub returns : goal.returns
returns c = λ n. c.loop-place.invariant.1 n ∙ top_at_end _ _ c.loop-place-test.false n
