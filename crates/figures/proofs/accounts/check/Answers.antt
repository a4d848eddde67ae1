use Rattle.std.proofs.Common.{◌∙◌, sym, eqb-true}
use borrow.Author.Tests.{eqb-false}
use Rattle.figures.proofs.Judged.{both_judged, no_number, no_first, no_second}
use Rattle.figures.proofs.accounts.check.Goals as goal

pub returns-then-is_empty : goal.returns-then-is_empty
returns-then-is_empty c = no_number _ _ (eqb-true _ 0 (sym c.is_empty.ensures ∙ c.if-is_empty.true))

pub returns-in_err-a : goal.returns-in_err-a
returns-in_err-a c = no_first _ _ (sym c.part_of.ensures ∙ c.in_err-a.ensures.ok_part) c.from_residual.ensures.0

pub returns-in_err-b : goal.returns-in_err-b
returns-in_err-b c = no_second _ _ (sym c.part_of-2.ensures ∙ c.in_err-b.ensures.ok_part) c.from_residual-in_err-b.ensures.0

pub returns : goal.returns
returns c = rw c.number_by.ensures (both_judged _ _ (eqb-false _ 0 (sym c.is_empty.ensures ∙ c.if-is_empty.false)) (sym c.part_of.ensures ∙ c.in_ok-a.ensures.ok_part) (sym c.part_of-2.ensures ∙ c.in_ok-b.ensures.ok_part))
