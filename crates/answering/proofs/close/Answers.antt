use mathlib.Core.Path.{sym, ap, ◌∙◌}
use mathlib.Core.Bool.{not}
use borrow.Author.Tests.{not-true, not-false}
use Rattle.answering.proofs.Answers.{late, answered}
use Rattle.answering.proofs.close.Goals as goal

pub returns-then-not-is_open : goal.returns-then-not-is_open
returns-then-not-is_open c = late _ _ _ _ _ _ _ _ (not-true _ (ap not (sym c.is_open.ensures ∙ c.if-not-is_open.true)))

pub settle-settled-requires : goal.settle-settled-requires
settle-settled-requires c = not-false _ (ap not (sym c.is_open.ensures ∙ c.if-not-is_open.false))

pub returns : goal.returns
returns c = answered _ _ _ _ _ _ _ _ (not-false _ (ap not (sym c.is_open.ensures ∙ c.if-not-is_open.false))) c.shut.ensures c.map_err.ensures.cases c.settle-settled.ensures
