use mathlib.Core.Path.{sym, ap, ◌∙◌}
use mathlib.Core.Bool.{not}
use Rattle.portions_opening.proofs.Answers.{bad_code, bad_day, opened}
use Rattle.portions_opening.proofs.open.Goals as goal

pub returns-then-not-is_code : goal.returns-then-not-is_code
returns-then-not-is_code c = bad_code _ _ _ (ap not (sym c.is_code.ensures ∙ c.if-not-is_code.true))

pub returns-then-not-is_accounting_day : goal.returns-then-not-is_accounting_day
returns-then-not-is_accounting_day c = bad_day _ _ _ (ap not (sym c.is_code.ensures ∙ c.if-not-is_code.false)) (ap not (sym c.is_accounting_day.ensures ∙ c.if-not-is_accounting_day.true))

pub returns : goal.returns
returns c = opened _ _ _ (ap not (sym c.is_code.ensures ∙ c.if-not-is_code.false)) (ap not (sym c.is_accounting_day.ensures ∙ c.if-not-is_accounting_day.false)) c.begun.ensures c.unseen.ensures
