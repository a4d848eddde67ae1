use mathlib.Core.Bool.{not}
use mathlib.Core.Path.{sym, ap, ◌∙◌}
use Rattle.sheet.proofs.Answers.{open_bad, open_good}
use Rattle.sheet.proofs.opening.open.Goals as goal

pub returns-then-not-is_list : goal.returns-then-not-is_list
returns-then-not-is_list c = open_bad _ _ (ap not (sym c.is_list.ensures ∙ c.if-not-is_list.true))

pub returns : goal.returns
returns c = open_good _ _ (ap not (sym c.is_list.ensures ∙ c.if-not-is_list.false))
