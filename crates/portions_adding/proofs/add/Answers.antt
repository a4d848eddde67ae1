use mathlib.Core.Path.{sym, ap, ◌∙◌}
use mathlib.Core.Bool.{not}
use borrow.Author.Tests.{not-true, not-false}
use Rattle.portions_adding.proofs.Growing.{not_taken, was_taken}
use Rattle.portions_adding.proofs.add.Goals as goal

pub returns-then-not-is_open : goal.returns-then-not-is_open
returns-then-not-is_open c = not_taken _ _ _ _ _ _ (not-true _ (ap not (sym c.is_open.ensures ∙ c.if-not-is_open.true)))

pub take_in-requires : goal.take_in-requires
take_in-requires c = not-false _ (ap not (sym c.is_open.ensures ∙ c.if-not-is_open.false))

pub returns : goal.returns
returns c = was_taken _ _ _ _ _ _ (not-false _ (ap not (sym c.is_open.ensures ∙ c.if-not-is_open.false))) c.take_in.ensures
