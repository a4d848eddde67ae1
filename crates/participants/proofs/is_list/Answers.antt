use Rattle.std.proofs.Common.{rules}
use mathlib.Core.Path.{ap, sym, ◌∙◌}
use mathlib.Core.Bool.{not}
use Rattle.participants.proofs.Listing.{fit_not, fit_end, too_many}
use Rattle.participants.proofs.is_list.Goals as goal

pub returns-then-codes-gt64 : goal.returns-then-codes-gt64
returns-then-codes-gt64 c = too_many _ c.if-codes-gt64.true

pub returns-then-not-is_fit : goal.returns-then-not-is_fit
returns-then-not-is_fit c = fit_not c.loop-i.invariant (search rules) (ap not (sym c.is_fit.ensures ∙ c.if-not-is_fit.true))

pub returns : goal.returns
returns c = fit_end c.loop-i.invariant (search rules)
