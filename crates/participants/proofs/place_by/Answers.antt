use mathlib.Core.Path.{◌∙◌}
use native.Mathlib.Omega.{arith}
use Rattle.participants.proofs.Listing.{placed_or}
use Rattle.participants.proofs.place_by.Goals as goal

pub returns : goal.returns
returns c = c.unwrap_or.ensures ∙ placed_or _ _ _ _ (omega arith) c.place_if_listed_by.ensures
