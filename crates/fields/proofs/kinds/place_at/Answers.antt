use Rattle.std.proofs.Common.{◌∙◌}
use borrow.Author.Rules.{rules}
use Rattle.fields.proofs.kinds.place_at.Goals as goal

pub returns : goal.returns
returns c = c.from-2.ensures ∙ rw c.from.ensures (c.requires _ (search rules))
