use Rattle.blocks.specs.Model.{group_breaks}
use Rattle.blocks.proofs.groups.group_breaks.Goals as goal

pub returns : goal.returns
unfolding group_breaks
returns c = rw c.misstates.ensures
