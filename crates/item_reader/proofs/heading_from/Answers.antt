use Rattle.item_reader.proofs.Slips.{gap_first}
use Rattle.item_reader.proofs.heading_from.Goals as goal

pub returns : goal.returns
returns c = gap_first _ _ c.requires c.gap_from.ensures
