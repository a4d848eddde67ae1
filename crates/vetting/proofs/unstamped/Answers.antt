use Rattle.vetting.proofs.Fields.{stamped_none}
use Rattle.vetting.proofs.unstamped.Goals as goal

pub returns : goal.returns
returns c = stamped_none
