use Rattle.going.proofs.Reached.{begun}
use Rattle.going.proofs.start.Goals as goal

pub returns : goal.returns
returns c = begun c.start-pass.ensures c.none-held.ensures
