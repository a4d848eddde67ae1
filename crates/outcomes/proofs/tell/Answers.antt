use Rattle.outcomes.proofs.Telling.{goes}
use Rattle.outcomes.proofs.tell.Goals as goal

pub returns : goal.returns
returns c = goes _ _ _ c.in_ok-g.field-0-0 c.in_ok-g.ensures.said c.in_ok-g.g c.in_ok-g.ensures.number c.in_ok-g.ensures.goes
