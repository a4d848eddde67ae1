use Rattle.portions_face.proofs.Arrived.{opened_at, not_opened}
use Rattle.portions_face.proofs.open.Goals as goal

pub returns-in-Ok : goal.returns-in-Ok
returns-in-Ok c = opened_at _ _ c.in-Ok.ensures c.store.ensures

pub returns-in-Err : goal.returns-in-Err
returns-in-Err c = not_opened _ c.in-Err.ensures c.from.ensures
