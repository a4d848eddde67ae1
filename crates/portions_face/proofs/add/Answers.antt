use Rattle.portions_face.proofs.Arrived.{added_at, not_added}
use Rattle.portions_face.proofs.add.Goals as goal

pub returns-in-Ok : goal.returns-in-Ok
returns-in-Ok c = added_at _ _ c.state_in-before.ensures c.in-Ok.ensures c.store.ensures

pub returns-in-Err : goal.returns-in-Err
returns-in-Err c = not_added _ c.state_in-before.ensures c.in-Err.ensures c.from.ensures
