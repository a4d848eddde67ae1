use Rattle.portions_face.proofs.Arrived.{closed_at}
use Rattle.portions_face.proofs.close.Goals as goal

pub returns : goal.returns
returns c = closed_at _ _ c.state_in-before.ensures c.close-closed.ensures c.leave-refusal.ensures.number c.leave-refusal.ensures.after c.shut_frame.ensures
