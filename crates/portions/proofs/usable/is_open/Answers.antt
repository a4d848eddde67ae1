use Rattle.portions.proofs.Bounds.{open_is}
use Rattle.portions.proofs.usable.is_open.Goals as goal

pub returns : goal.returns
returns c = open_is _ _ _ _ c.is_sound-sound.ensures
