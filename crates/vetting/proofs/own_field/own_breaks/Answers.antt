use Rattle.fields.specs.Kinds.{place}
use Rattle.vetting.proofs.own_field.own_breaks.Goals as goal

pub returns : goal.returns
unfolding place
returns c = rw c.said_marks.ensures.0
