use mathlib.Core.Path.{◌∙◌}
use Rattle.fields.proofs.Says.{one_number}
use Rattle.fields.proofs.readings.read_number.Goals as goal

pub returns : goal.returns
returns c = c.if_fits.ensures ∙ rw c.ends.ensures (one_number c.args.t.now _ c.number_at-n.ensures.0)
