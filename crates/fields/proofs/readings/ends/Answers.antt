use Rattle.figures.proofs.Endings.{no_more_lem}
use Rattle.fields.proofs.readings.ends.Goals as goal

pub returns : goal.returns
returns c = no_more_lem c.args.t.now c.args.at
