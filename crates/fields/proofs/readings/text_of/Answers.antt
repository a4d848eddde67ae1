use Rattle.fields.proofs.Says.{lent}
use Rattle.fields.proofs.readings.text_of.Goals as goal

pub returns : goal.returns
returns c = rw c.min.ensures (lent c.args.line.now)
