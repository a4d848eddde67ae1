use Rattle.text.proofs.Wrote.{then}
use Rattle.outgoing_lines.proofs.put_plain.Goals as goal

pub returns : goal.returns
returns c = then c.put-next.ensures c.put.ensures
