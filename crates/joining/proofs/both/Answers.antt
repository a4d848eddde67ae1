use Rattle.joining.proofs.Padded.{text_start}
use Rattle.text.proofs.Wrote.{then}
use Rattle.joining.proofs.both.Goals as goal

pub returns : goal.returns
returns c = text_start (then c.put-k.ensures c.put-len.ensures)
