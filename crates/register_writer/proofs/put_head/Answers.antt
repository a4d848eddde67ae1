use native.Mathlib.Omega.{arith}
use Rattle.text.proofs.Wrote.{then}
use Rattle.register_writer.proofs.put_head.Goals as goal

pub returns : goal.returns
returns c = record { text = then c.put-a.ensures (then c.write-b.ensures.text (then c.write-c.ensures.text (then c.write-d.ensures.text c.write.ensures.text))); end = omega (arith, c.put-a.ensures.ends, c.write-b.ensures.end, c.write-c.ensures.end, c.write-d.ensures.end, c.write.ensures.end) }
