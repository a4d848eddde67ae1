use native.Mathlib.Omega.{arith}
use Rattle.text.proofs.Wrote.{then}
use Rattle.register_writer.proofs.put_range.Goals as goal

pub returns : goal.returns
returns c = record { text = then c.write-a.ensures.text (then c.write-b.ensures.text c.write.ensures.text); end = omega (arith, c.write-a.ensures.end, c.write-b.ensures.end, c.write.ensures.end) }
