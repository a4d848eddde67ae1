use Rattle.outgoing_lines.proofs.Chosen.{ec_wrote}
use Rattle.outgoing_lines.proofs.put_ec.Goals as goal

pub returns : goal.returns
returns c = let a = c.args in
    ec_wrote a.line.now a.replacement.now a.outcome c.ec_bytes.ensures c.put-next.ensures c.put_plain.ensures
