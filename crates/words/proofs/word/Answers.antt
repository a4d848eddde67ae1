use Rattle.std.proofs.Common.{arith}
use Rattle.words.proofs.Joining.{loaded}
use Rattle.words.proofs.word.Goals as goal

pub returns : goal.returns
returns c =
    let h = rw c.unwrap.ensures at c.as_array.ensures.cases in
    loaded c.args.s.now c.args.i c.requires (λ k. omega (arith, c.type_inv.s k)) h.same _ c.from_le_bytes.ensures
