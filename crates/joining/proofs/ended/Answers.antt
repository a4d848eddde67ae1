use Rattle.joining.proofs.Padded.{text_is, text_behind, few_kept}
use native.Mathlib.Omega.{arith}
use Rattle.joining.proofs.ended.Goals as goal

pub put-end-requires : goal.put-end-requires
put-end-requires c = let f = few_kept c.args.h in let p = text_is _ _ c.closing-t.ensures (omega arith) in omega (arith, p.0, p.1)

pub returns : goal.returns
returns c = let f = few_kept c.args.h in text_behind _ _ c.closing-t.ensures (omega arith) c.put-end.ensures
