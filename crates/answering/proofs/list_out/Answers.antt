use native.Mathlib.Omega.{arith}
use Rattle.portions.proofs.Bounds.{open_so}
use Rattle.answering.proofs.Answers.{hands_out}
use Rattle.answering.proofs.list_out.Goals as goal

pub finish-g-requires : goal.finish-g-requires
finish-g-requires c = let U = open_so _ _ _ _ c.requires.offsets_value in record { came_bound = omega (arith, U.came, c.requires.bytes_bound); sound = U.sound }

pub returns : goal.returns
returns c = hands_out c.args.p _ _ _ _ _ _ _ c.requires.bytes_bound c.basis_of-basis.ensures c.finish-g.ensures c.handed-n.ensures c.hand_out.ensures c.hand_out-2.ensures c.hand_out-3.ensures
