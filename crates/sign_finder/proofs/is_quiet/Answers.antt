use native.Mathlib.Omega.{arith}
use Rattle.sign_finder.proofs.Signs.{block_quiet}
use Rattle.sign_finder.proofs.is_quiet.Goals as goal

pub returns : goal.returns
returns c = let x = c.args in
    block_quiet x.s.now x.a x.b x.i (omega (arith, c.if-s-i.false)) c.holds_pair.ensures
