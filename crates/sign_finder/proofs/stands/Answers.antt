use mathlib.Core.Path.{sym}
use Rattle.sign_finder.proofs.Signs.{no_cr}
use Rattle.sign_finder.proofs.stands.Goals as goal

pub returns-then-s-i-ne13 : goal.returns-then-s-i-ne13
returns-then-s-i-ne13 c = let x = c.args in
    sym (no_cr x.s.now x.a x.b x.i c.if-s-i-ne13.true)
