use Rattle.laws.proofs.Parts.{take_min}
use Rattle.joining.proofs.Padded.{text_start, fits}
use mathlib.Core.Path.{ap, ◌∙◌}
use Prim.Native.Nat.{ℕ, min}
use native.Mathlib.Omega.{arith}
use lib.ListN.{length, take, length-take}
use Rattle.joining.specs.Held.{as_text}
use Rattle.joining.proofs.start_of.Goals as goal

pub slice_bounds-put-end-2 : goal.slice_bounds-put-end-2
slice_bounds-put-end-2 c = fits _ _ _ c.min-n.ensures

pub put-end-requires : goal.put-end-requires
put-end-requires c = simp length-take (omega (arith, c.min-n.ensures, c.min.ensures))

pub returns : goal.returns
returns c = let a = c.args in
    let n = c.min-n.ensures ∙ ap (λ (k : ℕ). min k (length a.s.now)) c.min.ensures in
    text_start c.put-end.ensures ∙ ap as_text (ap (λ (k : ℕ). take k a.s.now) n ∙ take_min (min 65 a.len) a.s.now)
