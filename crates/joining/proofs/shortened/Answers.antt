use Rattle.joining.proofs.Padded.{fits, any_is, short_all, short_signed}
use mathlib.Core.Path.{ap, ◌∙◌}
use native.Mathlib.Omega.{arith}
use lib.ListN.{length-take}
use Rattle.joining.specs.Held.{as_text}
use Rattle.joining.proofs.shortened.Goals as goal

pub slice_bounds-both-end : goal.slice_bounds-both-end
slice_bounds-both-end c = fits 64 _ _ c.min-n.ensures

pub slice_bounds-both-end-2 : goal.slice_bounds-both-end-2
slice_bounds-both-end-2 c = fits _ _ _ c.min-m.ensures

pub both-t-requires : goal.both-t-requires
both-t-requires c = simp length-take (omega (arith, c.min-m.ensures, c.min-n.ensures))

pub returns-then-n-a : goal.returns-then-n-a
returns-then-n-a c = let a = c.args in
    c.both-t.ensures ∙ ap as_text (short_all a.a.now a.b.now _ _ c.min-n.ensures c.min-m.ensures c.if-n-a.true)

pub returns : goal.returns
returns c = let a = c.args in
    short_signed a.a.now a.b.now _ _ c.min-n.ensures c.min-m.ensures _ _ _ _
    c.both-t.ensures c.if-n-a.false (c.holds_bad.ensures ∙ any_is _ _) (c.holds_bad-2.ensures ∙ any_is _ _) c.sign_of.ensures
