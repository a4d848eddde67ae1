use Rattle.std.proofs.Common.{◌≡◌, ℕ, ◌+◌, suc, List, get_or, refl, ap, ◌∙◌, arith}
use lib.ListN.{set}
use Rattle.fields.specs.Kinds.{symbols}
use Rattle.fields.proofs.Places.{filled, filled_is}
use Rattle.fields.proofs.kinds.places.Goals as goal

pub loop-k-init : goal.loop-k-init
loop-k-init c = (omega arith, refl)

pub loop-k-preserved : goal.loop-k-preserved
loop-k-preserved c = let k = c.loop-k.k in
    let e : suc k ≡ k + 1 = omega arith in
    (omega arith, ap (λ (i : ℕ). set c.loop-k.t i k) c.from.ensures ∙ ap (λ (l : List ℕ). set l (get_or symbols k 0) k) c.loop-k.invariant.1 ∙ ap filled e)

pub returns : goal.returns
returns c b h = let l = c.loop-k in
    let e : l.k ≡ 36 = omega arith in
    ap (λ (t : List ℕ). get_or t b 0) (l.invariant.1 ∙ ap filled e) ∙ filled_is b h
