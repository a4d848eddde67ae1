use Rattle.std.proofs.Common.{◌≡◌, ℕ, suc, ◌+◌, ◌-◌, List, get_or, refl, ap, sym, ◌∙◌, arith}
use lib.ListN.{set}
use Rattle.fields.specs.Kinds.{place}
use Rattle.fields.proofs.Codes.{grouped, codes_are}
use Rattle.fields.proofs.classes.codes.Goals as goal

pub loop-group-init : goal.loop-group-init
unfolding place
loop-group-init c = (omega arith, refl)

pub loop-group-preserved : goal.loop-group-preserved
loop-group-preserved c = let g = c.loop-group.group in let a = c.loop-group.auto in
    let n : suc (g - 1008) ≡ g + 1 - 1008 = omega arith in
    let e : 1008 + (g - 1008) ≡ g = omega arith in
    (omega arith, ap (λ (l : List ℕ). set l g 6) c.loop-group.invariant.1 ∙ ap (λ (i : ℕ). set (grouped (g - 1008)) i 6) (sym e) ∙ ap grouped n)

pub returns : goal.returns
returns c i h = let l = c.loop-group in
    let e : l.group - 1008 ≡ 10 = omega arith in
    ap (λ (t : List ℕ). get_or t i 0) (l.invariant.1 ∙ ap grouped e) ∙ codes_are i h
