use mathlib.Core.Path.{ap, ◌∙◌}
use mathlib.Core.Bool.{not}
use mathlib.Core.List.{List}
use Prim.Native.Nat.{ℕ, ◌*◌}
use native.Mathlib.Nat.{add-sub_cancel_left}
use native.Mathlib.Omega.{arith}
use lib.ListN.{drop, take}
use lib.Seq.{take_all}
use borrow.Author.Rules.{rules}
use Rattle.laws.specs.Lists.{any_of}
use Rattle.text.specs.Characters.{is_inadmissible}
use Rattle.text.proofs.Eights.{none_eight}
use Rattle.text.proofs.characters.five_good.Goals as goal

pub loop-k-init : goal.loop-k-init
unfolding any_of
loop-k-init c = search rules

pub loop-k-preserved : goal.loop-k-preserved
loop-k-preserved c =
    none_eight is_inadmissible c.args.s.now c.loop-k.k _ (search rules) c.min-at.ensures c.loop-k.invariant
    (c.all_good-good.ensures ∙ ap (λ (n : ℕ). not (any_of is_inadmissible (take n (drop c.min-at.result c.args.s.now)))) (add-sub_cancel_left _ _))

pub returns : goal.returns
returns c = let s = c.args.s.now in
    c.loop-k.invariant ∙ ap (λ (l : List ℕ). not (any_of is_inadmissible l)) (take_all (8 * c.loop-k.k) s (omega (arith, c.requires, c.loop-k-test.false)))
