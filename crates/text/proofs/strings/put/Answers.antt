use mathlib.Core.Path.{◌≡◌, refl, ◌∙◌, subst}
use Prim.Native.Nat.{ℕ, ◌+◌}
use native.Mathlib.Nat.{le_antisymm}
use native.Mathlib.Numerals.{add-one}
use native.Mathlib.Omega.{arith}
use lib.ListN.{get_or, length, length-set}
use lib.Seq.{paste-zero, paste-suc}
use Rattle.text.specs.Strings.{Wrote}
use Rattle.text.proofs.Wrote.{pasted}
use borrow.Author.Rules.{rules}
use Rattle.text.proofs.strings.put.Goals as goal

pub loop-i-init : goal.loop-i-init
loop-i-init c = (search rules, refl, paste-zero c.args.out.now c.args.at c.args.x.now)

pub loop-i-preserved : goal.loop-i-preserved
loop-i-preserved c = let a = c.args in
    let i = c.loop-i.i in (
      search rules,
      length-set c.loop-i.out (a.at + i) (get_or a.x.now i 0) ∙ c.loop-i.invariant.1,
      rw (add-one, c.loop-i.invariant.2) (paste-suc a.out.now a.at a.x.now i 0 (omega arith) (omega arith)),
    )

pub returns : goal.returns
returns c = let a = c.args in
    let all : c.loop-i.i ≡ length a.x.now = le_antisymm c.loop-i.invariant.0 c.loop-i-test.false in
    subst (λ (n : ℕ). Wrote a.out.now a.at a.x.now c.loop-i.out (a.at + n)) all (pasted a.out.now a.at a.x.now c.loop-i.i c.requires all c.loop-i.invariant.2)
