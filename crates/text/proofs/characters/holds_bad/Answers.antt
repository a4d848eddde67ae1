use mathlib.Core.Path.{◌≡◌, refl, ap, sym, ◌∙◌}
use mathlib.Core.Bool.{not}
use mathlib.Core.List.{[], ◌∷◌, ◌++◌}
use Prim.Native.Nat.{ℕ, ◌+◌, ◌-◌, ◌*◌, ◌≤◌}
use native.Mathlib.Omega.{arith}
use lib.ListN.{length, take, drop, length-drop}
use lib.Seq.{length-take-le}
use borrow.Author.Rules.{rules}
use Rattle.std.proofs.lemmas.List.{length_push}
use Rattle.std.specs.Slice.Iter.{chunks_exact_rest}
use Rattle.laws.specs.Lists.{any_of}
use Rattle.text.specs.Characters.{is_inadmissible}
use Rattle.text.proofs.Eights.{none_on, none_all, eight_off}
use Rattle.text.proofs.characters.holds_bad.Goals as goal

pub loop-eight-init : goal.loop-eight-init
unfolding any_of
loop-eight-init c = record { size = search rules; rest = search rules; within = omega arith; so_far = refl }

pub loop-eight-preserved : goal.loop-eight-preserved
loop-eight-preserved c = let h = c.in-Some.ensures.steps in
    let s = c.args.s.now in
    let l = c.loop-eight in
    let at : ℕ = 8 * length l.yielded in
    let p = eight_off s c.in-Some.eight.now (chunks_exact_rest c.next.new.self) at (length s - 1) (omega arith) l.invariant.within (sym l.invariant.rest ∙ h.1.0) (h.1.1 ∙ l.invariant.size) in
    let n : 8 * length (l.yielded ++ (c.in-Some.eight ∷ [])) ≡ at + 8 = omega (arith, length_push l.yielded c.in-Some.eight) in
    rw n record {
      size = h.0 ∙ l.invariant.size;
      rest = p.2;
      within = p.0;
      so_far = none_on is_inadmissible s at at 8 (omega arith) (omega arith) l.invariant.so_far (rw p.1 at c.all_good-good.ensures);
    }

pub returns : goal.returns
returns c = let h = c.in-None.ensures.steps in
    let s = c.args.s.now in
    let l = c.loop-eight in
    let last : ℕ = length s - 8 in
    let few : length s ≤ 8 * length l.yielded + 8 = omega (arith, h.1.0, l.invariant.size, ap length l.invariant.rest, length-drop (8 * length l.yielded) (take (length s - 1) s), length-take-le (length s - 1) s (omega arith)) in
    let n : length s - last ≡ 8 = omega (arith, c.if-n-le40.false) in
    none_all is_inadmissible s (last + 8) (omega arith)
    (none_on is_inadmissible s (8 * length l.yielded) last 8 (omega arith) (omega (arith, l.invariant.within)) l.invariant.so_far (c.all_good-2.ensures ∙ ap (λ (m : ℕ). not (any_of is_inadmissible (take m (drop last s)))) n))
