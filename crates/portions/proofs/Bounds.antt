-- What the test of a state says: its numbers are within the bounds that going on asks for, and where they are the test says so.
use Prim.Native.Nat.{ℕ, ◌+◌, ◌*◌, ◌^◌, ◌≤◌}
use mathlib.Core.Path.{◌≡◌, refl, ap, ◌∙◌}
use mathlib.Core.Bool.{Bool, true, false, ◌&&◌}
use mathlib.Core.List.{List}
use lib.Dec.{leb, ltb, eqb}
use lib.ListN.{length}
use borrow.Author.Tests.{leb-true, ltb-true, eqb-true, le-leb, lt-ltb, eq-eqb}
use Rattle.laws.proofs.Truth.{both_left, both_right, both_hold}
use Rattle.pass.specs.declared.Pass.{Pass}
use Rattle.pass.specs.Standing.{Bounded}
use Rattle.joining.specs.Short.{kept_text}
use Rattle.joining.specs.declared.Text.{Text}
use Rattle.joining.specs.Held.{as_text, kept_in}
use Rattle.going.specs.declared.Going.{Going}
use Rattle.going.specs.Reached.{Sound}
use Rattle.portions.specs.declared.Portions.{Portions}
use Rattle.handing.specs.Ready.{is_ready}
use Rattle.portions.specs.Usable.{is_bounded, is_sound, is_open}
use Rattle.portions.specs.States.{shut_of}
use Rattle.handing.proofs.Order.{ready_so, so_ready}

sound_so : (g : Going) (ls rs ps : List ℕ) → is_sound g ls rs ps ≡ true → Sound g ls rs ps
unfolding is_sound
sound_so g ls rs ps e =
    let p : Pass = g.pass in
    let b : is_bounded g.at p ≡ true = both_left _ _ e in
    let e₁ = both_right (is_bounded g.at p) _ e in
    let level : eqb (length ls) (length ps) ≡ true = both_left _ _ e₁ in
    let e₂ = both_right (eqb (length ls) (length ps)) _ e₁ in
    let b₁ = both_right (leb p.n g.at) _ b in
    let b₂ = both_right (leb p.ledger.total (256 * p.n)) _ b₁ in
    let b₃ = both_right (ltb p.wait.marks (2 ^ 41)) _ b₂ in
    record {
      bounded = record {
        few = leb-true p.n g.at (both_left _ _ b);
        ready = ready_so (both_right (leb (g.at + length (kept_text (kept_in g.held))) g.came) _ e₂);
        level = eqb-true (length ls) (length ps) level;
        small = leb-true p.ledger.total (256 * p.n) (both_left _ _ b₁);
        calm = ltb-true p.wait.marks (2 ^ 41) (both_left _ _ b₂);
        tail_few = leb-true p.field.tail p.n (both_left _ _ b₃);
        top_few = leb-true p.top 18 (both_right (leb p.field.tail p.n) _ b₃);
      };
      came = leb-true _ _ (both_left (leb (g.at + length (kept_text (kept_in g.held))) g.came) _ e₂);
    }

so_sound : (g : Going) (ls rs ps : List ℕ) → Sound g ls rs ps → is_sound g ls rs ps ≡ true
unfolding is_sound
so_sound g ls rs ps S =
    let p : Pass = g.pass in
    let B : Bounded g.at p ls rs ps = S.bounded in
    both_hold _ _
    (both_hold _ _ (le-leb _ _ B.few) (both_hold _ _ (le-leb _ _ B.small) (both_hold _ _ (lt-ltb _ _ B.calm) (both_hold _ _ (le-leb _ _ B.tail_few) (le-leb _ _ B.top_few)))))
    (both_hold _ _ (eq-eqb _ _ B.level) (both_hold _ _ (le-leb _ _ S.came) (so_ready B.ready)))

-- what an open state counts with
pub record Usable (p : Portions) (ls rs ps : List ℕ) : Type 0 where
  pub takes : p.takes ≡ true
  pub came : p.going.came ≤ p.bytes
  pub few : p.bytes ≤ 10000001
  pub sound : Sound p.going ls rs ps

pub open_so : (p : Portions) (ls rs ps : List ℕ) → is_open p ls rs ps ≡ true → Usable p ls rs ps
unfolding is_open
open_so p ls rs ps e =
    let e₁ = both_right p.takes _ e in
    let c = both_left (leb p.going.came p.bytes && leb p.bytes 10000001) _ e₁ in
    record {
      takes = both_left _ _ e;
      came = leb-true _ _ (both_left _ _ c);
      few = leb-true _ _ (both_right (leb p.going.came p.bytes) _ c);
      sound = sound_so _ _ _ _ (both_right (leb p.going.came p.bytes && leb p.bytes 10000001) _ e₁);
    }

pub so_open : (p : Portions) (ls rs ps : List ℕ) → Usable p ls rs ps → is_open p ls rs ps ≡ true
unfolding is_open
so_open p ls rs ps U = both_hold _ _ U.takes (both_hold _ _ (both_hold _ _ (le-leb _ _ U.came) (le-leb _ _ U.few)) (so_sound _ _ _ _ U.sound))

-- ---- the tests, as the code puts them together

pub sound_is : (g : Going) (ls rs ps : List ℕ) {t : Text} {b m r : Bool} → t ≡ as_text (kept_text (kept_in g.held)) → b ≡ is_bounded g.at g.pass → m ≡ leb (g.at + t.len) g.came
    → r ≡ is_ready g.pass.ledger.kept ls rs → (b && (eqb (length ls) (length ps) && (m && r))) ≡ is_sound g ls rs ps
unfolding is_sound
sound_is g ls rs ps et eb em er =
    let came = em ∙ ap (λ (u : Text). leb (g.at + u.len) g.came) et in
    λ i. eb i && (eqb (length ls) (length ps) && (came i && er i))

pub open_is : (p : Portions) (ls rs ps : List ℕ) {b : Bool} → b ≡ is_sound p.going ls rs ps → (p.takes && ((leb p.going.came p.bytes && leb p.bytes 10000001) && b)) ≡ is_open p ls rs ps
unfolding is_open
open_is p ls rs ps e = λ i. p.takes && ((leb p.going.came p.bytes && leb p.bytes 10000001) && e i)

-- one that was closed is not open, in whichever arrays
pub shut_shut : (p : Portions) (ls rs ps : List ℕ) → is_open (shut_of p) ls rs ps ≡ false
unfolding is_open
shut_shut p ls rs ps = refl
