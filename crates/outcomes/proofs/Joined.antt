-- Deriving is its two steps, one after the other.
use mathlib.Core.Path.{◌≡◌, refl, sym, ◌∙◌}
use mathlib.Core.Bool.{Bool, true, false, cond, not, ◌&&◌}
use mathlib.Core.List.{List, [], ◌∷◌, ◌++◌}
use Prim.Native.Nat.{ℕ}
use lib.ListN.{length}
use lib.Dec.{eqb}
use Rattle.laws.specs.Refusals.{Refusal, ◌if◌, first}
use Rattle.headings.specs.declared.ItemNo.{ItemNo}
use Rattle.headings.specs.declared.Heading.{Heading}
use Rattle.headings.specs.Reading.{heading_of}
use Rattle.outcomes.specs.declared.TellError.{TellError}
use Rattle.outcomes.specs.declared.DeriveError.{DeriveError}
use Rattle.outcomes.specs.declared.DeriveError.TheVariants.{Tell}
use Rattle.outcomes.proofs.Telling.{numbered_untold}
use Rattle.turning.specs.Turning.{barred_to, is_outcome, is_standing, is_missing, turned}
use Rattle.outcomes.specs.Deriving.{untold_number, issue_refusals, issued_target, turn_refusals_of, tell_refusals, derived_number, issue_refusals_of, number_refusals, derive_refusals, derived_target, Derives}
use Rattle.std.specs.Prelude.{None, Option, Some, Result, Err}

-- the first step's refusal wins, and where it has none the second's does
first_wins : (a b c : Bool) (rs : List Refusal) → let k = first ((12 if a) ∷ (13 if b) ∷ (14 if c) ∷ []) in
    first ((12 if a) ∷ (13 if b) ∷ (14 if c) ∷ rs) ≡ cond (eqb k 0) (first rs) k
first_wins true b c rs = refl
first_wins false true c rs = refl
first_wins false false true rs = refl
first_wins false false false rs = refl

-- so deriving's refusal is telling's, and where it has none that of the number and the target
pub joins : (s : List ℕ) (o p : ℕ) (n : ItemNo) (room : ℕ)
    → first (derive_refusals s o p n room) ≡ cond (eqb (first (tell_refusals s o p)) 0) (first (number_refusals s n room)) (first (tell_refusals s o p))
unfolding derive_refusals tell_refusals number_refusals
joins s o p n room = go (heading_of s)
  where
    go : (x : Option Heading) → first (turn_refusals_of x o p ++ issue_refusals_of x n room) ≡ cond (eqb (first (turn_refusals_of x o p)) 0) (first (issue_refusals_of x n room)) (first (turn_refusals_of x o p))
    go None = refl
    go (Some h) = first_wins (barred_to p h) (not (is_outcome o && is_standing p)) (is_missing p h.kind o) (issue_refusals h.kind n room)

module _ (s : List ℕ) (o p : ℕ) (n : ItemNo) (t : List ℕ) where
  -- the first step refuses
  pub stops : (e : TellError) → untold_number e ≡ first (tell_refusals s o p) → Derives s o p n t (Err (Tell e)) t
  unfolding derived_target
  stops e q =
      let z = numbered_untold e in
      let j = sym (rw (← q, z) at (joins s o p n (length t))) in
      record { number = j; target = rw (← j, z) }

  -- it gives a heading, and the second step decides
  pub goes_on : (h g : Heading) (d : Result (Unit {0}) DeriveError) (t' : List ℕ) → heading_of s ≡ Some h → 0 ≡ first (tell_refusals s o p) → g ≡ turned h o
      → derived_number d ≡ first (issue_refusals h.kind n (length t)) → t' ≡ issued_target h.kind g n t → Derives s o p n t d t'
  unfolding issued_target derived_target number_refusals
  goes_on h g d t' r e f a b =
      let j = sym (rw (← e, r) at (joins s o p n (length t))) in
      record { number = a ∙ j; target = b ∙ rw (f, r, ← j) }
