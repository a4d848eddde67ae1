-- The first refusal that applies: of two lists one after the other, and where none applies.
use mathlib.Core.Path.{◌≡◌, refl}
use mathlib.Core.Bool.{Bool, true, false, cond, ◌&&◌}
use mathlib.Core.List.{List, [], ◌∷◌, ◌++◌}
use Prim.Native.Nat.{ℕ, ◌≤◌}
use native.Mathlib.Omega.{arith}
use lib.Dec.{T, eqb, leb, leb→le}
use borrow.Author.Tests.{eqb-true}
use Rattle.laws.specs.Refusals.{Refusal, ◌if◌, first}
use Rattle.laws.proofs.Entries.{and_left, and_right}

-- no refusal has the number 0
abbrev pub numbered : List Refusal → Bool
numbered [] = true
numbered ((k if t) ∷ rs) = leb 1 k && numbered rs

number_some : (k : ℕ) (rs : List Refusal) → T (leb 1 k && numbered rs) → k ≡ 0 → ⊥
number_some k rs n e = let h : 1 ≤ k = leb→le 1 k (and_left (leb 1 k) (numbered rs) n) in omega (arith, e, h)

-- none of the conditions holds
abbrev pub NoneOf : List Refusal → Type 0
NoneOf [] = Unit {0}
NoneOf ((k if t) ∷ rs) = (t ≡ false) × NoneOf rs

-- a job that answers 0 refuses by none of its numbers
pub none_applies : (rs : List Refusal) → T (numbered rs) → first rs ≡ 0 → NoneOf rs
none_applies [] n e = tt
none_applies ((k if true) ∷ rs) n e = absurd (number_some k rs n e)
none_applies ((k if false) ∷ rs) n e = (refl, none_applies rs (and_right (leb 1 k) (numbered rs) n) e)

-- one that applies hides all that follow
pub first_here : (rs ss : List Refusal) (k : ℕ) → first rs ≡ k → 1 ≤ k → first (rs ++ ss) ≡ k
first_here [] ss k e h = absurd (omega (arith, e, h))
first_here ((j if true) ∷ rs) ss k e h = e
first_here ((j if false) ∷ rs) ss k e h = first_here rs ss k e h

-- where none applies the next ones decide
pub first_past : (rs ss : List Refusal) → T (numbered rs) → first rs ≡ 0 → first (rs ++ ss) ≡ first ss
first_past [] ss n e = refl
first_past ((k if true) ∷ rs) ss n e = absurd (number_some k rs n e)
first_past ((k if false) ∷ rs) ss n e = first_past rs ss (and_right (leb 1 k) (numbered rs) n) e

-- what is done where nothing refuses can be said in other words
pub chosen : {A : Type 0} (k : ℕ) (x x' y : A) → (k ≡ 0 → x ≡ x') → cond (eqb k 0) x y ≡ cond (eqb k 0) x' y
chosen k x x' y f = go (eqb k 0) refl
  where
    go : (b : Bool) → eqb k 0 ≡ b → cond b x y ≡ cond b x' y
    go true p = f (eqb-true k 0 p)
    go false p = refl
