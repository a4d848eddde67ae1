-- Tests that hold and tests that do not, as equations.
use mathlib.Core.Path.{◌≡◌, refl, sym, ap, ◌∙◌}
use mathlib.Core.Bool.{Bool, true, false, not, ◌&&◌, ◌||◌, false≢true}
use mathlib.Core.List.{List, [], ◌∷◌, map}
use mathlib.Core.Logic.{◌⊎◌, inl, inr}
use Prim.Native.Nat.{ℕ, ◌≤◌, ◌<◌}
use lib.Dec.{eqb, ltb}
use borrow.Author.Tests.{eqb-true, ltb-true, ltb-false, not-true}
use Rattle.laws.specs.Tests.{every, among}
-- both tests of a row, and one of them
pub use Rattle.std.proofs.lemmas.Bool.{and_parts, and_from as both_hold, or_cases as one_holds}

-- a case on a test, with what it says
pub by_test : {A : Type 0} (b : Bool) → (b ≡ true → A) → (b ≡ false → A) → A
by_test true f g = f refl
by_test false f g = g refl

-- .. and on the order of two numbers
pub le_or_lt : (m n : ℕ) → (m ≤ n) ⊎ (n < m)
le_or_lt m n = by_test (ltb n m) (λ e. inr (ltb-true n m e)) (λ e. inl (ltb-false n m e))

pub never_true : (b : Bool) → (b ≡ true → ⊥) → b ≡ false
never_true false h = refl
never_true true h = absurd (h refl)

pub both_left : (a b : Bool) → (a && b) ≡ true → a ≡ true
both_left true b e = refl
both_left false b e = e

pub both_right : (a b : Bool) → (a && b) ≡ true → b ≡ true
both_right true b e = e
both_right false b e = absurd (false≢true e)

pub first_holds : (a b : Bool) → a ≡ true → (a || b) ≡ true
first_holds true b e = refl
first_holds false b e = absurd (false≢true e)

pub second_holds : (a b : Bool) → b ≡ true → (a || b) ≡ true
second_holds true b e = refl
second_holds false b e = e

-- two tests that follow from each other are one
pub both_ways : (a b : Bool) → (a ≡ true → b ≡ true) → (b ≡ true → a ≡ true) → a ≡ b
both_ways true true f g = refl
both_ways true false f g = sym (f refl)
both_ways false true f g = g refl
both_ways false false f g = refl

-- a test that holds of each number of a list holds of one that stands in it
pub each_of : (f : ℕ → Bool) (x : ℕ) (ys : List ℕ) → every (map f ys) ≡ true → among x ys ≡ true → f x ≡ true
each_of f x [] h e = absurd (false≢true e)
each_of f x (y ∷ ys) h e = go (eqb x y) refl (each_of f x ys (both_right (f y) (every (map f ys)) h)) e
  where
    go : (t : Bool) → eqb x y ≡ t → (among x ys ≡ true → f x ≡ true) → (t || among x ys) ≡ true → f x ≡ true
    go true q ih w = ap f (eqb-true x y q) ∙ both_left (f y) (every (map f ys)) h
    go false q ih w = ih w

-- so a number of one list stands in no other that has none of its numbers
pub apart : (xs ys : List ℕ) → every (map (λ k. not (among k ys)) xs) ≡ true → (x : ℕ) → among x xs ≡ true → among x ys ≡ false
apart xs ys h x e = not-true (among x ys) (each_of (λ k. not (among k ys)) x xs h e)
