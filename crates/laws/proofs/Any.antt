-- Laws of `any_of`: for a loop that keeps a flag, and where one test is weaker than another.
use mathlib.Core.Path.{◌≡◌, refl, sym, ◌∙◌}
use mathlib.Core.Bool.{Bool, true, false, ◌||◌, or-false}
use mathlib.Core.List.{List, [], ◌∷◌, ◌++◌}
use Prim.Native.Nat.{ℕ, ◌+◌, ◌<◌, ◌≤◌}
use native.Mathlib.Numerals.{add-one}
use lib.ListN.{length, get_or, drop, drop_of_length-le}
use lib.Seq.{drop-cons}
use Rattle.laws.specs.Lists.{any_of}

-- a flag over the elements before i: with the answer for those from i on it is the answer for all
module _ (f : ℕ → Bool) (s : List ℕ) (i : ℕ) (flag : Bool) (known : (flag || any_of f (drop i s)) ≡ any_of f s) where
  module _ (inside : i < length s) where
    next : (flag || (f (get_or s i 0) || any_of f (drop (i + 1) s))) ≡ any_of f s
    unfolding any_of
    next = rw (add-one i) (rw (drop-cons s i 0 inside) at known)

    -- the element passes: the flag is set
    pub flag_set : f (get_or s i 0) ≡ true → (true || any_of f (drop (i + 1) s)) ≡ any_of f s
    flag_set e = go flag (rw e at next)
      where
        go : (b : Bool) → (b || true) ≡ any_of f s → true ≡ any_of f s
        go true q = q
        go false q = q

    -- it does not: the flag stays
    pub flag_kept : f (get_or s i 0) ≡ false → (flag || any_of f (drop (i + 1) s)) ≡ any_of f s
    flag_kept e = rw e at next

  pub flag_is : length s ≤ i → flag ≡ any_of f s
  unfolding any_of
  flag_is h = sym (or-false flag) ∙ (rw (drop_of_length-le s h) at known)

pub or_left : (a b : Bool) → (a || b) ≡ false → a ≡ false
or_left true b e = e
or_left false b e = refl

pub or_right : (a b : Bool) → (a || b) ≡ false → b ≡ false
or_right true b e = cc
or_right false b e = e

-- where one test is the weaker, and nothing passes the other
pub weaker : (f g : ℕ → Bool) → ((x : ℕ) → f x ≡ false → g x ≡ false) → (s : List ℕ) → any_of f s ≡ false → any_of g s ≡ false
unfolding any_of
weaker f g w [] e = refl
weaker f g w (x ∷ s) e = rw (w x (or_left (f x) (any_of f s) e)) (weaker f g w s (or_right (f x) (any_of f s) e))

pub any_append : (f : ℕ → Bool) (s t : List ℕ) → any_of f (s ++ t) ≡ (any_of f s || any_of f t)
unfolding any_of
any_append f [] t = refl
any_append f (x ∷ s) t = go (f x) (any_append f s t)
  where
    go : (b : Bool) → any_of f (s ++ t) ≡ (any_of f s || any_of f t) → (b || any_of f (s ++ t)) ≡ ((b || any_of f s) || any_of f t)
    go true e = refl
    go false e = e
