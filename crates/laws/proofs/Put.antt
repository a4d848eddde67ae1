-- Laws of `put`: writing over a part keeps the length, and two parts written one after the other are one.
use mathlib.Core.Path.{◌≡◌, refl, ap, sym, ◌∙◌}
use mathlib.Core.List.{List, [], ◌++◌, append_assoc}
use Prim.Native.Nat.{ℕ, ◌+◌, ◌≤◌}
use native.Mathlib.Nat.{add_assoc, add-zero}
use native.Mathlib.Omega.{arith}
use lib.ListN.{length, take, drop, length-append, length-take, length-drop, take-append-drop}
use lib.Seq.{length-take-le, take_at, drop_at, drop-drop}
use Rattle.laws.specs.Lists.{put}

pub put_is : (xs : List ℕ) (at : ℕ) (ys : List ℕ) → put xs at ys ≡ take at xs ++ (ys ++ drop (at + length ys) xs)
unfolding put
put_is xs at ys = refl

module _ (xs : List ℕ) (at : ℕ) (ys : List ℕ) (fits : at + length ys ≤ length xs) where
  pub length_put : length (put xs at ys) ≡ length xs
  unfolding put
  length_put = simp (length-append, length-take, length-drop) (omega arith)

  before : length (take at xs) ≡ at
  before = length-take-le at xs (omega arith)

  whole : put xs at ys ≡ (take at xs ++ ys) ++ drop (at + length ys) xs
  unfolding put
  whole = sym (append_assoc (take at xs) ys (drop (at + length ys) xs))

  long : length (take at xs ++ ys) ≡ at + length ys
  long = simp (length-append, before)

  -- what stands after what was written
  pub drop_put : drop (at + length ys) (put xs at ys) ≡ drop (at + length ys) xs
  drop_put = rw whole (drop_at (take at xs ++ ys) (drop (at + length ys) xs) (at + length ys) long)

  pub take_put : take (at + length ys) (put xs at ys) ≡ take at xs ++ ys
  take_put = rw whole (take_at (take at xs ++ ys) (drop (at + length ys) xs) (at + length ys) long)

  -- a second text right after the first
  pub put_both : (zs : List ℕ) → put (put xs at ys) (at + length ys) zs ≡ put xs at (ys ++ zs)
  put_both zs = split ∙ rw (take_put, rest) joined
    where
      split : put (put xs at ys) (at + length ys) zs ≡ take (at + length ys) (put xs at ys) ++ (zs ++ drop (at + length ys + length zs) (put xs at ys))
      split = put_is (put xs at ys) (at + length ys) zs

      rest : drop (at + length ys + length zs) (put xs at ys) ≡ drop (at + length ys + length zs) xs
      rest = sym (drop-drop (length zs) (at + length ys) (put xs at ys)) ∙ ap (drop (length zs)) drop_put ∙ drop-drop (length zs) (at + length ys) xs

      joined : (take at xs ++ ys) ++ (zs ++ drop (at + length ys + length zs) xs) ≡ put xs at (ys ++ zs)
      joined = sym (put_is xs at (ys ++ zs) ∙ simp (length-append, append_assoc, add_assoc))

-- nothing written
pub put_none : (xs : List ℕ) (at : ℕ) → put xs at [] ≡ xs
unfolding put
put_none xs at = rw add-zero (take-append-drop at xs)
