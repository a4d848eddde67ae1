-- Two slices of one length, read as one list of pairs.
use mathlib.Core.Path.{◌≡◌, refl, ap, ◌∙◌}
use mathlib.Core.List.{List, [], ◌∷◌, ◌++◌, map, zip_with}
use Prim.Native.Nat.{ℕ, zero, suc, ◌-◌, ◌<◌}
use native.Mathlib.Omega.{arith}
use lib.ListN.{length, take, drop, get_or, length-take, length-drop}
use lib.Seq.{get_or-take, length-take-le}
use Rattle.rules.specs.Faults.{Fault, fault}
use Rattle.ledger.specs.Marks.{key}
use Rattle.ledger.specs.Slices.{pairs, held, opened, Ready}

pairs_nil : (ls : List ℕ) → pairs ls [] ≡ []
unfolding zip_with
pairs_nil [] = refl
pairs_nil (l ∷ ls) = refl

pairs_take : (n : ℕ) (ls rs : List ℕ) → pairs (take n ls) (take n rs) ≡ take n (pairs ls rs)
unfolding zip_with
pairs_take zero ls rs = refl
pairs_take (suc n) [] rs = refl
pairs_take (suc n) (l ∷ ls) [] = refl
pairs_take (suc n) (l ∷ ls) (r ∷ rs) = ap (λ (t : List Fault). fault l r ∷ t) (pairs_take n ls rs)

pairs_drop : (n : ℕ) (ls rs : List ℕ) → pairs (drop n ls) (drop n rs) ≡ drop n (pairs ls rs)
unfolding zip_with
pairs_drop zero ls rs = refl
pairs_drop (suc n) [] rs = refl
pairs_drop (suc n) (l ∷ ls) [] = pairs_nil (drop n ls)
pairs_drop (suc n) (l ∷ ls) (r ∷ rs) = pairs_drop n ls rs

pairs_append : (a b c d : List ℕ) → length a ≡ length b → pairs (a ++ c) (b ++ d) ≡ pairs a b ++ pairs c d
unfolding zip_with
pairs_append [] [] c d h = refl
pairs_append [] (y ∷ b) c d h = absurd (omega arith)
pairs_append (x ∷ a) [] c d h = absurd (omega arith)
pairs_append (x ∷ a) (y ∷ b) c d h = ap (λ (t : List Fault). fault x y ∷ t) (pairs_append a b c d (omega arith))

pairs_get : (ls rs : List ℕ) (i : ℕ) (d : Fault) → length ls ≡ length rs → i < length ls → get_or (pairs ls rs) i d ≡ fault (get_or ls i 0) (get_or rs i 0)
unfolding zip_with
pairs_get [] rs i d h k = absurd (omega arith)
pairs_get (x ∷ ls) [] i d h k = absurd (omega arith)
pairs_get (x ∷ ls) (y ∷ rs) zero d h k = refl
pairs_get (x ∷ ls) (y ∷ rs) (suc i) d h k = pairs_get ls rs i d (omega arith) (omega arith)

-- a place opened in both slices is one opened among the pairs
pub pairs_opened : (p n l r : ℕ) (ls rs : List ℕ) → length ls ≡ length rs → pairs (opened p n l ls) (opened p n r rs) ≡ opened p n (fault l r) (pairs ls rs)
unfolding zip_with
pairs_opened p n l r ls rs h =
    pairs_append (take p ls) (take p rs) (l ∷ (take (n - p) (drop p ls) ++ drop (suc n) ls)) (r ∷ (take (n - p) (drop p rs) ++ drop (suc n) rs)) (simp length-take (omega arith))
    ∙ ap (λ (t : List Fault). pairs (take p ls) (take p rs) ++ (fault l r ∷ t))
    (pairs_append (take (n - p) (drop p ls)) (take (n - p) (drop p rs)) (drop (suc n) ls) (drop (suc n) rs) (simp (length-take, length-drop) (omega arith)))
    ∙ simp (pairs_take, pairs_drop)

-- as many pairs as places
pub pairs_length : (ls rs : List ℕ) → length ls ≡ length rs → length (pairs ls rs) ≡ length ls
unfolding zip_with
pairs_length [] rs h = refl
pairs_length (x ∷ ls) [] h = absurd (omega arith)
pairs_length (x ∷ ls) (y ∷ rs) h = ap suc (pairs_length ls rs (omega arith))

module _ (n : ℕ) (ls rs : List ℕ) (R : Ready n ls rs) where
  pub held_length : length (held n ls rs) ≡ n
  held_length = length-take-le n (pairs ls rs) (omega (arith, pairs_length ls rs R.same, R.room))

  -- the key of a pair that is held
  pub held_key : (q : ℕ) (d : Fault) → q < n → key (get_or (held n ls rs) q d) ≡ key (fault (get_or ls q 0) (get_or rs q 0))
  held_key q d h = ap key (get_or-take n (pairs ls rs) q d h ∙ pairs_get ls rs q d R.same (omega (arith, R.room)))

-- ---- the two columns

-- the first
pub lines_of : (ls rs : List ℕ) → length ls ≡ length rs → map (λ (f : Fault). f.line) (pairs ls rs) ≡ ls
unfolding zip_with
lines_of [] rs h = refl
lines_of (x ∷ ls) [] h = absurd (omega arith)
lines_of (x ∷ ls) (y ∷ rs) h = ap (λ (t : List ℕ). x ∷ t) (lines_of ls rs (omega arith))

-- the second
pub rules_of : (ls rs : List ℕ) → length ls ≡ length rs → map (λ (f : Fault). f.rule) (pairs ls rs) ≡ rs
unfolding zip_with
rules_of [] [] h = refl
rules_of [] (y ∷ rs) h = absurd (omega arith)
rules_of (x ∷ ls) [] h = absurd (omega arith)
rules_of (x ∷ ls) (y ∷ rs) h = ap (λ (t : List ℕ). y ∷ t) (rules_of ls rs (omega arith))
