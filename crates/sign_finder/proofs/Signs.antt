-- The search for a sign: where its letters stand at none of some places there is none, and what is known at the first one.
use Prim.Native.Nat.{ℕ, zero, suc, ◌+◌, ◌-◌, ◌≤◌, ◌<◌}
use native.Mathlib.Omega.{arith}
use mathlib.Core.Path.{◌≡◌, sym, ap, ◌∙◌}
use mathlib.Core.Bool.{Bool, true, false, not, false≢true}
use mathlib.Core.List.{List, [], ◌∷◌}
use lib.Dec.{eqb}
use lib.ListN.{length, take, drop, get_or, length-take, length-drop}
use lib.Seq.{get_or-drop, get_or-take, take_all}
use borrow.Author.Tests.{eqb-true, not-true}
use Rattle.laws.proofs.Truth.{never_true, both_left, both_right}
use Rattle.text.specs.Strings.{begins}
use Rattle.text.proofs.Comparing.{begins_length}
use Rattle.sign_finder.specs.Signs.{sign, stands_at, Quiet, Apart}

-- ---- the bytes of a text that begins with another
begins_byte : (x y : List ℕ) (k : ℕ) → begins x y ≡ true → k < length y → get_or x k 0 ≡ get_or y k 0
unfolding begins
begins_byte x [] k e h = absurd (omega arith)
begins_byte [] (b ∷ y) k e h = absurd (false≢true e)
begins_byte (a ∷ x) (b ∷ y) zero e h = eqb-true a b (both_left (eqb a b) (begins x y) e)
begins_byte (a ∷ x) (b ∷ y) (suc k) e h = begins_byte x y k (both_right (eqb a b) (begins x y) e) (omega arith)

module _ (s : List ℕ) (a b : ℕ) where
  -- what `&s[i..]` is
  pub rest_all : (i : ℕ) → take (length s - i) (drop i s) ≡ drop i s
  rest_all i = take_all (length s - i) (drop i s) (omega (arith, length-drop i s))

  pub sign_size : (k : ℕ) → stands_at s a b k ≡ true → k + 5 ≤ length s
  sign_size k e = omega (arith, begins_length (drop k s) (sign a b) e, length-drop k s)

  sign_byte : (k j : ℕ) → j < 5 → stands_at s a b k ≡ true → get_or s (k + j) 0 ≡ get_or (sign a b) j 0
  sign_byte k j h e = sym (get_or-drop k s j 0) ∙ begins_byte (drop k s) (sign a b) j e h

  -- a byte that is no CR
  pub no_cr : (k : ℕ) → (get_or s k 0 ≡ 0x0d → ⊥) → stands_at s a b k ≡ false
  no_cr k h =
      never_true (stands_at s a b k) (λ e. h (ap (λ (j : ℕ). get_or s j 0) (let z : k ≡ k + 0 = omega arith in z) ∙ sign_byte k 0 (omega arith) e))

  -- ---- sixteen places
  abbrev block : ℕ → List ℕ
  block i = take (i + 19 - (i + 2)) (drop (i + 2) s)

  pub block_quiet : (i : ℕ) → i + 19 ≤ length s → {r : Bool} → (r ≡ false → Apart (block i) a b (length (block i))) → not r ≡ true → (i + 19 ≤ length s) × Quiet s a b i (i + 16)
  block_quiet i h {r} f e =
      let m : length (block i) ≡ 17 = omega (arith, length-take (i + 19 - (i + 2)) (drop (i + 2) s), length-drop (i + 2) s) in (
        h,
        λ k l u.
            never_true (stands_at s a b k)
            (λ w. f (not-true r e) (k - i) (omega (arith, m)) (at k l u 2 (k - i) (omega arith) (omega arith) w) (at k l u 3 (k - i + 1) (omega arith) (omega arith) w)),
      )
    where
      at : (k : ℕ) → i ≤ k → k < i + 16 → (j q : ℕ) → j < 4 → i + 2 + q ≡ k + j → stands_at s a b k ≡ true
          → get_or (block i) q 0 ≡ get_or (sign a b) j 0
      at k l u j q g v w =
          get_or-take (i + 19 - (i + 2)) (drop (i + 2) s) q 0 (omega arith)
          ∙ get_or-drop (i + 2) s q 0 ∙ ap (λ (p : ℕ). get_or s p 0) v ∙ sign_byte k j (omega arith) w
