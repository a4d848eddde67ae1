-- Numbers that rise, numbers below a bound, and lists that are told apart by numbers that rise.
use mathlib.Core.Path.{◌≡◌, sym, ap, ◌∙◌}
use mathlib.Core.List.Memᴰ
use mathlib.Core.List.{List, [], ◌∷◌, ◌++◌, map, Memᴰ}
use mathlib.Core.Logic.{◌⊎◌, inl, inr}
use Prim.Native.Nat.{ℕ, suc, ◌≤◌, ◌<◌}
use native.Mathlib.Omega.{arith}

-- numbers that rise, from k or above
abbrev pub Rising : ℕ → List ℕ → Type 0
Rising k [] = Unit {0}
Rising k (m ∷ ms) = (k ≤ m) × Rising (suc m) ms

-- each number is below k
abbrev pub Under : ℕ → List ℕ → Type 0
Under k [] = Unit {0}
Under k (m ∷ ms) = (m < k) × Under k ms

-- from a lower number on
pub rising_le : (j k : ℕ) (ms : List ℕ) → j ≤ k → Rising k ms → Rising j ms
rising_le j k [] h R = tt
rising_le j k (m ∷ ms) h R = (omega (arith, R.0), R.1)

-- numbers below j, then numbers from j on
pub rising_append : (k j : ℕ) (ms ns : List ℕ) → k ≤ j → Rising k ms → Under j ms → Rising j ns → Rising k (ms ++ ns)
rising_append k j [] ns h R U Q = rising_le k j ns h Q
rising_append k j (m ∷ ms) ns h R U Q = (R.0, rising_append (suc m) j ms ns U.0 R.1 U.1 Q)

-- ---- a list whose members have numbers that rise
module _ {A : Type 0} (num : A → ℕ) where
  pub member_from : (k : ℕ) (xs : List A) (x : A) → Rising k (map num xs) → Memᴰ x xs → k ≤ num x
  member_from k [] x R m = absurd (Memᴰ.not-nil m)
  member_from k (y ∷ ys) x R m = go (member_from (suc (num y)) ys x R.1) (Memᴰ.cases_cons m)
    where
      go : (Memᴰ x ys → suc (num y) ≤ num x) → (x ≡ y) ⊎ Memᴰ x ys → k ≤ num x
      go ih (inl e) = omega (arith, R.0, ap num e)
      go ih (inr n) = omega (arith, R.0, ih n)

  -- two members with one number are one
  pub only_one : (k : ℕ) (xs : List A) → Rising k (map num xs) → (x y : A) → Memᴰ x xs → Memᴰ y xs → num x ≡ num y → x ≡ y
  only_one k [] R x y m n e = absurd (Memᴰ.not-nil m)
  only_one k (z ∷ zs) R x y m n e = go (λ p q. only_one (suc (num z)) zs R.1 x y p q e) (Memᴰ.cases_cons m) (Memᴰ.cases_cons n)
    where
      go : (Memᴰ x zs → Memᴰ y zs → x ≡ y) → (x ≡ z) ⊎ Memᴰ x zs → (y ≡ z) ⊎ Memᴰ y zs → x ≡ y
      go ih (inl a) (inl b) = a ∙ sym b
      go ih (inl a) (inr q) = absurd (omega (arith, ap num a, e, member_from (suc (num z)) zs y R.1 q))
      go ih (inr p) (inl b) = absurd (omega (arith, ap num b, e, member_from (suc (num z)) zs x R.1 p))
      go ih (inr p) (inr q) = ih p q
