-- A place opened in a slice, as `open_at` does it, and what stands there then.
use mathlib.Core.Path.{◌≡◌, sym, ap, ◌∙◌}
use mathlib.Core.List.{List, ◌∷◌, ◌++◌, append_assoc}
use Prim.Native.Nat.{ℕ, suc, ◌+◌, ◌-◌, ◌≤◌, ◌<◌}
use native.Mathlib.Omega.{arith}
use lib.ListN.{length, take, drop, set, length-take, length-drop, length-append}
use lib.Seq.{paste, set_split, take-append-le, take-take, take_at, drop_at, length-take-le}
use Rattle.ledger.specs.Slices.{opened}

module _ {ℓ} {A : Type ℓ} where
  -- s with what stood from j up to n moved one place on: the place j is free
  abbrev shifted : ℕ → ℕ → List A → List A
  shifted j n s = take (suc j) s ++ (take (n - j) (drop j s) ++ drop (suc n) s)

  set_shifted : (s : List A) (j n : ℕ) (v : A) → j ≤ n → n < length s → set (shifted j n s) j v ≡ opened j n v s
  set_shifted s j n v h k =
      let R : List A = take (n - j) (drop j s) ++ drop (suc n) s in
      let l : length (take (suc j) s) ≡ suc j = length-take-le (suc j) s (omega arith) in
      set_split (shifted j n s) j v (omega (arith, length-append (take (suc j) s) R, l))
      ∙ ap (λ (t : List A). t ++ (v ∷ drop (suc j) (shifted j n s))) (take-append-le j (take (suc j) s) R (omega (arith, l)) ∙ take-take j (suc j) s (omega arith))
      ∙ ap (λ (t : List A). take j s ++ (v ∷ t)) (drop_at (take (suc j) s) R (suc j) l)

  -- what `open_at` does
  pub copied : (s : List A) (p n : ℕ) (v : A) → p ≤ n → n < length s → set (paste s (p + 1) (drop p s) (n - p)) p v ≡ opened p n v s
  copied s p n v h k =
      let front : p + 1 ≡ suc p = omega arith in
      let back : p + 1 + (n - p) ≡ suc n = omega arith in
      ap (λ (t : List A). set t p v) (append_assoc (take (p + 1) s) (take (n - p) (drop p s)) (drop (p + 1 + (n - p)) s) ∙ λ i. take (front i) s ++ (take (n - p) (drop p s) ++ drop (back i) s)) ∙ set_shifted s p n v h k

-- ---- what stands there then

module _ {A : Type 0} (p n : ℕ) (v : A) (s : List A) (h : p ≤ n) (k : n < length s) where
  head_length : length (take p s ++ (v ∷ take (n - p) (drop p s))) ≡ suc n
  head_length = simp (length-append, length-take, length-drop) (omega arith)

  regroup : opened p n v s ≡ (take p s ++ (v ∷ take (n - p) (drop p s))) ++ drop (suc n) s
  regroup = sym (append_assoc (take p s) (v ∷ take (n - p) (drop p s)) (drop (suc n) s))

  pub take_opened : take (suc n) (opened p n v s) ≡ take p s ++ (v ∷ take (n - p) (drop p s))
  take_opened = ap (take (suc n)) regroup ∙ take_at (take p s ++ (v ∷ take (n - p) (drop p s))) (drop (suc n) s) (suc n) head_length

  pub drop_opened : drop (suc n) (opened p n v s) ≡ drop (suc n) s
  drop_opened = ap (drop (suc n)) regroup ∙ drop_at (take p s ++ (v ∷ take (n - p) (drop p s))) (drop (suc n) s) (suc n) head_length

  pub length_opened : length (opened p n v s) ≡ length s
  length_opened = simp (length-append, length-take, length-drop) (omega arith)
