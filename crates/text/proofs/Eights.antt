-- Laws of `any_of` for a search that keeps whether nothing passed so far: by one element, by several, and by a last part that may overlap.
use mathlib.Core.Path.{◌≡◌, refl, sym, ap, ap₂, ◌∙◌}
use mathlib.Core.Bool.{Bool, true, false, not, ◌&&◌, ◌||◌, or-false, not-not}
use mathlib.Core.List.{List, [], ◌∷◌, ◌++◌}
use Prim.Native.Nat.{ℕ, suc, ◌+◌, ◌-◌, ◌*◌, ◌<◌, ◌≤◌, min}
use native.Mathlib.Omega.{arith}
use lib.ListN.{length, take, drop, get_or, length-drop, length-append}
use lib.Seq.{take-add, take_all, take-suc, take-take, take_at, drop_at, drop-drop, length-take-le}
use Rattle.std.proofs.lemmas.List.{take_min, drop-take}
use Rattle.laws.specs.Lists.{any_of}
use Rattle.laws.proofs.Any.{any_append}

neither : (a b : Bool) → (not a && not b) ≡ not (a || b)
neither true b = refl
neither false b = refl

twice : (a b c : Bool) → ((a || b) || (b || c)) ≡ (a || (b || c))
twice true b c = refl
twice false true c = refl
twice false false c = refl

module _ (f : ℕ → Bool) where
  none_append : (s t : List ℕ) {a b : Bool} → a ≡ not (any_of f s) → b ≡ not (any_of f t) → (a && b) ≡ not (any_of f (s ++ t))
  none_append s t p q = ap₂ (λ (x y : Bool). x && y) p q ∙ neither (any_of f s) (any_of f t) ∙ ap not (sym (any_append f s t))

  -- the element at n, after the n before it
  pub none_more : (s : List ℕ) (n : ℕ) {a b : Bool} → n < length s → a ≡ not (any_of f (take n s)) → b ≡ not (f (get_or s n 0)) → (a && b) ≡ not (any_of f (take (suc n) s))
  unfolding any_of
  none_more s n h p q =
      none_append (take n s) (get_or s n 0 ∷ []) p (q ∙ ap not (sym (or-false (f (get_or s n 0))))) ∙ ap (λ (l : List ℕ). not (any_of f l)) (sym (take-suc s n 0 h))

  pub none_all : (s : List ℕ) (i : ℕ) {a : Bool} → length s ≤ i → a ≡ not (any_of f (take i s)) → not a ≡ any_of f s
  none_all s i h p = ap not p ∙ not-not _ ∙ ap (any_of f) (take_all i s h)

  -- up to i, and n from j on, which begin at or before i: up to j + n
  pub none_on : (s : List ℕ) (i j n : ℕ) {a b : Bool} → j ≤ i → i ≤ j + n → a ≡ not (any_of f (take i s)) → b ≡ not (any_of f (take n (drop j s))) → (a && b) ≡ not (any_of f (take (j + n) s))
  none_on s i j n h k p q =
      let u : j + (i - j) ≡ i = omega arith in
      let v : (i - j) + (n - (i - j)) ≡ n = omega arith in
      let front = ap (λ (m : ℕ). any_of f (take m s)) (sym u) ∙ parts s j (i - j) in
      let back = ap (λ (m : ℕ). any_of f (take m (drop j s))) (sym v) ∙ parts (drop j s) (i - j) (n - (i - j)) in
      ap₂ (λ (x y : Bool). x && y) p q ∙ neither (any_of f (take i s)) (any_of f (take n (drop j s)))
      ∙ ap not (ap₂ (λ (x y : Bool). x || y) front back ∙ twice (any_of f (take j s)) (any_of f (take (i - j) (drop j s))) _
      ∙ ap (λ (x : Bool). any_of f (take j s) || x) (sym back) ∙ sym (parts s j n))
    where
      parts : (l : List ℕ) (i n : ℕ) → any_of f (take (i + n) l) ≡ (any_of f (take i l) || any_of f (take n (drop i l)))
      parts l i n = ap (any_of f) (take-add i n l) ∙ any_append f (take i l) (take n (drop i l))

  -- the k-th eight, or the last where that would go over the end
  pub none_eight : (s : List ℕ) (k j : ℕ) {a b : Bool} → 8 ≤ length s → j ≡ min (length s - 8) (8 * k) → a ≡ not (any_of f (take (8 * k) s)) → b ≡ not (any_of f (take 8 (drop j s))) → (a && b) ≡ not (any_of f (take (8 * (k + 1)) s))
  none_eight s k j l e p q =
      let u : j + 8 ≡ min (8 * (k + 1)) (length s) = omega (arith, e) in
      none_on s (min (8 * k) (length s)) j 8 (omega (arith, e)) (omega (arith, e)) (rw take_min p) q ∙ rw (u, take_min)

-- eight bytes that come off what is left of the first n
pub eight_off : (s eight rest : List ℕ) (at n : ℕ) → n ≤ length s → at ≤ n → drop at (take n s) ≡ eight ++ rest → length eight ≡ 8 → (at + 8 ≤ n) × (eight ≡ take 8 (drop at s)) × (rest ≡ drop (at + 8) (take n s))
eight_off s eight rest at n l h e k =
    let m : at + 8 ≤ n = omega (arith, k, length-append eight rest, ap length e, length-drop at (take n s), length-take-le n s l) in
    let o : n ≡ at + (8 + (n - at - 8)) = omega arith in (
      m,
      sym (take_at eight rest 8 k) ∙ ap (take 8) (sym e ∙ ap (λ (x : ℕ). drop at (take x s)) o ∙ drop-take at (8 + (n - at - 8)) s) ∙ take-take 8 (8 + (n - at - 8)) (drop at s) (omega arith),
      sym (drop_at eight rest 8 k) ∙ ap (drop 8) (sym e) ∙ drop-drop 8 at (take n s),
    )
