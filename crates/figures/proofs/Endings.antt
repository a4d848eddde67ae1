-- What may follow the last number, by length and byte.
use Rattle.std.proofs.Common.{◌≡◌, ℕ, zero, suc, ◌+◌, ◌-◌, ◌<◌, ◌≤◌, true, false, ◌&&◌, eqb, leb, List, [], ◌∷◌, length, get_or, drop, sym, refl, ◌∙◌, zero-le, le_of_suc-le-suc, not-suc-le-zero, length-drop, drop_of_length-le, drop-cons, drop-drop, eq-eqb, ne_eqb, leb-false, leb-true}
use mathlib.Core.Bool.{and-true}
use lib.Dec.{leb-zero, leb-suc-zero, leb-suc-suc}
use Rattle.laws.proofs.Truth.{by_test}
use Rattle.figures.specs.Layouts.{bytes, any_byte, run, is_empty, head_is, fits, no_more, maybe_rest, maybe_name}

pub head_at : (x : ℕ) (t : List ℕ) (m : ℕ) → m < length t → head_is x (drop m t) ≡ eqb (get_or t m 0) x
unfolding head_is
head_at x t m h = rw (drop-cons t m 0)

pub empty_past : (t : List ℕ) (k : ℕ) → length t ≤ k → is_empty (drop k t) ≡ true
unfolding is_empty
empty_past t k h = rw (drop_of_length-le t h)

pub empty_before : (t : List ℕ) (k : ℕ) → k < length t → is_empty (drop k t) ≡ false
unfolding is_empty
empty_before t k h = rw (drop-cons t k 0)

pub empty_is : (t : List ℕ) (k : ℕ) → leb (length t) k ≡ is_empty (drop k t)
empty_is t k = by_test (leb (length t) k)
    (λ e. e ∙ sym (empty_past t k (leb-true _ _ e)))
    (λ e. e ∙ sym (empty_before t k (leb-false _ _ e)))

-- at most hi bytes to the end, and at least lo
at_most : (hi : ℕ) (s : List ℕ) → is_empty (drop (run any_byte hi s) s) ≡ leb (length s) hi
unfolding run is_empty
at_most zero [] = refl
at_most zero (b ∷ s) = simp leb-suc-zero
at_most (suc hi) [] = simp leb-zero
at_most (suc hi) (b ∷ s) = simp leb-suc-suc (at_most hi s)

at_least : (lo hi : ℕ) (s : List ℕ) → lo ≤ hi → leb lo (run any_byte hi s) ≡ leb lo (length s)
unfolding run
at_least zero hi s l = simp leb-zero
at_least (suc lo) zero s l = absurd (not-suc-le-zero l)
at_least (suc lo) (suc hi) [] l = refl
at_least (suc lo) (suc hi) (b ∷ s) l = simp leb-suc-suc (at_least lo hi s (le_of_suc-le-suc l))

-- from lo to hi bytes to the end
pub bytes_are : (lo hi : ℕ) (s : List ℕ) → lo ≤ hi → fits (bytes lo hi ∷ []) s ≡ (leb lo (length s) && leb (length s) hi)
unfolding fits
bytes_are lo hi s l = rw (at_least lo hi s l, at_most hi s)

module _ (t : List ℕ) (k : ℕ) where
  pub no_more_lem : leb (length t) k ≡ fits no_more (drop k t)
  unfolding fits
  no_more_lem = empty_is t k

  module _ (h : length t ≤ k) where
    pub rest_past : true ≡ fits maybe_rest (drop k t)
    unfolding fits
    rest_past = rw (empty_past t k h)

    pub name_past : true ≡ fits maybe_name (drop k t)
    unfolding fits
    name_past = rw (empty_past t k h)

  module _ (h : k < length t) where
    pub rest_at : eqb (get_or t k 0) 32 ≡ fits maybe_rest (drop k t)
    unfolding fits
    rest_at = rw (empty_before t k h, head_at 32 t k h, and-true)

    pub name_other : (get_or t k 0 ≡ 32 → ⊥) → false ≡ fits maybe_name (drop k t)
    unfolding fits
    name_other n = rw (empty_before t k h, head_at 32 t k h, ne_eqb _ _ n)

    opened : get_or t k 0 ≡ 32 → fits maybe_name (drop k t) ≡ fits (bytes 0 20 ∷ []) (drop 1 (drop k t))
    unfolding fits
    opened e = rw (empty_before t k h, head_at 32 t k h, eq-eqb _ _ e)

    pub name_at : get_or t k 0 ≡ 32 → leb (length t - (k + 1)) 20 ≡ fits maybe_name (drop k t)
    name_at e = sym (opened e ∙ bytes_are 0 20 (drop 1 (drop k t)) zero-le ∙ rw (drop-drop 1 k t, length-drop (k + 1) t) (simp leb-zero))
