-- Two numbers with a space between, in each case of the code.
use mathlib.Core.Path.{◌≡◌, ap, ◌∙◌, sym}
use mathlib.Core.Bool.{false, and-false}
use mathlib.Core.List.{List}
use Prim.Native.Nat.{ℕ, ◌+◌, ◌-◌, ◌≤◌, ◌<◌}
use native.Mathlib.Nat.{zero-add}
use native.Mathlib.Omega.{arith}
use lib.ListN.{length, take, drop, get_or, drop_of_length-le}
use borrow.Author.Tests.{le-leb, lt-leb, eq-eqb, ne_eqb}
use Rattle.text.specs.Digits.{is_digit, value}
use Rattle.number_reader.specs.declared.Run.{Run}
use Rattle.std.specs.Prelude.{Some, None}
use Rattle.figures.specs.Layouts.{run, head_is}
use Rattle.figures.proofs.Endings.{head_at}
use Rattle.number_reader.specs.Numbers.{number_at, two_of}

pub head_past : (x : ℕ) (t : List ℕ) (m : ℕ) → length t ≤ m → head_is x (drop m t) ≡ false
unfolding head_is
head_past x t m h = rw (drop_of_length-le t h)

module _ (t : List ℕ) (l₁ h₁ l₂ h₂ : ℕ) (a : Run) (ea : a ≡ number_at h₁ t 0) where
  mid : run is_digit h₁ t ≡ a.end
  mid = sym (ap (λ (r : Run). r.end) ea ∙ zero-add _)

  fst : value (take a.end t) ≡ a.value
  fst = ap (λ (n : ℕ). value (take n t)) (sym mid) ∙ sym (ap (λ (r : Run). r.value) ea)

  pub short : a.end < l₁ → None ≡ two_of l₁ h₁ l₂ h₂ t
  unfolding two_of
  short h = rw (mid, lt-leb l₁ a.end h)

  pub ended : length t ≤ a.end → None ≡ two_of l₁ h₁ l₂ h₂ t
  unfolding two_of
  ended h = rw (mid, head_past 32 t a.end h, and-false)

  module _ (h : a.end < length t) where
    pub other : (get_or t a.end 0 ≡ 32 → ⊥) → None ≡ two_of l₁ h₁ l₂ h₂ t
    unfolding two_of
    other n = rw (mid, head_at 32 t a.end h, ne_eqb _ _ n, and-false)

    module _ (b : Run) (eb : b ≡ number_at h₂ t (a.end + 1)) where
      size : run is_digit h₂ (drop (a.end + 1) t) ≡ b.end - (a.end + 1)
      size = let e : b.end ≡ a.end + 1 + run is_digit h₂ (drop (a.end + 1) t) = ap (λ (r : Run). r.end) eb in omega arith

      snd : value (take (b.end - (a.end + 1)) (drop (a.end + 1) t)) ≡ b.value
      snd = ap (λ (n : ℕ). value (take n (drop (a.end + 1) t))) (sym size) ∙ sym (ap (λ (r : Run). r.value) eb)

      pub few : b.end - (a.end + 1) < l₂ → None ≡ two_of l₁ h₁ l₂ h₂ t
      unfolding two_of
      few g = rw (mid, size, lt-leb l₂ (b.end - (a.end + 1)) g, and-false, and-false)

      pub found : l₁ ≤ a.end → get_or t a.end 0 ≡ 32 → l₂ ≤ b.end - (a.end + 1) → a.end + 1 ≤ b.end
          → Some (record { first = a.value; mid = a.end; second = b.value; end = b.end }) ≡ two_of l₁ h₁ l₂ h₂ t
      unfolding two_of
      found f e g k =
          let z : a.end + 1 + (b.end - (a.end + 1)) ≡ b.end = omega arith in
          rw (mid, size, le-leb l₁ a.end f, head_at 32 t a.end h, eq-eqb _ _ e, le-leb l₂ (b.end - (a.end + 1)) g, z, fst, snd)
