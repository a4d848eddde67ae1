-- A loop that reads digits: at place i, the value of what is left, after the number read so far, is the value of all.
use mathlib.Core.Path.{◌≡◌, ◌∙◌, sym}
use mathlib.Core.Bool.{true}
use mathlib.Core.List.{List}
use Prim.Native.Nat.{ℕ, suc, ◌+◌, ◌-◌, ◌*◌, ◌^◌, ◌≤◌, ◌<◌}
use native.Mathlib.Nat.{pow-succ', mul_comm, pow-le-pow_right}
use native.Mathlib.Numerals.{add-one}
use native.Mathlib.Omega.{arith}
use lib.ListN.{length, drop, get_or, drop_of_length-le}
use lib.Seq.{drop-cons}
use lib.Arith.{digits_lt}
use Rattle.text.specs.Digits.{all_are_digits, value_after, value}
use Rattle.text.proofs.Widths.{digit_parts}

module _ (s : List ℕ) (i : ℕ) (h : i < length s) where
  pub digit_next : all_are_digits (drop i s) ≡ true → (48 ≤ get_or s i 0) × (get_or s i 0 ≤ 57) × (all_are_digits (drop (i + 1) s) ≡ true)
  digit_next e = rw add-one (digit_parts (get_or s i 0) (drop (suc i) s) (rw (← drop-cons s i 0 h) e))

  pub value_next : (v : ℕ) → value s ≡ value_after v (drop i s) → value s ≡ value_after (v * 10 + (get_or s i 0 - 48)) (drop (i + 1) s)
  unfolding value_after
  value_next v known = known ∙ rw (add-one, drop-cons s i 0)

pub value_done : (s : List ℕ) (i v : ℕ) → value s ≡ value_after v (drop i s) → length s ≤ i → v ≡ value s
unfolding value_after
value_done s i v known h = sym (known ∙ rw (drop_of_length-le s h))

pub grows : (v i d : ℕ) → v < 10 ^ i → d < 10 → v * 10 + d < 10 ^ (i + 1)
grows v i d h k = rw (add-one, pow-succ', mul_comm 10) (digits_lt h k)

pub small : (k v i : ℕ) → v < 10 ^ i → i ≤ k → v < 10 ^ k
small k v i h e = omega (arith, pow-le-pow_right {n = 10} (omega arith) e)
