-- The bytes of a word are those that std reads it from.
use Rattle.std.proofs.Common.{◌≡◌, ℕ, zero, suc, ◌+◌, ◌-◌, ◌/◌, ◌^◌, ◌<◌, ◌≤◌, ◌%◌, List, ◌∷◌, length, get_or, take, drop, refl, sym, ap, ap₂, ◌∙◌, arith, length-take, length-drop, get_or-drop}
use Rattle.std.proofs.Math.Nat.{div-one, div-div-eq-div-mul, pow-suc}
use Rattle.std.proofs.Math.Seq.{get_or-take}
use Rattle.std.specs.Int.{w64, bytes_low_first, from_le_bytes}
use Rattle.std.proofs.lemmas.Nat.{le_bytes_8}
use Rattle.std.proofs.lemmas.Bool.{cases_lt}
use Rattle.std.proofs.Common.{⊎_elim}
use Rattle.std.proofs.lemmas.List.{get_or_past}
use Rattle.words.specs.Words.{bytes_of}

above : (i n : ℕ) → n / 256 ^ i / 256 ≡ n / 256 ^ suc i
above i n = div-div-eq-div-mul n (256 ^ i) 256 ∙ ap (λ (m : ℕ). n / m) (sym (pow-suc 256 i))

bytes_from : (i k n : ℕ) → bytes_of k (n / 256 ^ i) ≡ bytes_low_first i k n
unfolding bytes_of
bytes_from i zero n = refl
bytes_from zero (suc k) n = ap₂ (λ (x : ℕ) (t : List ℕ). x % 256 ∷ t) (div-one n) (ap (bytes_of k) (above 0 n) ∙ bytes_from 1 k n)
bytes_from (suc i) (suc k) n = ap (λ (t : List ℕ). n / 256 ^ suc i % 256 ∷ t) (ap (bytes_of k) (above (suc i) n) ∙ bytes_from (suc (suc i)) k n)

-- b is the eight bytes from i on
module _ (s : List ℕ) (i : ℕ) (fits : i + 8 ≤ length s) (byte : (k : ℕ) → get_or s k 0 < 256) {b : List ℕ} (part : b ≡ take (i + 8 - i) (drop i s)) where
  same : b ≡ take 8 (drop i s)
  same = let eight : i + 8 - i ≡ 8 = omega arith in part ∙ ap (λ (n : ℕ). take n (drop i s)) eight

  long : length b ≡ 8
  long = ap length same ∙ simp (length-take, length-drop) (omega arith)

  each : (k : ℕ) → get_or b k 0 < 256
  each k = ⊎_elim (λ (h : k < 8). rw (same, get_or-take 8 (drop i s) k 0 h, get_or-drop i s k 0) (byte (i + k))) (λ (h : 8 ≤ k). let n : length b ≤ k = omega (arith, long) in rw (get_or_past b k 0 n) (omega arith)) (cases_lt k 8)

  pub loaded : (w : ℕ) → w ≡ from_le_bytes w64 b → bytes_of 8 w ≡ take 8 (drop i s)
  loaded w e = ap (bytes_of 8) (sym (div-one w)) ∙ bytes_from 0 8 w ∙ le_bytes_8 b w long each e ∙ same
