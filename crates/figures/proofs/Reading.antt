-- A loop that reads the digits of a part: at place i, what is left, after the sum and the bits so far, gives what all of them give. And
-- what the two tell of the part.
use Rattle.std.proofs.Common.{◌≡◌, ℕ, suc, ◌+◌, ◌-◌, ◌*◌, ◌%◌, ◌^◌, ◌<◌, ◌≤◌, min, Bool, true, false, not, eqb, List, [], ◌∷◌, length, get_or, take, drop, sym, refl, ap, ◌∙◌, pow-suc, add-one, arith, take_all, drop-cons, pow_mono, ne_eqb, eqb-true}
use lib.Bits.{bit_or, or_add_and, and_le_r}
use lib.Dec.{leb-zero}
use borrow.Author.Tests.{eqb-false}
use Rattle.text.specs.Digits.{is_digit, value, value_after}
use Rattle.std.specs.Prelude.{Some, None}
use Rattle.figures.specs.declared.parts.Weighed.{Weighed}
use Rattle.figures.specs.Layouts.{run, fits}
use Rattle.figures.specs.Parts.{doubled_after, bits_after, weighed_from, weighed_at}
use Rattle.figures.specs.Accounts.{passes, part_of}
use Rattle.figures.proofs.Runs.{run_ended, run_other, digit_by, other_by}
use Rattle.figures.proofs.Endings.{empty_past, empty_before}
use Rattle.figures.proofs.Weights.{doubled_passes}

same_weighed : {a b c d e f : ℕ} → a ≡ b → c ≡ d → e ≡ f → ◌≡◌ {A = Weighed} (record { sum = a; any = c; end = e }) (record { sum = b; any = d; end = f })
same_weighed p q r = rw (p, q, r)

-- digits that are at their end
stopped : (k sum any i : ℕ) (s : List ℕ) → run is_digit k s ≡ 0 → weighed_from k sum any i s ≡ record { sum = sum; any = any; end = i }
unfolding doubled_after bits_after
stopped k sum any i s e = rw e (same_weighed refl refl (omega arith))

digit_first : (k sum any i b : ℕ) (s : List ℕ) → is_digit b ≡ true
    → weighed_from (suc k) sum any i (b ∷ s) ≡ weighed_from k (2 * sum + (b - 48)) (bit_or any (b - 48)) (i + 1) s
unfolding run doubled_after bits_after
digit_first k sum any i b s e = rw e (same_weighed refl refl (omega arith))

-- what holds at the loop's head
pub record Read (t : List ℕ) (at most stop sum any i : ℕ) : Type 0 where
  pub few : most ≤ 10
  pub until : stop ≡ min (length t) (at + most)
  pub same : weighed_at most t at ≡ weighed_from (at + most - i) sum any i (drop i t)
  pub past : at ≤ i
  pub inside : i ≤ stop
  pub small : sum + 9 ≤ 9 * 2 ^ (i - at)

-- what is answered
abbrev pub Answer : List ℕ → ℕ → ℕ → ℕ → ℕ → ℕ → Type 0
Answer t at most sum any i = (record { sum = sum; any = any; end = i } ≡ weighed_at most t at) × (at ≤ i) × (i ≤ length t)

pub read_start : (t : List ℕ) (at most stop : ℕ) → (at ≤ length t) × (most ≤ 10) → stop ≡ min (length t) (at + most) → Read t at most stop 0 0 at
read_start t at most stop h e =
    let m : at + most - at ≡ most = omega arith in
    let z : at - at ≡ 0 = omega arith in
    record { few = h.1; until = e; same = rw m; past = omega arith; inside = omega (arith, h.0); small = rw z (omega arith) }

module _ (t : List ℕ) (at most stop sum any i : ℕ) (r : Read t at most stop sum any i) where
  pub sum_le : sum ≤ 9207
  sum_le = omega (arith, r.small, pow_mono {i = i - at} {j = 10} (omega (arith, r.few, r.until, r.inside)))

  answered : run is_digit (at + most - i) (drop i t) ≡ 0 → Answer t at most sum any i
  answered e = (sym (r.same ∙ stopped (at + most - i) sum any i (drop i t) e), r.past, omega (arith, r.until, r.inside))

  -- so many digits, or the text's end
  pub read_end : stop ≤ i → Answer t at most sum any i
  read_end h = answered (run_ended is_digit t at most stop i r.until h)

  -- a byte, less 48 by remainder of 256
  module _ (d : ℕ) (h : i < stop) (byte : get_or t i 0 < 2 ^ 8) (wraps : d ≡ (get_or t i 0 + 208) % 256) where
    -- a digit
    pub read_more : d ≤ 9 → Read t at most stop (2 * sum + d) (bit_or any d) (i + 1)
    read_more l =
        let b = digit_by (get_or t i 0) d byte wraps l in
        let m : at + most - i ≡ suc (at + most - (i + 1)) = omega (arith, r.until) in
        let j : i + 1 - at ≡ suc (i - at) = omega (arith, r.past) in
        record {
          few = r.few;
          until = r.until;
          same = r.same ∙ rw (m, drop-cons t i 0 (omega (arith, r.until))) (rw (← add-one i) (rw (← b.1) (digit_first (at + most - (i + 1)) sum any i (get_or t i 0) (drop (i + 1) t) b.0)));
          past = omega (arith, r.past);
          inside = omega arith;
          small = let q : 2 ^ (i + 1 - at) ≡ 2 ^ (i - at) * 2 = ap (λ (k : ℕ). 2 ^ k) j ∙ pow-suc 2 (i - at) in omega (arith, r.small);
        }

    -- any other
    pub read_other : 9 < d → Answer t at most sum any i
    read_other k = answered (run_other is_digit (at + most - i) t i (omega (arith, r.until)) (other_by (get_or t i 0) d byte wraps k))

-- the bits are 0 where the number is
both_zero : (a d v : ℕ) → eqb a 0 ≡ eqb v 0 → eqb (bit_or a d) 0 ≡ eqb (v * 10 + d) 0
both_zero a d v e = go (eqb a 0) refl (sym e)
  where
    go : (t : Bool) → eqb a 0 ≡ t → eqb v 0 ≡ eqb a 0 → eqb (bit_or a d) 0 ≡ eqb (v * 10 + d) 0
    go true p q =
        let za : a ≡ 0 = eqb-true a 0 p in
        let zv : v ≡ 0 = eqb-true v 0 (q ∙ p) in
        let m : v * 10 + d ≡ d = omega arith in
        rw (za, m)
    go false p q =
        let na : a ≡ 0 → ⊥ = eqb-false a 0 p in
        let nv : v ≡ 0 → ⊥ = eqb-false v 0 (q ∙ p) in
        ne_eqb (bit_or a d) 0 (λ z. omega (arith, or_add_and a d, and_le_r a d)) ∙ sym (ne_eqb (v * 10 + d) 0 (λ z. omega arith))

bits_zero : (a v : ℕ) (s : List ℕ) → eqb a 0 ≡ eqb v 0 → eqb (bits_after a s) 0 ≡ eqb (value_after v s) 0
unfolding bits_after value_after
bits_zero a v [] e = e
bits_zero a v (b ∷ s) e = bits_zero (bit_or a (b - 48)) (v * 10 + (b - 48)) s (both_zero a (b - 48) v e)

-- what is told of a part by its digits' sum and bits
module _ (k : ℕ) (t : List ℕ) (at : ℕ) {w : Weighed} (e : w ≡ weighed_at k t at) where
  pub end_is : w.end ≡ at + run is_digit k (drop at t)
  end_is = ap (λ (x : Weighed). x.end) e

  pub passes_is : eqb (w.sum % 11) 0 ≡ passes (take (run is_digit k (drop at t)) (drop at t))
  passes_is = ap (λ (x : Weighed). eqb (x.sum % 11) 0) e ∙ doubled_passes (take (run is_digit k (drop at t)) (drop at t))

  pub zero_is : eqb w.any 0 ≡ eqb (value (take (run is_digit k (drop at t)) (drop at t))) 0
  zero_is = ap (λ (x : Weighed). eqb x.any 0) e ∙ bits_zero 0 0 (take (run is_digit k (drop at t)) (drop at t)) refl

-- a part alone
module _ (k : ℕ) (s : List ℕ) {w : Weighed} (e : w ≡ weighed_at k s 0) where
  length_is : run is_digit k s ≡ w.end
  length_is = omega (arith, end_is k s 0 e)

  pub no_part : w.end < length s → None ≡ part_of k s
  unfolding part_of fits
  no_part h = rw (length_is, empty_before s w.end h, leb-zero w.end)

  pub is_part : length s ≤ w.end → Some (record { some = not (eqb w.any 0); passes = eqb (w.sum % 11) 0 }) ≡ part_of k s
  unfolding part_of fits
  is_part h =
      let a : take (run is_digit k s) s ≡ s = rw length_is (take_all w.end s h) in
      rw (zero_is k s 0 e, passes_is k s 0 e, a, length_is, empty_past s w.end h, leb-zero w.end)
