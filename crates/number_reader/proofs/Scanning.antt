-- A loop that reads digits: at place i, the digits that are left, after the number read so far, give what all of them give.
use Rattle.std.proofs.Common.{◌≡◌, ℕ, suc, ◌+◌, ◌-◌, ◌*◌, ◌%◌, ◌^◌, ◌<◌, ◌≤◌, min, true, List, ◌∷◌, length, get_or, drop, sym, refl, ◌∙◌, add-one, arith, drop-cons}
use native.Mathlib.Nat.{one-le-pow}
use Rattle.text.specs.Digits.{is_digit, value_after}
use Rattle.text.proofs.Reading.{grows, small}
use Rattle.number_reader.specs.declared.Run.{Run}
use Rattle.figures.specs.Layouts.{run}
use Rattle.number_reader.specs.Numbers.{digits_from, number_at}
use Rattle.figures.proofs.Runs.{run_ended, run_other, digit_by, other_by}

pub same_run : {a b c d : ℕ} → a ≡ b → c ≡ d → ◌≡◌ {A = Run} (record { value = a; end = c }) (record { value = b; end = d })
same_run p q = rw (p, q)

-- digits that are at their end
stopped : (v i : ℕ) (s : List ℕ) (k : ℕ) → run is_digit k s ≡ 0 → digits_from k v i s ≡ record { value = v; end = i }
unfolding value_after
stopped v i s k e = rw e (same_run refl (omega arith))

digit_first : (b : ℕ) (s : List ℕ) (k v i : ℕ) → is_digit b ≡ true → digits_from (suc k) v i (b ∷ s) ≡ digits_from k (v * 10 + (b - 48)) (i + 1) s
unfolding run value_after
digit_first b s k v i e = rw e (same_run refl (omega arith))

-- what holds at the loop's head
pub record Going (t : List ℕ) (at most stop v i : ℕ) : Type 0 where
  pub few : most ≤ 19
  pub until : stop ≡ min (length t) (at + most)
  pub same : number_at most t at ≡ digits_from (at + most - i) v i (drop i t)
  pub past : at ≤ i
  pub inside : i ≤ stop
  pub below : v < 10 ^ (i - at)

-- what is answered
abbrev pub Answer : List ℕ → ℕ → ℕ → ℕ → ℕ → Type 0
Answer t at most v i = (record { value = v; end = i } ≡ number_at most t at) × (at ≤ i) × (i ≤ length t) × (v < 10 ^ most)

pub first : (t : List ℕ) (at most stop : ℕ) → (at ≤ length t) × (most ≤ 19) → stop ≡ min (length t) (at + most) → Going t at most stop 0 at
first t at most stop h e =
    let m : at + most - at ≡ most = omega arith in
    record { few = h.1; until = e; same = rw m refl; past = omega arith; inside = omega (arith, h.0); below = one-le-pow (at - at) 10 (omega arith) }

module _ (t : List ℕ) (at most stop v i : ℕ) (g : Going t at most stop v i) where
  answered : run is_digit (at + most - i) (drop i t) ≡ 0 → Answer t at most v i
  answered e =
      (sym (g.same ∙ stopped v i (drop i t) (at + most - i) e), g.past, omega (arith, g.until, g.inside), small most v (i - at) g.below (omega (arith, g.until, g.inside)))

  -- so many digits, or the text's end
  pub ended : stop ≤ i → Answer t at most v i
  ended h = answered (run_ended is_digit t at most stop i g.until h)

  -- the number so far, while there is room
  pub room : i < stop → v < 10 ^ 18
  room h = small 18 v (i - at) g.below (omega (arith, g.few, g.until))

  -- a byte, less 48 by remainder of 256
  module _ (d : ℕ) (h : i < stop) (byte : get_or t i 0 < 2 ^ 8) (wraps : d ≡ (get_or t i 0 + 208) % 256) where
    pub next : d ≤ 9 → Going t at most stop (v * 10 + d) (i + 1)
    next l =
        let b = digit_by (get_or t i 0) d byte wraps l in
        let m : at + most - i ≡ suc (at + most - (i + 1)) = omega (arith, g.until) in
        let j : i + 1 - at ≡ i - at + 1 = omega (arith, g.past) in
        record {
          few = g.few;
          until = g.until;
          same = g.same ∙ rw (m, drop-cons t i 0 (omega (arith, g.until))) (rw (← add-one i) (rw (← b.1) (digit_first (get_or t i 0) (drop (i + 1) t) (at + most - (i + 1)) v i b.0)));
          past = omega (arith, g.past);
          inside = omega arith;
          below = rw j (grows v (i - at) d g.below (omega arith));
        }

    pub other : 9 < d → Answer t at most v i
    other k = answered (run_other is_digit (at + most - i) t i (omega (arith, g.until)) (other_by (get_or t i 0) d byte wraps k))
