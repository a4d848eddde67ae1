-- The run of bytes of a sort that a text begins with: how long it is, what stands in it, and that what follows it does not matter.
use Rattle.std.proofs.Common.{◌≡◌, ℕ, zero, suc, ◌+◌, ◌-◌, ◌%◌, ◌^◌, ◌<◌, ◌≤◌, min, Bool, true, false, cond, List, [], ◌∷◌, length, get_or, take, drop, refl, ◌∙◌, zero-le, le_of_suc-le-suc, not-suc-le-zero, arith, drop_of_length-le, length-take-le, drop-cons, leb, le-leb, leb-false, leb-true}
use borrow.Author.Tests.{lt-leb}
use Rattle.laws.proofs.Truth.{by_test}
use Rattle.text.specs.Digits.{is_digit, all_are_digits, value}
use Rattle.text.proofs.Widths.{value_lt}
use Rattle.text.proofs.Reading.{small}
use Rattle.figures.specs.Layouts.{run}
use Rattle.figures.specs.Described.{all_of}

at_most : (t : Bool) (n h : ℕ) → n ≤ h → cond t (suc n) 0 ≤ suc h
at_most true n h l = omega arith
at_most false n h l = zero-le

pub run_le : (f : ℕ → Bool) (h : ℕ) (s : List ℕ) → run f h s ≤ h
unfolding run
run_le f zero s = zero-le
run_le f (suc h) [] = zero-le
run_le f (suc h) (b ∷ s) = at_most (f b) (run f h s) h (run_le f h s)

pub run_length : (f : ℕ → Bool) (h : ℕ) (s : List ℕ) → run f h s ≤ length s
unfolding run
run_length f zero s = zero-le
run_length f (suc h) [] = zero-le
run_length f (suc h) (b ∷ s) = at_most (f b) (run f h s) (length s) (run_length f h s)

pub run_all : (f : ℕ → Bool) (h : ℕ) (s : List ℕ) → all_of f (take (run f h s) s) ≡ true
unfolding run all_of
run_all f zero s = refl
run_all f (suc h) [] = refl
run_all f (suc h) (b ∷ s) = go (f b) refl (run_all f h s)
  where
    go : (t : Bool) → f b ≡ t → all_of f (take (run f h s) s) ≡ true → all_of f (take (cond t (suc (run f h s)) 0) (b ∷ s)) ≡ true
    go true e r = rw (e, r)
    go false e r = refl

-- a run, taken alone
pub run_again : (f : ℕ → Bool) (h : ℕ) (s : List ℕ) → run f h (take (run f h s) s) ≡ run f h s
unfolding run
run_again f zero s = refl
run_again f (suc h) [] = refl
run_again f (suc h) (b ∷ s) = go (f b) refl (run_again f h s)
  where
    go : (t : Bool) → f b ≡ t → run f h (take (run f h s) s) ≡ run f h s → run f (suc h) (take (cond t (suc (run f h s)) 0) (b ∷ s)) ≡ cond t (suc (run f h s)) 0
    go true e r = rw (e, r)
    go false e r = refl

pub run_take : (f : ℕ → Bool) (h k : ℕ) (s : List ℕ) → h ≤ k → run f h (take k s) ≡ run f h s
unfolding run
run_take f zero k s l = refl
run_take f (suc h) zero s l = absurd (not-suc-le-zero l)
run_take f (suc h) (suc k) [] l = refl
run_take f (suc h) (suc k) (b ∷ s) l = rw (run_take f h k s (le_of_suc-le-suc l))

-- no run at a text's end, nor at a byte of another sort
pub run_nil : (f : ℕ → Bool) (h : ℕ) → run f h [] ≡ 0
unfolding run
run_nil f zero = refl
run_nil f (suc h) = refl

pub run_past : (f : ℕ → Bool) (h : ℕ) (t : List ℕ) (i : ℕ) → length t ≤ i → run f h (drop i t) ≡ 0
run_past f h t i l = rw (drop_of_length-le t l) (run_nil f h)

pub run_other : (f : ℕ → Bool) (h : ℕ) (t : List ℕ) (i : ℕ) → i < length t → f (get_or t i 0) ≡ false → run f h (drop i t) ≡ 0
unfolding run
run_other f zero t i l e = refl
run_other f (suc h) t i l e = rw (drop-cons t i 0 l, e)

-- at most so many from a place on: none is left where those, or the text, end
pub run_ended : (f : ℕ → Bool) (t : List ℕ) (at most stop i : ℕ) → stop ≡ min (length t) (at + most) → stop ≤ i → run f (at + most - i) (drop i t) ≡ 0
unfolding run
run_ended f t at most stop i u h = by_test (leb (length t) i)
    (λ e. run_past f (at + most - i) t i (leb-true (length t) i e))
    (λ e. let z : at + most - i ≡ 0 = omega (arith, u, leb-false (length t) i e) in rw z)

-- a byte, less 48 by remainder of 256: below 10 that is a digit, and above 9 no byte that is one
module _ (b d : ℕ) (byte : b < 2 ^ 8) (wraps : d ≡ (b + 208) % 256) where
  pub digit_by : d ≤ 9 → (is_digit b ≡ true) × (b - 48 ≡ d)
  digit_by l =
      let low : leb 48 b ≡ true = le-leb 48 b (omega arith) in
      let high : leb b 57 ≡ true = le-leb b 57 (omega arith) in
      (rw (low, high), omega arith)

  pub other_by : 9 < d → is_digit b ≡ false
  other_by k = by_test (leb 48 b)
      (λ e. let high : leb b 57 ≡ false = lt-leb b 57 (omega (arith, leb-true 48 b e)) in rw (e, high))
      (λ e. rw e)

-- a run of digits
pub all_digits : (s : List ℕ) → all_are_digits s ≡ all_of is_digit s
unfolding all_are_digits all_of
all_digits [] = refl
all_digits (b ∷ s) = rw (all_digits s)

pub run_digits : (h : ℕ) (s : List ℕ) → all_are_digits (take (run is_digit h s) s) ≡ true
run_digits h s = all_digits (take (run is_digit h s) s) ∙ run_all is_digit h s

pub run_value : (h : ℕ) (s : List ℕ) → value (take (run is_digit h s) s) < 10 ^ h
run_value h s =
    let l : length (take (run is_digit h s) s) ≡ run is_digit h s = length-take-le (run is_digit h s) s (run_length is_digit h s) in
    small h (value (take (run is_digit h s) s)) (run is_digit h s) (rw l at (value_lt (take (run is_digit h s) s) (run_digits h s))) (run_le is_digit h s)
