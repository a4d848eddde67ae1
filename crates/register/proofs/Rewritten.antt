-- The other way round: the bytes of a register, read and written again in its version, are the same bytes.
use mathlib.Core.Path.{◌≡◌, refl, sym, ap, ◌∙◌}
use mathlib.Core.Bool.{true, ◌&&◌, false≢true}
use mathlib.Core.List.{List, [], ◌∷◌, ◌++◌, append_assoc}
use Prim.Native.Nat.{ℕ, zero, suc, ◌+◌, ◌*◌, ◌≤◌}
use native.Mathlib.Omega.{arith}
use lib.Dec.{eqb, leb}
use lib.ListN.{length, take, drop, length-drop}
use lib.Seq.{drop-drop, length-take-le}
use borrow.Author.Tests.{eqb-true}
use Rattle.laws.specs.Ascii.{ascii}
use Rattle.laws.proofs.Truth.{and_parts}
use Rattle.text.specs.Strings.{begins}
use Rattle.register.specs.Bytes.{big, big_after, big_at, Small}
use Rattle.register.specs.Register.{ranges_bytes, bytes_in, ranges_in, count_in, register_of, most_of, is_version, version_in, size_of, has_layout, well_formed, is_register}
use Rattle.register.proofs.Widths.{written_read}

-- ---- bytes cut into pieces
small_take : (n : ℕ) (s : List ℕ) → Small s → Small (take n s)
small_take zero s S = tt
small_take (suc n) [] S = tt
small_take (suc n) (b ∷ s) S = (S.0, small_take n s S.1)

small_drop : (n : ℕ) (s : List ℕ) → Small s → Small (drop n s)
small_drop zero s S = S
small_drop (suc n) [] S = tt
small_drop (suc n) (b ∷ s) S = small_drop n s S.1

cut : (n : ℕ) (s : List ℕ) → s ≡ take n s ++ drop n s
cut zero s = refl
cut (suc n) [] = refl
cut (suc n) (b ∷ s) = ap (λ (l : List ℕ). b ∷ l) (cut n s)

-- what is left from a place on, cut after n bytes
piece : (k n : ℕ) (s : List ℕ) → drop k s ≡ take n (drop k s) ++ drop (k + n) s
piece k n s = cut n (drop k s) ∙ ap (λ (l : List ℕ). take n (drop k s) ++ l) (drop-drop n k s)

-- the number in n bytes, written again
module _ (s : List ℕ) (S : Small s) where
  again : (n k : ℕ) → k + n ≤ length s → big n (big_at n k s) ≡ take n (drop k s)
  unfolding big_at
  again n k h =
      let l : length (take n (drop k s)) ≡ n = length-take-le n (drop k s) (omega (arith, length-drop k s)) in
      ap (λ (m : ℕ). big m (big_after 0 (take n (drop k s)))) (sym l) ∙ written_read (take n (drop k s)) (small_take n (drop k s) (small_drop k s S))

-- ---- ranges
pub length_ranges : (n : ℕ) (s : List ℕ) → length (ranges_in n s) ≡ n
length_ranges zero s = refl
length_ranges (suc n) s = ap suc (length_ranges n (drop 12 s))

ranges_again : (n : ℕ) (s : List ℕ) → Small s → length s ≡ 12 * n → ranges_bytes (ranges_in n s) ≡ s
ranges_again zero [] S e = refl
ranges_again zero (b ∷ s) S e = absurd (omega arith)
ranges_again (suc n) s S e =
    let a = again s S 4 0 (omega arith) in
    let b = again s S 4 4 (omega arith) in
    let c = again s S 4 8 (omega arith) in
    let t = ranges_again n (drop 12 s) (small_drop 12 s S) (omega (arith, length-drop 12 s)) in
    (λ i. (a i ++ (b i ++ c i)) ++ t i) ∙ in_row (take 4 (drop 0 s)) (take 4 (drop 4 s)) (take 4 (drop 8 s)) (drop 12 s) ∙ sym (whole s)
  where
    in_row : (a b c t : List ℕ) → (a ++ (b ++ c)) ++ t ≡ a ++ (b ++ (c ++ t))
    in_row a b c t = simp append_assoc

    whole : (s : List ℕ) → s ≡ take 4 (drop 0 s) ++ (take 4 (drop 4 s) ++ (take 4 (drop 8 s) ++ drop 12 s))
    whole s =
        piece 0 4 s
        ∙ ap (λ (l : List ℕ). take 4 (drop 0 s) ++ l) (piece 4 4 s ∙ ap (λ (l : List ℕ). take 4 (drop 4 s) ++ l) (piece 8 4 s))

-- ---- the whole
begins_front : (s x : List ℕ) → begins s x ≡ true → x ≡ take (length x) s
unfolding begins
begins_front s [] e = refl
begins_front [] (b ∷ bs) e = absurd (false≢true e)
begins_front (a ∷ s) (b ∷ bs) e =
    let p = and_parts (eqb a b) (begins s bs) e in
    let q = sym (eqb-true a b p.0) in
    let t = begins_front s bs p.1 in
    λ i. q i ∷ t i

pub written_back : (s : List ℕ) → Small s → is_register s ≡ true → bytes_in (version_in s) (register_of s) ≡ s
written_back s S e =
    let l = (and_parts (has_layout s) (well_formed (register_of s)) e).0 in
    let a = and_parts (begins s (ascii "CRG")) (is_version (version_in s) && (leb (count_in s) (most_of (version_in s)) && eqb (length s) (size_of (count_in s)))) l in
    let b = and_parts (is_version (version_in s)) (leb (count_in s) (most_of (version_in s)) && eqb (length s) (size_of (count_in s))) a.1 in
    let c = and_parts (leb (count_in s) (most_of (version_in s))) (eqb (length s) (size_of (count_in s))) b.1 in
    let z : length s ≡ 13 + 12 * count_in s = eqb-true (length s) (size_of (count_in s)) c.1 in
    let m : ascii "CRG" ≡ take 3 (drop 0 s) = begins_front s (ascii "CRG") a.0 in
    let v = again s S 2 3 (omega arith) in
    let k = again s S 2 5 (omega arith) in
    let t = again s S 4 7 (omega arith) in
    let n : big 2 (length (ranges_in (count_in s) (drop 13 s))) ≡ take 2 (drop 11 s) = ap (big 2) (length_ranges (count_in s) (drop 13 s)) ∙ again s S 2 11 (omega arith) in
    let r = ranges_again (count_in s) (drop 13 s) (small_drop 13 s S) (omega (arith, length-drop 13 s)) in
    (λ i. (m i ++ (v i ++ (k i ++ (t i ++ n i)))) ++ r i)
    ∙ in_row (take 3 (drop 0 s)) (take 2 (drop 3 s)) (take 2 (drop 5 s)) (take 4 (drop 7 s)) (take 2 (drop 11 s)) (drop 13 s) ∙ sym whole
  where
    in_row : (a b c d e t : List ℕ) → (a ++ (b ++ (c ++ (d ++ e)))) ++ t ≡ a ++ (b ++ (c ++ (d ++ (e ++ t))))
    in_row a b c d e t = simp append_assoc

    whole : s ≡ take 3 (drop 0 s) ++ (take 2 (drop 3 s) ++ (take 2 (drop 5 s) ++ (take 4 (drop 7 s) ++ (take 2 (drop 11 s) ++ drop 13 s))))
    whole =
        piece 0 3 s
        ∙ ap (λ (l : List ℕ). take 3 (drop 0 s) ++ l) (piece 3 2 s
        ∙ ap (λ (l : List ℕ). take 2 (drop 3 s) ++ l) (piece 5 2 s ∙ ap (λ (l : List ℕ). take 2 (drop 5 s) ++ l) (piece 7 4 s ∙ ap (λ (l : List ℕ). take 4 (drop 7 s) ++ l) (piece 11 2 s))))
