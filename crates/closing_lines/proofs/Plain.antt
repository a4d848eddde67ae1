-- The bytes of a closing item's lines are plain: digits, letters, a colon, spaces. So none of them is inadmissible, a CR or the end mark.
use mathlib.Core.Path.{◌≡◌, refl, sym, ap, ◌∙◌}
use mathlib.Core.Bool.{Bool, true, false, true≢false}
use mathlib.Core.List.{List, [], ◌∷◌, ◌++◌}
use Prim.Native.Nat.{ℕ, suc}
use native.Mathlib.Omega.{arith}
use lib.Dec.{eqb}
use borrow.Author.Tests.{le-leb, eqb-true}
use Rattle.laws.specs.Ascii.{ascii}
use Rattle.laws.specs.Lists.{any_of}
use Rattle.laws.specs.Tests.{is_byte}
use Rattle.laws.proofs.Any.{or_left, weaker, any_append}
use Rattle.laws.proofs.Truth.{never_true, by_test}
use Rattle.text.specs.Characters.{is_inadmissible, is_odd}
use Rattle.text.specs.Digits.{all_are_digits}
use Rattle.text.specs.Decimals.{decimal}
use Rattle.text.proofs.Admissible.{odd_asked}
use Rattle.text.proofs.Widths.{digit_parts}
use Rattle.text.proofs.Shortest.{decimal_digits}
use Rattle.lines.proofs.Texts.{free}
use Rattle.closing_lines.specs.Closing.{in_text, sum_text, sum_texts_from, closing_texts}

-- ---- no byte is odd

digits_plain : (bs : List ℕ) → all_are_digits bs ≡ true → any_of is_odd bs ≡ false
unfolding any_of
digits_plain [] e = refl
digits_plain (b ∷ bs) e =
    let p = digit_parts b bs e in
    rw (le-leb 0x20 b (omega (arith, p.0)), le-leb b 0x7E (omega (arith, p.1))) (digits_plain bs p.2)

decimal_plain : (v : ℕ) → any_of is_odd (decimal v) ≡ false
decimal_plain v = digits_plain (decimal v) (decimal_digits v)

-- a number before more that is plain
number_first : (v : ℕ) (s : List ℕ) → any_of is_odd s ≡ false → any_of is_odd (decimal v ++ s) ≡ false
number_first v s e = any_append is_odd (decimal v) s ∙ rw (decimal_plain v, e)

pub in_plain : (a b : ℕ) → any_of is_odd (in_text a b) ≡ false
unfolding any_of
in_plain a b = number_first a (ascii " " ++ decimal b) (decimal_plain b)

pub sum_plain : (d n t : ℕ) → any_of is_odd (sum_text d n t) ≡ false
unfolding any_of
sum_plain d n t = number_first d (ascii ":" ++ (decimal n ++ (ascii " " ++ decimal t))) (number_first n (ascii " " ++ decimal t) (decimal_plain t))

-- ---- so none passes a test that odd bytes alone pass

module _ (f : ℕ → Bool) (w : (x : ℕ) → is_odd x ≡ false → f x ≡ false) where
  free_cons : (t : List ℕ) (ts : List (List ℕ)) → any_of is_odd t ≡ false → free f ts ≡ true → free f (t ∷ ts) ≡ true
  unfolding free
  free_cons t ts e r = rw (weaker is_odd f w t e) r

  sums_free : (d : ℕ) (ns ts : List ℕ) → free f (sum_texts_from d ns ts) ≡ true
  unfolding sum_texts_from free
  sums_free d [] ts = refl
  sums_free d (n ∷ ns) [] = refl
  sums_free d (n ∷ ns) (t ∷ ts) = by_test (eqb n 0)
      (λ q. rw q (sums_free (suc d) ns ts))
      (λ q. rw q (free_cons (sum_text d n t) (sum_texts_from (suc d) ns ts) (sum_plain d n t) (sums_free (suc d) ns ts)))

  pub closing_free : (a b : ℕ) (counts sums : List ℕ) → free f (closing_texts a b counts sums) ≡ true
  unfolding closing_texts
  closing_free a b counts sums = free_cons (in_text a b) (sum_texts_from 0 counts sums) (in_plain a b) (sums_free 0 counts sums)

-- ---- such tests: an inadmissible byte, and a byte that is odd

odd_alone : (k x : ℕ) → is_odd k ≡ true → is_odd x ≡ false → is_byte k x ≡ false
odd_alone k x o e = never_true (is_byte k x) (λ q. true≢false (sym o ∙ sym (ap is_odd (eqb-true x k q)) ∙ e))

pub not_cr : (x : ℕ) → is_odd x ≡ false → is_byte 0x0d x ≡ false
not_cr x e = odd_alone 0x0d x refl e

pub not_mark : (x : ℕ) → is_odd x ≡ false → is_byte 0x1a x ≡ false
not_mark x e = odd_alone 0x1a x refl e

pub not_inadmissible : (x : ℕ) → is_odd x ≡ false → is_inadmissible x ≡ false
unfolding any_of
not_inadmissible x e = or_left (is_inadmissible x) false (sym (odd_asked (x ∷ [])) ∙ rw e)
