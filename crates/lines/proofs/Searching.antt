-- The search for a line's end by words: how it goes on where no byte of a word is below 20, as CR is, and what is known at the first one.
use mathlib.Core.Path.{◌≡◌, refl, sym, ap, ◌∙◌}
use mathlib.Core.Bool.{Bool, true, false, not, ◌&&◌, true≢false}
use mathlib.Core.List.{List}
use Prim.Native.Nat.{ℕ, ◌+◌, ◌-◌, ◌/◌, ◌<◌, ◌≤◌}
use native.Mathlib.Omega.{arith}
use lib.Bits.{bit_and, bit_or, bit_xor}
use lib.Count.{count_trailing_zeros}
use lib.Dec.{leb}
use lib.ListN.{length, take, drop, get_or}
use lib.Seq.{get_or-drop, get_or-take, take-take}
use borrow.Author.Tests.{ne_eqb}
use Rattle.laws.specs.Lists.{any_of}
use Rattle.laws.proofs.Any.{weaker}
use Rattle.laws.specs.Tests.{is_byte}
use Rattle.text.specs.Characters.{is_plain, is_odd}
use Rattle.lines.specs.Lines.{crlf}
use Rattle.lines.specs.Reading.{after, line_at}
use Rattle.words.specs.Words.{bytes_of, is_control, is_above, Tells, Marks, flagged}
use Rattle.lines.proofs.Reading.{line_more, line_block}
use Rattle.words.proofs.Words.{odds_flagged, flagged_or, none_hit, FirstControl, first_control}

-- CR is below 20
no_cr : (b : ℕ) → is_control b ≡ false → is_byte 0x0d b ≡ false
no_cr b e = ne_eqb b 0x0d (λ q. true≢false (ap is_control (sym q) ∙ e))

-- the eight bytes at i, as a word, its marks and its odd bytes
module _ (s : List ℕ) (i w z o odd : ℕ) (fits : i + 8 ≤ length s) (holds : bytes_of 8 w ≡ take 8 (drop i s)) (marks : Marks w z) (tells : Tells is_above 8 w o) where
  -- a front of them was looked at
  past : (n m : ℕ) → n ≤ 8 → any_of is_control (take n (drop i s)) ≡ false → flagged m ≡ any_of is_odd (take n (drop i s))
      → after (flagged odd) (line_at s i) ≡ after (flagged (bit_or odd m)) (line_at s (i + n))
  past n m l e q =
      let d : i + n - i ≡ n = omega arith in
      line_block s i n (flagged odd) (flagged m) (omega arith) (weaker is_control (is_byte 0x0d) no_cr (take n (drop i s)) e) (q ∙ ap (λ (k : ℕ). any_of is_odd (take k (drop i s))) (sym d))
      ∙ ap (λ (t : Bool). after t (line_at s (i + n))) (sym (flagged_or odd m))

  -- none
  pub all_clear : z ≡ 0 → after (flagged odd) (line_at s i) ≡ after (flagged (bit_or odd o)) (line_at s (i + 8))
  all_clear e =
      let n : any_of is_control (bytes_of 8 w) ≡ false = none_hit w z marks e in
      past 8 o (omega arith) (ap (any_of is_control) (sym holds) ∙ n) (odds_flagged w o tells n ∙ ap (any_of is_odd) holds)

  -- one among them: its place, and that what stands before it was looked at
  module _ (some : z ≡ 0 → ⊥) where
    abbrev k : ℕ
    k = count_trailing_zeros 64 z / 8

    abbrev m : ℕ
    m = bit_xor z (z - 1) / 2

    f : FirstControl w o k m
    f = first_control w z o marks tells some

    pub hit_inside : k < 8
    hit_inside = f.inside

    pub hit_here : is_control (get_or s (i + k) 0) ≡ true
    hit_here =
        ap is_control (sym (get_or-drop i s k 0) ∙ sym (get_or-take 8 (drop i s) k 0 hit_inside) ∙ ap (λ (l : List ℕ). get_or l k 0) (sym holds))
        ∙ f.here

    front : take k (bytes_of 8 w) ≡ take k (drop i s)
    front = ap (take k) holds ∙ take-take k 8 (drop i s) (omega (arith, hit_inside))

    pub hit_passed : after (flagged odd) (line_at s i) ≡ after (flagged (bit_or odd (bit_and o m))) (line_at s (i + k))
    hit_passed =
        past k (bit_and o m) (omega (arith, hit_inside))
        (ap (any_of is_control) (sym front) ∙ f.clear)
        (f.kept ∙ ap (any_of is_odd) front)

-- a byte below 20 where no CR LF stands is an odd byte of its line
below_plain : (b : ℕ) → is_control b ≡ true → is_plain b ≡ false
below_plain b e = go (leb 0x20 b) e
  where
    go : (t : Bool) → not t ≡ true → (t && leb b 0x7E) ≡ false
    go true q = absurd (true≢false (sym q))
    go false q = refl

pub control_alone : (s : List ℕ) (i odd : ℕ) → i < length s → is_control (get_or s i 0) ≡ true → crlf (drop i s) ≡ false → after (flagged odd) (line_at s i) ≡ after (flagged (bit_or odd 0x80)) (line_at s (i + 1))
unfolding flagged
control_alone s i odd h e c =
    line_more s i (flagged odd) false h c (sym (below_plain (get_or s i 0) e)) ∙ ap (λ (t : Bool). after t (line_at s (i + 1))) (sym (flagged_or odd 0x80))
