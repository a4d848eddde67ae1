-- Laws of words of bytes: what a sum does to the bytes up to the first that carries, what high bits tell of a word, and that the first
-- mark cuts off what stands after it.
use Rattle.std.proofs.Common.{◌≡◌, ℕ, zero, suc, ◌+◌, ◌-◌, ◌*◌, ◌/◌, ◌%◌, ◌^◌, ◌<◌, ◌≤◌, min, Bool, true, false, cond, not, ◌||◌, T, eqb, leb, List, [], ◌∷◌, get_or, take, sym, refl, ap, ◌∙◌, subst, ap₂, subst₂, mod-lt, mul_assoc, suc-add, pow-suc, div-add-mod', zero-add, mul-one, arith, eqb→eq, ne_eqb, le-leb, leb-false, leb-true}
use mathlib.Core.Bool.{or-false, false≢true}
use lib.Arith.{bin_ind, digits_div, digits_mod}
use lib.Bits.{bit_and, bit_or, bit_xor, and_block, xor_block, and_step, and_zero_r, xor_self, or_add_and, or_lt, and_le_l, and_le_r, and_shr, or_shr, xor_shr, and_mod, or_mod, xor_mod, shifted_half, shifted_even}
use lib.Count.{under, count_trailing_zeros}
use borrow.Author.Tests.{lt-leb, not-false}
use Rattle.laws.specs.Lists.{any_of}
use Rattle.laws.proofs.Any.{or_left, or_right}
use Rattle.laws.proofs.Finite.{below, at, agree}
use Rattle.text.specs.Characters.{is_odd}
use Rattle.words.specs.Words.{bytes_of, is_control, is_above, is_high, Tells, Marks, flagged}

low : (w : ℕ) → w % 256 < 256
low w = mod-lt w (omega arith)

-- ---- n bytes b, and their sum with a word

unfoldable fill : ℕ → ℕ → ℕ
fill b zero = 0
fill b (suc n) = fill b n * 256 + b

fill_low : (b n : ℕ) → b < 256 → fill b (suc n) % 256 ≡ b
unfolding fill
fill_low b n h = digits_mod (fill b n) h

fill_up : (b n : ℕ) → b < 256 → fill b (suc n) / 256 ≡ fill b n
unfolding fill
fill_up b n h = digits_div (fill b n) h

-- y is the sum, but for what goes past n bytes
record Sum (b n x y : ℕ) : Type 0 where
  past : ℕ
  total : x + fill b n ≡ y + past * 256 ^ n

sum_of : (b x y : ℕ) → (x + fill b 8) % 2 ^ 64 ≡ y → Sum b 8 x y
sum_of b x y e = record { past = (x + fill b 8) / 2 ^ 64; total = omega (arith, div-add-mod' (x + fill b 8) (2 ^ 64)) }

module _ (b n x y : ℕ) (s : Sum b (suc n) x y) where
  sum_all : x + (fill b n * 256 + b) ≡ y + s.past * 256 ^ n * 256
  unfolding fill
  sum_all = s.total ∙ ap (λ (p : ℕ). y + p) (ap (λ (p : ℕ). s.past * p) (pow-suc 256 n) ∙ sym (mul_assoc s.past (256 ^ n) 256))

  -- the lowest byte; where it does not carry, the bytes above it are a sum of their own
  sum_low : y % 256 ≡ (x % 256 + b) % 256
  sum_low = omega (arith, sum_all)

  sum_up : x % 256 + b < 256 → Sum b n (x / 256) (y / 256)
  sum_up h = record { past = s.past; total = omega (arith, sum_all) }

-- ---- what the high bits of a word tell of another

tells_none : (f : ℕ → Bool) (w r : ℕ) → Tells f 0 w r
unfolding Tells bytes_of any_of
tells_none f w r zero = refl
tells_none f w r (suc k) = refl

tells_more : (f : ℕ → Bool) (n w r : ℕ) → is_high (r % 256) ≡ f (w % 256) → (f (w % 256) ≡ false → Tells f n (w / 256) (r / 256)) → Tells f (suc n) w r
unfolding Tells bytes_of any_of
tells_more f n w r e up zero = refl
tells_more f n w r e up (suc k) = go (f (w % 256)) refl
  where
    go : (t : Bool) → f (w % 256) ≡ t → (is_high (r % 256) || any_of is_high (take k (bytes_of n (r / 256)))) ≡ (f (w % 256) || any_of f (take k (bytes_of n (w / 256))))
    go true q = rw (e, q)
    go false q = rw (e, q) (up q k)

-- w is d with 20 added to each byte: up to the first that carries one is below 20 where it carries, and there d is high and w is not
abbrev marked : ℕ → ℕ → ℕ → ℕ
marked h w d = bit_and (bit_and d (bit_xor w h)) h

marked_low : (n w d : ℕ) → Sum 0x20 (suc n) d w → is_high (marked (fill 0x80 (suc n)) w d % 256) ≡ is_control (w % 256)
marked_low n w d s =
    let h : ℕ = fill 0x80 (suc n) in
    ap is_high (and_mod (bit_and d (bit_xor w h)) h 8 ∙ ap (λ (x : ℕ). bit_and x (h % 256)) (and_mod d (bit_xor w h) 8 ∙ ap (bit_and (d % 256)) (xor_mod w h 8)))
    ∙ ap₂ (λ (x y : ℕ). is_high (marked x y (d % 256))) (fill_low 0x80 n (omega arith)) (sum_low 0x20 n d w s)
    ∙ agree (λ b. is_high (marked 0x80 ((b + 0x20) % 256) b)) (λ b. is_control ((b + 0x20) % 256)) 256 tt (d % 256) (low d)
    ∙ ap is_control (sym (sum_low 0x20 n d w s))

marked_up : (n w d : ℕ) → marked (fill 0x80 n) (w / 256) (d / 256) ≡ marked (fill 0x80 (suc n)) w d / 256
marked_up n w d =
    let h : ℕ = fill 0x80 (suc n) in
    ap (λ (x : ℕ). marked x (w / 256) (d / 256)) (sym (fill_up 0x80 n (omega arith)))
    ∙ sym (and_shr (bit_and d (bit_xor w h)) h 8 ∙ ap (λ (x : ℕ). bit_and x (h / 256)) (and_shr d (bit_xor w h) 8 ∙ ap (bit_and (d / 256)) (xor_shr w h 8)))

controls_tell : (n w d : ℕ) → Sum 0x20 n d w → Tells is_control n w (marked (fill 0x80 n) w d)
controls_tell zero w d s = tells_none is_control w (marked (fill 0x80 0) w d)
controls_tell (suc n) w d s =
    tells_more is_control n w (marked (fill 0x80 (suc n)) w d) (marked_low n w d s)
    (λ q.
    let g : 0x20 ≤ w % 256 = leb-true 0x20 (w % 256) (not-false (leb 0x20 (w % 256)) q) in
    let h : d % 256 + 0x20 < 256 = omega (arith, sum_low 0x20 n d w s, low d) in
    subst (Tells is_control n (w / 256)) (marked_up n w d) (controls_tell n (w / 256) (d / 256) (sum_up 0x20 n d w s h)))

-- e is w with 1 added to each byte: only FF carries, which is above 7E itself
odds_tell : (n w e : ℕ) → Sum 1 n w e → Tells is_above n w (bit_or e w)
odds_tell zero w e s = tells_none is_above w (bit_or e w)
odds_tell (suc n) w e s =
    tells_more is_above n w (bit_or e w)
    (ap is_high (or_mod e w 8 ∙ ap (λ (x : ℕ). bit_or x (w % 256)) (sum_low 1 n w e s)) ∙ agree (λ b. is_high (bit_or ((b + 1) % 256) b)) is_above 256 tt (w % 256) (low w))
    (λ q.
    let g : w % 256 ≤ 0x7E = leb-true (w % 256) 0x7E (not-false (leb (w % 256) 0x7E) q) in
    subst (Tells is_above n (w / 256)) (sym (or_shr e w 8)) (odds_tell n (w / 256) (e / 256) (sum_up 1 n w e s (omega arith))))

-- ---- the code's words, of eight bytes

and_twice : (a b : ℕ) → bit_and (bit_and a b) b ≡ bit_and a b
and_twice =
    bin_ind (λ (n : ℕ). (b : ℕ) → bit_and (bit_and n b) b ≡ bit_and n b) (λ b. refl)
    (λ n ih b.
    let lowest : min (bit_and n b % 2) (b % 2) ≡ min (n % 2) (b % 2) = omega (arith, and_step n b) in
    and_step (bit_and n b) b ∙ ap₂ (λ (x y : ℕ). x * 2 + y) (ap (λ (x : ℕ). bit_and x (b / 2)) (and_shr n b 1) ∙ ih (b / 2)) lowest ∙ sym (and_step n b))

pub controls_are : (w d : ℕ) → (d + 0x2020_2020_2020_2020) % 2 ^ 64 ≡ w → Marks w (bit_and (bit_and d (bit_xor w 0x8080_8080_8080_8080)) 0x8080_8080_8080_8080)
unfolding fill
controls_are w d e =
    record {
      only = and_twice (bit_and d (bit_xor w 0x8080_8080_8080_8080)) 0x8080_8080_8080_8080;
      tells = controls_tell 8 w d (sum_of 0x20 d w e);
    }

pub odds_are : (w e : ℕ) → e ≡ (w + 0x0101_0101_0101_0101) % 2 ^ 64 → Tells is_above 8 w (bit_or e w)
unfolding fill
odds_are w e q = odds_tell 8 w e (sum_of 1 w e (sym q))

-- ---- high bits, as numbers and byte by byte

same : (f g : ℕ → ℕ) → T (below (λ b. eqb (f b) (g b)) 256) → (b : ℕ) → b < 256 → f b ≡ g b
same f g t b h = eqb→eq (f b) (g b) (at (λ k. eqb (f k) (g k)) 256 t b h)

high_more : (x t : ℕ) → bit_and x (t * 256 + 0x80) ≡ bit_and (x / 256) t * 256 + cond (is_high (x % 256)) 0x80 0
high_more x t =
    ap (λ (y : ℕ). bit_and y (t * 256 + 0x80)) (sym (div-add-mod' x 256))
    ∙ and_block 8 (x / 256) t (x % 256) 0x80 (low x) (omega arith)
    ∙ ap (λ (y : ℕ). bit_and (x / 256) t * 256 + y) (same (λ b. bit_and b 0x80) (λ b. cond (is_high b) 0x80 0) tt (x % 256) (low x))

mark_more : (x : ℕ) (t : Bool) → not (eqb (x * 256 + cond t 0x80 0) 0) ≡ (t || not (eqb x 0))
mark_more x true = ap not (ne_eqb (x * 256 + 0x80) 0 (λ e. omega arith))
mark_more zero false = refl
mark_more (suc x) false = ap not (ne_eqb (suc x * 256 + 0) 0 (λ e. omega arith)) ∙ sym (ap not (ne_eqb (suc x) 0 (λ e. omega arith)))

some_high : (n w : ℕ) → not (eqb (bit_and w (fill 0x80 n)) 0) ≡ any_of is_high (bytes_of n w)
unfolding fill bytes_of any_of
some_high zero w = ap (λ (x : ℕ). not (eqb x 0)) (and_zero_r w)
some_high (suc n) w =
    ap (λ (x : ℕ). not (eqb x 0)) (high_more w (fill 0x80 n))
    ∙ mark_more (bit_and (w / 256) (fill 0x80 n)) (is_high (w % 256))
    ∙ ap (λ (t : Bool). is_high (w % 256) || t) (some_high n (w / 256))

flagged_bytes : (w : ℕ) → flagged w ≡ any_of is_high (bytes_of 8 w)
unfolding flagged fill
flagged_bytes w = some_high 8 w

-- of two words together
high_or : (a b : ℕ) → is_high (bit_or a b) ≡ (is_high a || is_high b)
high_or a b = go (is_high a) (is_high b) refl refl
  where
    go : (s t : Bool) → is_high a ≡ s → is_high b ≡ t → is_high (bit_or a b) ≡ (s || t)
    go true t p q = le-leb 0x80 (bit_or a b) (omega (arith, or_add_and a b, and_le_r a b, leb-true 0x80 a p))
    go false true p q = le-leb 0x80 (bit_or a b) (omega (arith, or_add_and a b, and_le_l a b, leb-true 0x80 b q))
    go false false p q = lt-leb 0x80 (bit_or a b) (or_lt 7 a b (leb-false 0x80 a p) (leb-false 0x80 b q))

or_turn : (p q s t : Bool) → ((p || q) || (s || t)) ≡ ((p || s) || (q || t))
or_turn true q s t = refl
or_turn false true true t = refl
or_turn false true false t = refl
or_turn false false s t = refl

some_or : (n a b : ℕ) → any_of is_high (bytes_of n (bit_or a b)) ≡ (any_of is_high (bytes_of n a) || any_of is_high (bytes_of n b))
unfolding bytes_of any_of
some_or zero a b = refl
some_or (suc n) a b =
    ap₂ (λ (x y : Bool). x || y)
    (ap is_high (or_mod a b 8) ∙ high_or (a % 256) (b % 256))
    (ap (λ (x : ℕ). any_of is_high (bytes_of n x)) (or_shr a b 8) ∙ some_or n (a / 256) (b / 256))
    ∙ or_turn (is_high (a % 256)) (is_high (b % 256)) (any_of is_high (bytes_of n (a / 256))) (any_of is_high (bytes_of n (b / 256)))

pub flagged_or : (a b : ℕ) → flagged (bit_or a b) ≡ (flagged a || flagged b)
flagged_or a b = flagged_bytes (bit_or a b) ∙ some_or 8 a b ∙ sym (ap₂ (λ (x y : Bool). x || y) (flagged_bytes a) (flagged_bytes b))

-- ---- where none is below 20, the odd ones are those above 7E

odd_above : (b : ℕ) → is_control b ≡ false → is_above b ≡ is_odd b
odd_above b e = rw (not-false (leb 0x20 b) e)

odds_above : (s : List ℕ) → any_of is_control s ≡ false → any_of is_above s ≡ any_of is_odd s
unfolding any_of
odds_above [] e = refl
odds_above (b ∷ s) e = ap₂ (λ (x y : Bool). x || y) (odd_above b (or_left (is_control b) (any_of is_control s) e)) (odds_above s (or_right (is_control b) (any_of is_control s) e))

-- no mark: there is none, and the odd ones are known
pub none_hit : (w z : ℕ) → Marks w z → z ≡ 0 → any_of is_control (bytes_of 8 w) ≡ false
unfolding Tells bytes_of any_of
none_hit w z m e = sym (m.tells 8) ∙ ap (λ (x : ℕ). any_of is_high (bytes_of 8 x)) e

pub odds_flagged : (w o : ℕ) → Tells is_above 8 w o → any_of is_control (bytes_of 8 w) ≡ false → flagged o ≡ any_of is_odd (bytes_of 8 w)
unfolding Tells bytes_of
odds_flagged w o t e = flagged_bytes o ∙ t 8 ∙ odds_above (bytes_of 8 w) e

-- ---- the first mark

-- zeros below it
trail_shift : (j k x : ℕ) → count_trailing_zeros (j + k) (x * 2 ^ j) ≡ j + count_trailing_zeros k x
unfolding count_trailing_zeros
trail_shift zero k x = ap₂ count_trailing_zeros (zero-add k) (mul-one x) ∙ sym (zero-add (count_trailing_zeros k x))
trail_shift (suc j) k x =
    ap (λ (n : ℕ). count_trailing_zeros n (x * 2 ^ suc j)) (suc-add j k)
    ∙ ap₂ (λ (a b : ℕ). under a (count_trailing_zeros (j + k) b)) (shifted_even x j) (shifted_half x j)
    ∙ ap suc (trail_shift j k x)
    ∙ sym (suc-add j (count_trailing_zeros k x))

trail_odd : (k x : ℕ) → count_trailing_zeros (suc k) (x * 2 + 1) ≡ 0
unfolding count_trailing_zeros
trail_odd k x = ap (λ (d : ℕ). under d (count_trailing_zeros k ((x * 2 + 1) / 2))) (digits_mod x {m = 2} {r = 1} (omega arith))

-- a word of marks: the place of the first, and the mask up to it
record First (n z : ℕ) : Type 0 where
  k : ℕ
  m : ℕ
  inside : k < n
  here : any_of is_high (take (suc k) (bytes_of n z)) ≡ true
  clear : any_of is_high (take k (bytes_of n z)) ≡ false
  zeros : count_trailing_zeros (8 * n) z ≡ 8 * k + 7
  mask : bit_xor z (z - 1) ≡ m * 2 + 1
  kept : (o : ℕ) → any_of is_high (bytes_of n (bit_and o m)) ≡ any_of is_high (take k (bytes_of n o))

-- one byte more in front: a mark
module _ (n z : ℕ) where
  zeros_hit : count_trailing_zeros (8 * suc n) (z * 256 + 0x80) ≡ 8 * 0 + 7
  zeros_hit =
      let a : 8 * suc n ≡ 7 + suc (8 * n) = omega arith in
      let b : z * 256 + 0x80 ≡ (z * 2 + 1) * 2 ^ 7 = omega arith in
      ap₂ count_trailing_zeros a b ∙ trail_shift 7 (suc (8 * n)) (z * 2 + 1) ∙ ap (λ (x : ℕ). 7 + x) (trail_odd (8 * n) z)

  mask_hit : bit_xor (z * 256 + 0x80) (z * 256 + 0x80 - 1) ≡ 127 * 2 + 1
  mask_hit =
      let a : z * 256 + 0x80 - 1 ≡ z * 256 + 0x7f = omega arith in
      ap (bit_xor (z * 256 + 0x80)) a ∙ xor_block 8 z z 0x80 0x7f (omega arith) (omega arith) ∙ ap (λ (x : ℕ). x * 256 + 0xff) (xor_self z)

  -- none
  zeros_on : (k : ℕ) → count_trailing_zeros (8 * n) z ≡ 8 * k + 7 → count_trailing_zeros (8 * suc n) (z * 256 + 0) ≡ 8 * suc k + 7
  zeros_on k e =
      let a : 8 * suc n ≡ 8 + 8 * n = omega arith in
      let b : z * 256 + 0 ≡ z * 2 ^ 8 = omega arith in
      let c : count_trailing_zeros (8 * suc n) (z * 256 + 0) ≡ 8 + count_trailing_zeros (8 * n) z = ap₂ count_trailing_zeros a b ∙ trail_shift 8 (8 * n) z in
      omega arith

  mask_on : (m : ℕ) → (z ≡ 0 → ⊥) → bit_xor z (z - 1) ≡ m * 2 + 1 → bit_xor (z * 256 + 0) (z * 256 + 0 - 1) ≡ (m * 256 + 0xff) * 2 + 1
  mask_on m h e =
      let a : z * 256 + 0 - 1 ≡ (z - 1) * 256 + 0xff = omega arith in
      let b : (m * 2 + 1) * 256 + 0xff ≡ (m * 256 + 0xff) * 2 + 1 = omega arith in
      ap (bit_xor (z * 256 + 0)) a ∙ xor_block 8 z (z - 1) 0 0xff (omega arith) (omega arith) ∙ ap (λ (x : ℕ). x * 256 + 0xff) e ∙ b

kept_hit : (n o : ℕ) → any_of is_high (bytes_of (suc n) (bit_and o 127)) ≡ false
unfolding bytes_of any_of
kept_hit n o =
    ap₂ (λ (x y : ℕ). is_high x || any_of is_high (bytes_of n y)) (and_mod o 127 8) (and_shr o 127 8 ∙ and_zero_r (o / 256))
    ∙ ap₂ (λ (x y : Bool). x || y) (lt-leb 0x80 (bit_and (o % 256) 127) (omega (arith, and_le_r (o % 256) 127))) (sym (some_high n 0))

kept_on : (n m o : ℕ) → any_of is_high (bytes_of (suc n) (bit_and o (m * 256 + 0xff))) ≡ (is_high (o % 256) || any_of is_high (bytes_of n (bit_and (o / 256) m)))
unfolding bytes_of any_of
kept_on n m o =
    let h : 0xff < 256 = omega arith in
    ap₂ (λ (x y : ℕ). is_high x || any_of is_high (bytes_of n y))
    (and_mod o (m * 256 + 0xff) 8 ∙ ap (bit_and (o % 256)) (digits_mod m h) ∙ same (λ b. bit_and b 0xff) (λ b. b) tt (o % 256) (low o))
    (and_shr o (m * 256 + 0xff) 8 ∙ ap (bit_and (o / 256)) (digits_div m h))

first_here : (n z y : ℕ) → is_high (z % 256) ≡ true → z ≡ y * 256 + 0x80 → First (suc n) z
unfolding bytes_of any_of
first_here n z y e q =
    record {
      k = 0;
      m = 127;
      inside = omega arith;
      here = rw e;
      clear = refl;
      zeros = ap (count_trailing_zeros (8 * suc n)) q ∙ zeros_hit n y;
      mask = ap (λ (x : ℕ). bit_xor x (x - 1)) q ∙ mask_hit n y;
      kept = kept_hit n;
    }

first_on : (n z : ℕ) → is_high (z % 256) ≡ false → z ≡ z / 256 * 256 + 0 → (z / 256 ≡ 0 → ⊥) → First n (z / 256) → First (suc n) z
unfolding bytes_of any_of
first_on n z e q some f =
    record {
      k = suc f.k;
      m = f.m * 256 + 0xff;
      inside = omega (arith, f.inside);
      here = rw e f.here;
      clear = rw e f.clear;
      zeros = ap (count_trailing_zeros (8 * suc n)) q ∙ zeros_on n (z / 256) f.k f.zeros;
      mask = ap (λ (x : ℕ). bit_xor x (x - 1)) q ∙ mask_on n (z / 256) f.m some f.mask;
      kept = λ o. kept_on n f.m o ∙ ap (λ (t : Bool). is_high (o % 256) || t) (f.kept (o / 256));
    }

first : (n z : ℕ) → bit_and z (fill 0x80 n) ≡ z → (z ≡ 0 → ⊥) → First n z
unfolding fill
first zero z only some = absurd (some (sym only ∙ and_zero_r z))
first (suc n) z only some = go (is_high (z % 256)) refl (sym only ∙ high_more z (fill 0x80 n)) (first n (z / 256))
  where
    go : (t : Bool) → is_high (z % 256) ≡ t → z ≡ bit_and (z / 256) (fill 0x80 n) * 256 + cond (is_high (z % 256)) 0x80 0
        → (bit_and (z / 256) (fill 0x80 n) ≡ z / 256 → (z / 256 ≡ 0 → ⊥) → First n (z / 256)) → First (suc n) z
    go true e q rest = first_here n z (bit_and (z / 256) (fill 0x80 n)) e (rw e at q)
    go false e q rest =
        let p : z ≡ bit_and (z / 256) (fill 0x80 n) * 256 + 0 = rw e at q in
        let more : z / 256 ≡ 0 → ⊥ = λ none. some (omega arith) in
        first_on n z e (omega arith) more (rest (omega arith) more)

-- where the first k bytes do not pass, and one more does, it is that one
last_passes : (f : ℕ → Bool) (s : List ℕ) (k : ℕ) → any_of f (take k s) ≡ false → any_of f (take (suc k) s) ≡ true → f (get_or s k 0) ≡ true
unfolding any_of
last_passes f [] k c e = absurd (false≢true e)
last_passes f (x ∷ s) zero c e = sym (or-false (f x)) ∙ e
last_passes f (x ∷ s) (suc k) c e = last_passes f s k (or_right (f x) (any_of f (take k s)) c) (rw (or_left (f x) (any_of f (take k s)) c) at e)

-- ---- the same in the code's words: z has the marks, k is the place of the first, m the mask up to it
pub record FirstControl (w o k m : ℕ) : Type 0 where
  pub inside : k < 8
  pub here : is_control (get_or (bytes_of 8 w) k 0) ≡ true
  pub clear : any_of is_control (take k (bytes_of 8 w)) ≡ false
  pub kept : flagged (bit_and o m) ≡ any_of is_odd (take k (bytes_of 8 w))

pub first_control : (w z o : ℕ) → Marks w z → Tells is_above 8 w o → (z ≡ 0 → ⊥) → FirstControl w o (count_trailing_zeros 64 z / 8) (bit_xor z (z - 1) / 2)
unfolding Tells fill
first_control w z o marks tells some =
    let f : First 8 z = first 8 z marks.only some in
    let ek : f.k ≡ count_trailing_zeros 64 z / 8 = omega (arith, f.zeros) in
    let em : f.m ≡ bit_xor z (z - 1) / 2 = omega (arith, f.mask) in
    let clear : any_of is_control (take f.k (bytes_of 8 w)) ≡ false = sym (marks.tells f.k) ∙ f.clear in
    subst₂ (FirstControl w o) ek em
    (record {
      inside = f.inside;
      here = last_passes is_control (bytes_of 8 w) f.k clear (sym (marks.tells (suc f.k)) ∙ f.here);
      clear = clear;
      kept = flagged_bytes (bit_and o f.m) ∙ f.kept o ∙ tells f.k ∙ odds_above (take f.k (bytes_of 8 w)) clear;
    })
