-- Digits at every width: reading what was written gives the number, writing what was read gives the digits, and n digits stay below 10 ^ n.
use mathlib.Core.Path.{◌≡◌, refl, ap, ◌∙◌}
use mathlib.Core.Bool.{Bool, true, false, ◌&&◌, false≢true}
use mathlib.Core.List.{List, [], ◌∷◌}
use Prim.Native.Nat.{ℕ, zero, suc, ◌+◌, ◌-◌, ◌*◌, ◌/◌, ◌%◌, ◌^◌, ◌≤◌, ◌<◌}
use native.Mathlib.Nat.{pow-succ', mul_assoc, add-mul, add_assoc, zero-add, zero-mul, mul-add-div_right, mod-lt, mod-eq_of_lt, one-le-pow, mul-add-mod_self_right, add-sub_cancel_left}
use native.Mathlib.Omega.{arith}
use lib.Arith.{mod-mul, digits_lt, digits_div}
use lib.ListN.{length}
use lib.Dec.{leb}
use borrow.Author.Tests.{leb-true, le-leb}
use Rattle.text.specs.Digits.{all_are_digits, value_after, value, digits}

ten_pos : (n : ℕ) → 0 < 10 ^ n
ten_pos n = one-le-pow n 10 (omega arith)

pub length_digits : (n v : ℕ) → length (digits n v) ≡ n
unfolding digits
length_digits zero v = refl
length_digits (suc n) v = ap suc (length_digits n v)

-- the value of the n digits of v, after digits that stand for a
after_digits : (n a v : ℕ) → value_after a (digits n v) ≡ a * 10 ^ n + v % 10 ^ n
unfolding value_after digits
after_digits zero a v = omega (arith, mod-lt v (ten_pos 0))
after_digits (suc n) a v =
    after_digits n (a * 10 + (48 + v / 10 ^ n % 10 - 48)) v
    ∙ rw (add-sub_cancel_left, pow-succ', mod-mul v {m = 10} {c = 10 ^ n} (omega arith) (ten_pos n), add-mul, mul_assoc, add_assoc)

-- reading what was written
pub read_written : (n v : ℕ) → v < 10 ^ n → value (digits n v) ≡ v
read_written n v h = after_digits n 0 v ∙ rw (zero-mul, zero-add) (mod-eq_of_lt h)

-- ten times a power
ten : (a n : ℕ) → a * 10 ^ suc n ≡ a * 10 * 10 ^ n
ten a n = rw (pow-succ', ← mul_assoc)

-- the value of digits, after digits that stand for a
pub after_is : (bs : List ℕ) (a : ℕ) → value_after a bs ≡ a * 10 ^ length bs + value bs
unfolding value_after
after_is [] a = omega arith
after_is (b ∷ bs) a =
    after_is bs (a * 10 + (b - 48))
    ∙ rw (ten a (length bs), after_is bs (0 * 10 + (b - 48)), add-mul, zero-mul, zero-add, add_assoc)

-- a digit is one of ten, and what follows is decided by the rest
pub digit_parts : (b : ℕ) (bs : List ℕ) → all_are_digits (b ∷ bs) ≡ true → (48 ≤ b) × (b ≤ 57) × (all_are_digits bs ≡ true)
unfolding all_are_digits
digit_parts b bs e = go (leb 48 b) refl (leb b 57) refl e
  where
    go : (x : Bool) → leb 48 b ≡ x → (y : Bool) → leb b 57 ≡ y → ((x && y) && all_are_digits bs) ≡ true → (48 ≤ b) × (b ≤ 57) × (all_are_digits bs ≡ true)
    go true p true q r = (leb-true _ _ p, leb-true _ _ q, r)
    go true p false q r = absurd (false≢true r)
    go false p y q r = absurd (false≢true r)

pub value_lt : (bs : List ℕ) → all_are_digits bs ≡ true → value bs < 10 ^ length bs
unfolding value_after
value_lt [] e = omega arith
value_lt (b ∷ bs) e =
    let d = digit_parts b bs e in
    let l : 0 * 10 + (b - 48) < 10 = omega (arith, d.0, d.1) in
    rw (after_is bs (0 * 10 + (b - 48)), pow-succ') (digits_lt l (value_lt bs d.2))

-- digits above the n last do not matter
digits_high : (n a w : ℕ) → digits n (a * 10 ^ n + w) ≡ digits n w
unfolding digits
digits_high zero a w = refl
digits_high (suc n) a w =
    rw (ten a n, digits_high n (a * 10) w, mul-add-div_right (ten_pos n), mul-add-mod_self_right)

-- writing what was read
pub written_read : (bs : List ℕ) → all_are_digits bs ≡ true → digits (length bs) (value bs) ≡ bs
unfolding value_after digits
written_read [] e = refl
written_read (b ∷ bs) e =
    let d = digit_parts b bs e in
    let h : 48 + (0 * 10 + (b - 48)) % 10 ≡ b = omega (arith, d.0, d.1) in
    rw (after_is bs (0 * 10 + (b - 48)), digits_high (length bs) (0 * 10 + (b - 48)) (value bs), written_read bs d.2, digits_div (0 * 10 + (b - 48)) (value_lt bs d.2), h)

-- digits that are written are digits
pub digits_are : (n v : ℕ) → all_are_digits (digits n v) ≡ true
unfolding digits all_are_digits
digits_are zero v = refl
digits_are (suc n) v =
    simp (le-leb 48 (48 + v / 10 ^ n % 10) (omega arith), le-leb (48 + v / 10 ^ n % 10) 57 (omega arith), digits_are n v)
