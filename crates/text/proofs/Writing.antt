-- A loop that writes digits from the right: before place p the list is as it was, from p to e stand the last digits, and then the rest.
use mathlib.Core.Path.{◌≡◌, sym}
use mathlib.Core.List.{List, ◌++◌}
use Prim.Native.Nat.{ℕ, zero, suc, ◌+◌, ◌-◌, ◌/◌, ◌%◌, ◌^◌, ◌≤◌, ◌<◌}
use native.Mathlib.Nat.{pow-suc, div-div-eq-div-mul, add-sub_cancel_left, sub_self, not-suc-le-zero}
use native.Mathlib.Omega.{arith}
use lib.ListN.{length, take, drop, set, take-append-drop}
use lib.Seq.{take-suc, set_at, length-take-le, append_snoc}
use Rattle.laws.specs.Lists.{put}
use Rattle.text.specs.Digits.{digits}
use Rattle.text.proofs.Widths.{length_digits}

abbrev pub written : List ℕ → ℕ → ℕ → ℕ → List ℕ
written s e p v = take p s ++ (digits (e - p) v ++ drop e s)

pub none : (s : List ℕ) (e v : ℕ) → s ≡ written s e e v
unfolding digits
none s e v = rw sub_self (sym (take-append-drop e s))

-- one digit more
pub store : (s : List ℕ) (e p v : ℕ) → 0 < p → p ≤ e → e ≤ length s → set (written s e p v) (p - 1) (48 + v / 10 ^ (e - p) % 10) ≡ written s e (p - 1) v
unfolding digits
store s e zero v h k l = absurd (not-suc-le-zero h)
store s e (suc q) v h k l =
    let f : suc q - 1 ≡ q = omega arith in
    let g : e - q ≡ suc (e - suc q) = omega arith in
    let m : q < length s = omega arith in
    rw (f, g, take-suc s q 0 m, append_snoc) (set_at (take q s) _ _ _ q (length-take-le q s (omega arith)))

-- the number that is left to write
pub left : (e p v : ℕ) → 0 < p → p ≤ e → v / 10 ^ (e - p) / 10 ≡ v / 10 ^ (e - (p - 1))
left e p v h k =
    let f : e - (p - 1) ≡ suc (e - p) = omega arith in
    rw (f, pow-suc, ← div-div-eq-div-mul)

-- all n digits
pub all : (s : List ℕ) (at n v : ℕ) → written s (at + n) at v ≡ put s at (digits n v)
unfolding put
all s at n v = rw (add-sub_cancel_left, length_digits)
