-- Laws of a set of marks: how many rules it has, which is the least and which are the others, and what a sum of marks holds.
use mathlib.Core.Path.{◌≡◌, refl, sym, ap, ◌∙◌}
use mathlib.Core.Bool.{Bool, true, false, cond}
use mathlib.Core.List.{List, [], ◌∷◌, ◌++◌, map, append-nil, append_assoc}
use Prim.Native.Nat.{ℕ, zero, suc, ◌+◌, ◌-◌, ◌*◌, ◌/◌, ◌%◌, ◌^◌, ◌≤◌, ◌<◌, min}
use native.Mathlib.Nat.{pow-suc, zero-add, add-zero, add_assoc}
use native.Mathlib.Omega.{arith}
use lib.ListN.{length, length-map}
use lib.Bits.{bit_and, and_step, and_self}
use lib.Count.{ones, ones_step, count_trailing_zeros}
use lib.Pow.{pow_mono}
use lib.Dec.{T}
use Rattle.laws.specs.Tests.{mark}
use Rattle.rules.specs.Faults.{Fault, fault}
use Rattle.rules.specs.Tests.{Test, broken_of}
use Rattle.rules.proofs.Orderly.{ascending, first_from}
use Rattle.rules.proofs.Rising.{Rising, Under, rising_le}
use Rattle.ledger.specs.Marks.{digit, rules_from, rules_of, set_of, marked}

half : (d m : ℕ) → m < 2 ^ suc d → m / 2 < 2 ^ d
half d m h = omega (arith, pow-suc 2 d)

-- the least rule is the number of zeros below it, and m & (m - 1) has the others
lowest : (d r m c : ℕ) → 0 < m → m < 2 ^ d → c ≡ bit_and m (m - 1) → rules_from d r m ≡ (r + count_trailing_zeros d m) ∷ rules_from d r c
unfolding rules_from count_trailing_zeros
lowest zero r m c p h e = absurd (omega arith)
lowest (suc d) r m c p h e =
    go (λ (q : 0 < m / 2). lowest d (suc r) (m / 2) (bit_and (m / 2) (m / 2 - 1)) q (half d m h) refl) (m % 2) refl
  where
    s : c ≡ bit_and (m / 2) ((m - 1) / 2) * 2 + min (m % 2) ((m - 1) % 2)
    s = e ∙ and_step m (m - 1)

    go : (0 < m / 2 → rules_from d (suc r) (m / 2) ≡ (suc r + count_trailing_zeros d (m / 2)) ∷ rules_from d (suc r) (bit_and (m / 2) (m / 2 - 1))) → (b : ℕ) → m % 2 ≡ b
        → digit (m % 2) r (rules_from d (suc r) (m / 2)) ≡ (r + lib.Count.under (m % 2) (count_trailing_zeros d (m / 2))) ∷ digit (c % 2) r (rules_from d (suc r) (c / 2))
    go ih zero b =
        let q : (m - 1) / 2 ≡ m / 2 - 1 = omega arith in
        let B : ℕ = bit_and (m / 2) (m / 2 - 1) in
        let s' : c ≡ B * 2 + min (m % 2) ((m - 1) % 2) = s ∙ ap (λ (x : ℕ). bit_and (m / 2) x * 2 + min (m % 2) ((m - 1) % 2)) q in
        let c0 : c % 2 ≡ 0 = omega arith in
        let c1 : c / 2 ≡ B = omega arith in
        let t : r + suc (count_trailing_zeros d (m / 2)) ≡ suc r + count_trailing_zeros d (m / 2) = omega arith in
        rw (b, c0, c1, t) (ih (omega arith))
    go ih (suc zero) b =
        let q : (m - 1) / 2 ≡ m / 2 = omega arith in
        let s' : c ≡ m / 2 * 2 + min (m % 2) ((m - 1) % 2) = s ∙ ap (λ (x : ℕ). bit_and (m / 2) x * 2 + min (m % 2) ((m - 1) % 2)) q ∙ ap (λ (x : ℕ). x * 2 + min (m % 2) ((m - 1) % 2)) (and_self (m / 2)) in
        let c0 : c % 2 ≡ 0 = omega arith in
        let c1 : c / 2 ≡ m / 2 = omega arith in
        let t : r + 0 ≡ r = omega arith in
        rw (b, c0, c1, t)
    go ih (suc (suc k)) b = absurd (omega arith)

-- the least rule of a set is its count of trailing zeros
pub least_rule : (m : ℕ) → 0 < m → m < 2 ^ 64 → rules_of m ≡ count_trailing_zeros 64 m ∷ rules_of (bit_and m (m - 1))
least_rule m p h = lowest 64 0 m (bit_and m (m - 1)) p h refl ∙ ap (λ (r : ℕ). r ∷ rules_of (bit_and m (m - 1))) (zero-add (count_trailing_zeros 64 m))

digit_length : (b r : ℕ) (rs : List ℕ) → b < 2 → length (digit b r rs) ≡ b + length rs
digit_length zero r rs h = omega arith
digit_length (suc zero) r rs h = omega arith
digit_length (suc (suc b)) r rs h = absurd (omega arith)

count_from : (d r m : ℕ) → m < 2 ^ d → length (rules_from d r m) ≡ ones m
unfolding rules_from ones
count_from zero r m h = let e : m ≡ 0 = omega arith in rw e
count_from (suc d) r m h =
    digit_length (m % 2) r (rules_from d (suc r) (m / 2)) (omega arith) ∙ ap (λ (x : ℕ). m % 2 + x) (count_from d (suc r) (m / 2) (half d m h)) ∙ sym (ones_step m)

-- the number of rules of a set is its count of ones
pub rules_count : (m : ℕ) → m < 2 ^ 64 → length (rules_of m) ≡ ones m
rules_count m h = count_from 64 0 m h

-- so is the number of faults of its line
pub marked_count : (line m : ℕ) → m < 2 ^ 64 → length (marked line m) ≡ ones m
marked_count line m h = length-map (rules_of m) (fault line) ∙ rules_count m h

none_from : (d r : ℕ) → rules_from d r 0 ≡ []
unfolding rules_from
none_from zero r = refl
none_from (suc d) r = none_from d (suc r)

-- the empty set has no rule
pub no_rules : rules_of 0 ≡ []
no_rules = none_from 64 0

-- ---- the rules of a set rise and are below 64

module _ (r : ℕ) (rs : List ℕ) where
  digit_rises : (b : ℕ) → Rising (suc r) rs → Rising r (digit b r rs)
  digit_rises zero R = rising_le r (suc r) rs (omega arith) R
  digit_rises (suc b) R = (omega arith, R)

  digit_under : (b k : ℕ) → r < k → Under k rs → Under k (digit b r rs)
  digit_under zero k h U = U
  digit_under (suc b) k h U = (h, U)

rise_from : (d r m : ℕ) → Rising r (rules_from d r m)
unfolding rules_from
rise_from zero r m = tt
rise_from (suc d) r m = digit_rises r (rules_from d (suc r) (m / 2)) (m % 2) (rise_from d (suc r) (m / 2))

under_from : (d r m k : ℕ) → r + d ≤ k → Under k (rules_from d r m)
unfolding rules_from
under_from zero r m k h = tt
under_from (suc d) r m k h = digit_under r (rules_from d (suc r) (m / 2)) (m % 2) k (omega arith) (under_from d (suc r) (m / 2) k (omega arith))

-- they rise
pub rules_rise : (m : ℕ) → Rising 0 (rules_of m)
rules_rise m = rise_from 64 0 m

-- and are below 64
pub rules_under : (m : ℕ) → Under 64 (rules_of m)
rules_under m = under_from 64 0 m 64 (omega arith)

few : (k j : ℕ) (rs : List ℕ) → Rising j rs → Under k rs → j ≤ k → j + length rs ≤ k
few k j [] R U h = omega arith
few k j (r ∷ rs) R U h = omega (arith, few k (suc r) rs R.1 U.1 U.0, R.0)

-- one line has at most 64 faults
pub marked_few : (line m : ℕ) → length (marked line m) ≤ 64
marked_few line m = omega (arith, length-map (rules_of m) (fault line), few 64 0 (rules_of m) (rules_rise m) (rules_under m) (omega arith))

-- ---- a sum of marks

add_from : (d r k m : ℕ) → m < 2 ^ k → k < d → rules_from d r (m + 2 ^ k) ≡ rules_from d r m ++ ((r + k) ∷ [])
unfolding rules_from
add_from zero r k m h l = absurd (omega arith)
add_from (suc d) r zero m h l =
    let e : m ≡ 0 = omega arith in
    let t : r + 0 ≡ r = omega arith in
    rw (e, t) (ap (λ (x : List ℕ). r ∷ x) (none_from d (suc r)) ∙ sym (ap (λ (x : List ℕ). x ++ (r ∷ [])) (none_from d (suc r))))
add_from (suc d) r (suc k) m h l =
    let p : 2 ^ suc k ≡ 2 ^ k * 2 = pow-suc 2 k in
    let a : (m + 2 ^ suc k) % 2 ≡ m % 2 = omega arith in
    let b : (m + 2 ^ suc k) / 2 ≡ m / 2 + 2 ^ k = omega arith in
    let t : r + suc k ≡ suc r + k = omega arith in
    rw (a, b, t) (go (add_from d (suc r) k (m / 2) (half k m h) (omega arith)) (m % 2))
  where
    go : rules_from d (suc r) (m / 2 + 2 ^ k) ≡ rules_from d (suc r) (m / 2) ++ ((suc r + k) ∷ []) → (b : ℕ)
        → digit b r (rules_from d (suc r) (m / 2 + 2 ^ k)) ≡ digit b r (rules_from d (suc r) (m / 2)) ++ ((suc r + k) ∷ [])
    go ih zero = ih
    go ih (suc b) = ap (λ (x : List ℕ). r ∷ x) ih

-- a mark above all others puts its rule at the end
pub add_mark : (r m : ℕ) → m < 2 ^ r → r < 64 → rules_of (m + 2 ^ r) ≡ rules_of m ++ (r ∷ [])
add_mark r m h l = add_from 64 0 r m h l ∙ ap (λ (k : ℕ). rules_of m ++ (k ∷ [])) (zero-add r)

sum_onto : (k m : ℕ) (ts : List Test) → m < 2 ^ k → T (ascending k ts) → rules_of (m + set_of ts) ≡ rules_of m ++ broken_of ts
sum_onto k m [] h a = ap rules_of (add-zero m) ∙ sym (append-nil (rules_of m))
sum_onto k m (t ∷ ts) h a =
    let f = first_from k t ts a in
    go t.broken (omega (arith, pow_mono {i = k} {j = t.rule} f.0)) f.1 (λ (m' : ℕ) (h' : m' < 2 ^ suc t.rule). sum_onto (suc t.rule) m' ts h' f.2)
  where
    go : (b : Bool) → m < 2 ^ t.rule → t.rule < 64 → ((m' : ℕ) → m' < 2 ^ suc t.rule → rules_of (m' + set_of ts) ≡ rules_of m' ++ broken_of ts)
        → rules_of (m + (mark t.rule b + set_of ts)) ≡ rules_of m ++ cond b (t.rule ∷ broken_of ts) (broken_of ts)
    go true l u ih =
        ap rules_of (sym (add_assoc m (2 ^ t.rule) (set_of ts))) ∙ ih (m + 2 ^ t.rule) (omega (arith, pow-suc 2 t.rule))
        ∙ ap (λ (x : List ℕ). x ++ broken_of ts) (add_mark t.rule m l u) ∙ append_assoc (rules_of m) (t.rule ∷ []) (broken_of ts)
    go false l u ih = ap (λ (x : ℕ). rules_of (m + x)) (zero-add (set_of ts)) ∙ ih m (omega (arith, pow-suc 2 t.rule))

-- the rules of a sum of marks are just the broken ones; where the rules are numerals the condition computes to `tt`
pub rules_of_set : (ts : List Test) → T (ascending 0 ts) → rules_of (set_of ts) ≡ broken_of ts
rules_of_set ts a = ap rules_of (sym (zero-add (set_of ts))) ∙ sum_onto 0 0 ts (omega arith) a ∙ ap (λ (x : List ℕ). x ++ broken_of ts) no_rules

sum_below : (k : ℕ) (ts : List Test) → k ≤ 64 → T (ascending k ts) → set_of ts + 2 ^ k ≤ 2 ^ 64
sum_below k [] h a = omega (arith, pow_mono {i = k} {j = 64} h)
sum_below k (t ∷ ts) h a =
    let f = first_from k t ts a in
    go t.broken (pow_mono {i = k} {j = t.rule} f.0) (sum_below (suc t.rule) ts f.1 f.2)
  where
    go : (b : Bool) → 2 ^ k ≤ 2 ^ t.rule → set_of ts + 2 ^ suc t.rule ≤ 2 ^ 64 → mark t.rule b + set_of ts + 2 ^ k ≤ 2 ^ 64
    go true l ih = omega (arith, pow-suc 2 t.rule)
    go false l ih = omega (arith, pow-suc 2 t.rule)

-- a sum of marks fits in 64 bits
pub set_below : (ts : List Test) → T (ascending 0 ts) → set_of ts < 2 ^ 64
set_below ts a = omega (arith, sum_below 0 ts (omega arith) a)

-- the one law by which marks stand for tests: the faults of a set of marks are those of the broken tests
pub marked_set : (line : ℕ) (ts : List Test) → T (ascending 0 ts) → marked line (set_of ts) ≡ map (fault line) (broken_of ts)
marked_set line ts a = ap {B = List Fault} (map (fault line)) (rules_of_set ts a)

-- the size of a line's set is its number of broken rules, and the count of ones of its marks
pub size_is_ones : (ts : List Test) → T (ascending 0 ts) → length (broken_of ts) ≡ ones (set_of ts)
size_is_ones ts a = sym (ap {B = ℕ} length (rules_of_set ts a)) ∙ rules_count (set_of ts) (set_below ts a)
