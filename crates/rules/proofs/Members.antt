-- The list of faults: its members, its length, its order, and that these determine it.
use mathlib.Core.Path.{◌≡◌, refl, sym, ap, ◌∙◌, subst}
use mathlib.Core.List.Memᴰ
use mathlib.Core.List.{List, [], ◌∷◌, ◌++◌, map, Memᴰ}
use mathlib.Core.Logic.{◌⊎◌, inl, inr, ◌↔◌}
use Prim.Native.Nat.{ℕ, suc, ◌<◌}
use native.Mathlib.Omega.{arith}
use lib.ListN.{length, length-append, length-map}
use mathlib.Core.Bool.{Bool, true, false, cond, true≢false}
use lib.Dec.{T}
use Rattle.rules.specs.Tests.{Test, ◌if◌, broken_of, Spot}
use Rattle.rules.specs.Faults.{Fault, fault, faults_at, faults_of}
use Rattle.rules.specs.Demand.{BrokenAt, FaultAmong, sizes, Before, BeforeAll, Ascending}
use Rattle.rules.proofs.Rising.{Rising, rising_le, only_one}
use Rattle.rules.proofs.Orderly.{ascending, tests_rise, Orderly, orderly_at}

-- the total is the sum of the sizes
pub faults_count : (ss : List Spot) → length (faults_of ss) ≡ sizes ss
unfolding faults_of
faults_count [] = refl
faults_count (s ∷ ss) = omega (arith, length-append (faults_at s) (faults_of ss), length-map (broken_of s.tests) (fault s.line), faults_count ss)

-- ---- the members of the list

-- a rule is among the broken ones exactly when a test says so
there_broken : (r : ℕ) (ts : List Test) → Memᴰ r (broken_of ts) → Memᴰ (r if true) ts
there_broken r [] m = absurd (Memᴰ.not-nil m)
there_broken r (t ∷ ts) m = go (there_broken r ts) t.broken refl m
  where
    at : (Memᴰ r (broken_of ts) → Memᴰ (r if true) ts) → t.broken ≡ true → (r ≡ t.rule) ⊎ Memᴰ r (broken_of ts) → Memᴰ (r if true) (t ∷ ts)
    at ih e (inl q) = Memᴰ.head (λ i. record { rule = q i; broken = sym e i })
    at ih e (inr n) = Memᴰ.tail (ih n)

    go : (Memᴰ r (broken_of ts) → Memᴰ (r if true) ts) → (b : Bool) → t.broken ≡ b → Memᴰ r (cond b (t.rule ∷ broken_of ts) (broken_of ts)) → Memᴰ (r if true) (t ∷ ts)
    go ih false e m = Memᴰ.tail (ih m)
    go ih true e m = at ih e (Memᴰ.cases_cons m)

back_broken : (r : ℕ) (ts : List Test) → Memᴰ (r if true) ts → Memᴰ r (broken_of ts)
back_broken r [] m = absurd (Memᴰ.not-nil m)
back_broken r (t ∷ ts) m = go (back_broken r ts) t.broken refl (Memᴰ.cases_cons m)
  where
    go : (Memᴰ (r if true) ts → Memᴰ r (broken_of ts)) → (b : Bool) → t.broken ≡ b → ((r if true) ≡ t) ⊎ Memᴰ (r if true) ts
        → Memᴰ r (cond b (t.rule ∷ broken_of ts) (broken_of ts))
    go ih true e (inl q) = Memᴰ.head (ap (λ (u : Test). u.rule) q)
    go ih true e (inr n) = Memᴰ.tail (ih n)
    go ih false e (inl q) = absurd (true≢false (ap (λ (u : Test). u.broken) q ∙ e))
    go ih false e (inr n) = ih n

at_line : (f : Fault) (s : Spot) → Memᴰ f (faults_at s) ↔ ((f.line ≡ s.line) × BrokenAt f.rule s)
at_line f s = (there, back)
  where
    there : Memᴰ f (faults_at s) → (f.line ≡ s.line) × BrokenAt f.rule s
    there m =
        let o = Memᴰ.of_map (fault s.line) (broken_of s.tests) m in
        (sym (ap (λ (g : Fault). g.line) o.2), there_broken f.rule s.tests (Memᴰ.cast (sym (ap (λ (g : Fault). g.rule) o.2)) o.1))

    back : (f.line ≡ s.line) × BrokenAt f.rule s → Memᴰ f (faults_at s)
    back p = Memᴰ.cast (λ i. record { line = p.0 i; rule = f.rule }) (Memᴰ.map (fault s.line) (back_broken f.rule s.tests p.1))

listed_broken : (f : Fault) (ss : List Spot) → Memᴰ f (faults_of ss) → FaultAmong f ss
unfolding faults_of
listed_broken f [] m = absurd (Memᴰ.not-nil m)
listed_broken f (s ∷ ss) m = go (listed_broken f ss) (Memᴰ.append_cases (faults_at s) m)
  where
    go : (Memᴰ f (faults_of ss) → FaultAmong f ss) → Memᴰ f (faults_at s) ⊎ Memᴰ f (faults_of ss) → FaultAmong f (s ∷ ss)
    go ih (inl n) = let a = (at_line f s).0 n in (s, Memᴰ.head refl, a.0, a.1)
    go ih (inr n) = let b = ih n in (b.0, Memᴰ.tail b.1, b.2, b.3)

broken_listed : (f : Fault) (ss : List Spot) (s : Spot) → Memᴰ s ss → (f.line ≡ s.line) × BrokenAt f.rule s → Memᴰ f (faults_of ss)
unfolding faults_of
broken_listed f [] s m a = absurd (Memᴰ.not-nil m)
broken_listed f (d ∷ ss) s m a = go (Memᴰ.cases_cons m) (λ (n : Memᴰ s ss). broken_listed f ss s n a)
  where
    go : (s ≡ d) ⊎ Memᴰ s ss → (Memᴰ s ss → Memᴰ f (faults_of ss)) → Memᴰ f (faults_at d ++ faults_of ss)
    go (inl q) ih = Memᴰ.append_left (faults_of ss) (rw q at ((at_line f s).1 a))
    go (inr n) ih = Memᴰ.append_right (faults_at d) (ih n)

-- the list holds each pair of a line and a rule broken there, and no other
pub faults_members : (f : Fault) (ss : List Spot) → Memᴰ f (faults_of ss) ↔ FaultAmong f ss
faults_members f ss = (listed_broken f ss, λ b. broken_listed f ss b.0 b.1 (b.2, b.3))

-- a rule is tested at most once at a line, so it is broken there exactly when its test says so
test_decides : (ts : List Test) → T (ascending 0 ts) → (r : ℕ) (b : Bool) → Memᴰ (r if b) ts → Memᴰ (r if true) ts ↔ (b ≡ true)
test_decides ts a r b m = (
  λ n. ap (λ (t : Test). t.broken) (only_one (λ (t : Test). t.rule) 0 ts (tests_rise 0 ts a) (r if b) (r if true) m n refl),
  λ e. subst (λ (c : Bool). Memᴰ (r if c) ts) e m,
)

-- and a line has one spot: a pair is in the list exactly when the test of its rule at its line says so, and never where it is not tested
module _ (n : ℕ) (ss : List Spot) (R : Rising n (map (λ (s : Spot). s.line) ss)) (s : Spot) (m : Memᴰ s ss) (r : ℕ) where
  at_spot : Memᴰ (fault s.line r) (faults_of ss) → BrokenAt r s
  at_spot p =
      let b = (faults_members (fault s.line r) ss).0 p in
      subst (BrokenAt r) (sym (only_one (λ (x : Spot). x.line) n ss R s b.0 m b.1 b.2)) b.3

  pub listed_by_test : Orderly ss → (b : Bool) → Memᴰ (r if b) s.tests → Memᴰ (fault s.line r) (faults_of ss) ↔ (b ≡ true)
  listed_by_test O b t =
      let d = test_decides s.tests (orderly_at ss s O m) r b t in
      (λ p. d.0 (at_spot p), λ e. (faults_members (fault s.line r) ss).1 (s, m, refl, d.1 e))

  pub never_untested : ((b : Bool) → Memᴰ (r if b) s.tests → ⊥) → Memᴰ (fault s.line r) (faults_of ss) → ⊥
  never_untested h p = h true (at_spot p)

-- the total is nought exactly when no rule is broken at any line
pub faults_none : (ss : List Spot) → (length (faults_of ss) ≡ 0) ↔ ((f : Fault) → FaultAmong f ss → ⊥)
faults_none ss = (λ z f b. empty (faults_of ss) z f ((faults_members f ss).1 b), λ h. nought (faults_of ss) (λ f m. h f ((faults_members f ss).0 m)))
  where
    empty : (l : List Fault) → length l ≡ 0 → (f : Fault) → Memᴰ f l → ⊥
    empty [] z f m = Memᴰ.not-nil m
    empty (x ∷ l) z f m = omega arith

    nought : (l : List Fault) → ((f : Fault) → Memᴰ f l → ⊥) → length l ≡ 0
    nought [] h = refl
    nought (x ∷ l) h = absurd (h x (Memᴰ.head refl))

-- ---- the order of the list
-- the broken rules of tests that rise
broken_rise : (k : ℕ) (ts : List Test) → Rising k (map (λ (t : Test). t.rule) ts) → Rising k (broken_of ts)
broken_rise k [] R = tt
broken_rise k (t ∷ ts) R = go t.broken (broken_rise (suc t.rule) ts R.1)
  where
    go : (b : Bool) → Rising (suc t.rule) (broken_of ts) → Rising k (cond b (t.rule ∷ broken_of ts) (broken_of ts))
    go true ih = (R.0, ih)
    go false ih = rising_le k (suc t.rule) (broken_of ts) (omega (arith, R.0)) ih

-- all of later lines
abbrev Later : ℕ → List Fault → Type 0
Later n [] = Unit {0}
Later n (f ∷ fs) = (n < f.line) × Later n fs

later_append : (n : ℕ) (xs ys : List Fault) → Later n xs → Later n ys → Later n (xs ++ ys)
later_append n [] ys L M = M
later_append n (x ∷ xs) ys L M = (L.0, later_append n xs ys L.1 M)

later_at : (n line : ℕ) (rs : List ℕ) → n < line → Later n (map (fault line) rs)
later_at n line [] h = tt
later_at n line (r ∷ rs) h = (h, later_at n line rs h)

faults_later : (n : ℕ) (ss : List Spot) → Rising (suc n) (map (λ (s : Spot). s.line) ss) → Later n (faults_of ss)
unfolding faults_of
faults_later n [] R = tt
faults_later n (s ∷ ss) R =
    later_append n (faults_at s) (faults_of ss) (later_at n s.line (broken_of s.tests) R.0)
    (faults_later n ss (rising_le (suc n) (suc s.line) (map (λ (s : Spot). s.line) ss) (omega (arith, R.0)) R.1))

-- one fault, then those of later rules of its line and of later lines
before_rest : (line r : ℕ) (rs : List ℕ) (fs : List Fault) → Rising (suc r) rs → Later line fs → BeforeAll (fault line r) (map (fault line) rs ++ fs)
before_rest line r [] [] R L = tt
before_rest line r [] (f ∷ fs) R L = (inl L.0, before_rest line r [] fs R L.1)
before_rest line r (q ∷ rs) fs R L = (inr (refl, R.0), before_rest line r rs fs (rising_le (suc r) (suc q) rs (omega (arith, R.0)) R.1) L)

line_ascends : (line k : ℕ) (rs : List ℕ) (fs : List Fault) → Rising k rs → Later line fs → Ascending fs → Ascending (map (fault line) rs ++ fs)
line_ascends line k [] fs R L A = A
line_ascends line k (r ∷ rs) fs R L A = (before_rest line r rs fs R.1 L, line_ascends line (suc r) rs fs R.1 L A)

-- lines that rise give the list by line and then by rule, each fault once
pub faults_ascend : (n : ℕ) (ss : List Spot) → Orderly ss → Rising n (map (λ (s : Spot). s.line) ss) → Ascending (faults_of ss)
unfolding faults_of
faults_ascend n [] O R = tt
faults_ascend n (s ∷ ss) O R =
    line_ascends s.line 0 (broken_of s.tests) (faults_of ss) (broken_rise 0 s.tests (tests_rise 0 s.tests O.0)) (faults_later s.line ss R.1)
    (faults_ascend (suc s.line) ss O.1 R.1)

-- ---- a strictly ascending list is determined by its members

never_both : (f g : Fault) → Before f g → Before g f → ⊥
never_both f g (inl p) (inl q) = omega arith
never_both f g (inl p) (inr q) = omega arith
never_both f g (inr p) (inl q) = omega arith
never_both f g (inr p) (inr q) = omega arith

before_member : (x f : Fault) (xs : List Fault) → BeforeAll x xs → Memᴰ f xs → Before x f
before_member x f [] B m = absurd (Memᴰ.not-nil m)
before_member x f (y ∷ ys) B m = go (before_member x f ys B.1) (Memᴰ.cases_cons m)
  where
    go : (Memᴰ f ys → Before x f) → (f ≡ y) ⊎ Memᴰ f ys → Before x f
    go ih (inl e) = rw e B.0
    go ih (inr n) = ih n

heads : (x y : Fault) (xs ys : List Fault) → BeforeAll x xs → BeforeAll y ys → (x ≡ y) ⊎ Memᴰ x ys → (y ≡ x) ⊎ Memᴰ y xs → x ≡ y
heads x y xs ys B C (inl e) q = e
heads x y xs ys B C (inr m) (inl e) = sym e
heads x y xs ys B C (inr m) (inr n) = absurd (never_both x y (before_member x y xs B n) (before_member y x ys C m))

-- a member of one rest is a member of the other
rests : (x y f : Fault) (xs ys : List Fault) → BeforeAll x xs → x ≡ y → Memᴰ f xs → (f ≡ y) ⊎ Memᴰ f ys → Memᴰ f ys
rests x y f xs ys B e m (inl q) =
    let b : Before x x = subst (Before x) (q ∙ sym e) (before_member x f xs B m) in
    absurd (never_both x x b b)
rests x y f xs ys B e m (inr n) = n

-- two such lists with the same members are one
pub same_members : (xs ys : List Fault) → Ascending xs → Ascending ys → ((f : Fault) → Memᴰ f xs ↔ Memᴰ f ys) → xs ≡ ys
same_members [] [] A B h = refl
same_members [] (y ∷ ys) A B h = absurd (Memᴰ.not-nil ((h y).1 (Memᴰ.head refl)))
same_members (x ∷ xs) [] A B h = absurd (Memᴰ.not-nil ((h x).0 (Memᴰ.head refl)))
same_members (x ∷ xs) (y ∷ ys) A B h =
    let e : x ≡ y = heads x y xs ys A.0 B.0 (Memᴰ.cases_cons ((h x).0 (Memᴰ.head refl))) (Memᴰ.cases_cons ((h y).1 (Memᴰ.head refl))) in
    let t : xs ≡ ys = same_members xs ys A.1 B.1 (λ f. (
      λ m. rests x y f xs ys A.0 e m (Memᴰ.cases_cons ((h f).0 (Memᴰ.tail m))),
      λ m. rests y x f ys xs B.0 (sym e) m (Memᴰ.cases_cons ((h f).1 (Memᴰ.tail m))),
    )) in
    λ i. e i ∷ t i
