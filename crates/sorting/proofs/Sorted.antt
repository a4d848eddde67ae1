-- What std promises of its sort, in the words of this crate.
use Prim.Native.Nat.{ℕ, zero, suc, ◌+◌, ◌≤◌, ◌<◌}
use native.Mathlib.Omega.{arith}
use mathlib.Core.Path.{◌≡◌, refl, sym, ap, ◌∙◌, subst}
use mathlib.Core.Bool.{Bool, true, false, cond, false≢true}
use mathlib.Core.List.{List, [], ◌∷◌}
use lib.Dec.{eqb}
use lib.ListN.{length, get_or, set}
use lib.Seq.{get_or-set_same, get_or-set_other, lt-length-set}
use borrow.Author.Tests.{eqb-true, eqb-false, eq-eqb}
use Rattle.std.proofs.Common.{Ordering, Less, Equal, Greater}
use Rattle.std.specs.Ordering.{MatchOrdering, is_lt, nat_cmp}
use Rattle.std.specs.Cmp.{ranks}
use Rattle.std.specs.List.Sorted.{IsPermutation, IsSorted}
use Rattle.std.proofs.lemmas.List.Sorted.{IsPermutation-keeps}
use Rattle.std.proofs.lemmas.List.Edits.{swap_is}
use Rattle.sorting.specs.Sorting.{count, Same, Rises, Within, Ordered}

-- ---- a number stands as often after an exchange, and so in any other order
abbrev one : ℕ → ℕ → ℕ
one x y = cond (eqb x y) 1 0

set_count : (x : ℕ) (s : List ℕ) (i v : ℕ) → i < length s → count x (set s i v) + one x (get_or s i 0) ≡ count x s + one x v
unfolding count
set_count x [] i v h = absurd (omega arith)
set_count x (y ∷ s) zero v h = omega arith
set_count x (y ∷ s) (suc i) v h = let ih = set_count x s i v (omega arith) in omega (arith, ih)

read_set : (s : List ℕ) (i j v : ℕ) → i < length s → v ≡ get_or s j 0 → get_or (set s i v) j 0 ≡ get_or s j 0
read_set s i j v h e = go (eqb j i) refl
  where
    go : (t : Bool) → eqb j i ≡ t → get_or (set s i v) j 0 ≡ get_or s j 0
    go true q = let same : j ≡ i = eqb-true j i q in ap (λ (k : ℕ). get_or (set s i v) k 0) same ∙ get_or-set_same s i v 0 h ∙ e
    go false q = get_or-set_other s i j v 0 (eqb-false j i q)

swap_same : (s : List ℕ) (i j : ℕ) → i < length s → j < length s → Same s (set (set s i (get_or s j 0)) j (get_or s i 0))
swap_same s i j hi hj x =
    let a = set_count x s i (get_or s j 0) hi in
    let b = set_count x (set s i (get_or s j 0)) j (get_or s i 0) (lt-length-set s i (get_or s j 0) hj) in
    let r : one x (get_or (set s i (get_or s j 0)) j 0) ≡ one x (get_or s j 0) = ap (one x) (read_set s i j (get_or s j 0) hi refl) in
    omega (arith, a, b, r)

same_of : (xs ys : List ℕ) → IsPermutation xs ys → Same xs ys
same_of xs ys p x = IsPermutation-keeps xs (λ l. count x xs ≡ count x l) refl (λ l i j a b h. h ∙ swap_same l i j a b x ∙ ap (count x) (swap_is l i j 0 a b)) ys p

-- ---- order
no_less : (a b : ℕ) → is_lt (nat_cmp a b) ≡ false → b ≤ a
no_less a b e = go (nat_cmp a b) e (ranks a b)
  where
    go : (r : Ordering) → is_lt r ≡ false → MatchOrdering r (a < b) (a ≡ b) (b < a) → b ≤ a
    go Less e h = absurd (false≢true (sym e))
    go Equal e h = omega arith
    go Greater e h = omega arith

later : (y : ℕ) (ys : List ℕ) → IsSorted nat_cmp (y ∷ ys) → IsSorted nat_cmp ys
later y ys S i d a b =
    let e : suc i + 1 ≡ suc (i + 1) = omega arith in
    subst (λ (n : ℕ). is_lt (nat_cmp (get_or (y ∷ ys) n d) (get_or ys i d)) ≡ false) e (S (suc i) d (omega arith) (omega (arith, b)))

climbs : (k : ℕ) (ys : List ℕ) → IsSorted nat_cmp ys → (0 < length ys → k ≤ get_or ys 0 0) → Rises k ys
climbs k [] S h = tt
climbs k (y ∷ ys) S h = (
  h (omega arith),
  climbs y ys (later y ys S) (λ q. no_less (get_or ys 0 0) y (S 0 0 (omega arith) (omega (arith, q)))),
)

-- ---- bounds
within_at : (lo hi : ℕ) (s : List ℕ) → Within lo hi s → (i : ℕ) → i < length s → (lo ≤ get_or s i 0) × (get_or s i 0 < hi)
within_at lo hi [] W i h = absurd (omega arith)
within_at lo hi (y ∷ s) W zero h = (W.0, W.1)
within_at lo hi (y ∷ s) W (suc i) h = within_at lo hi s W.2 i (omega arith)

-- what stands in a list is within its bounds
stands : (lo hi x : ℕ) (s : List ℕ) → Within lo hi s → 0 < count x s → (lo ≤ x) × (x < hi)
unfolding count
stands lo hi x [] W h = absurd (omega arith)
stands lo hi x (y ∷ s) W h = go (eqb x y) refl (λ q. stands lo hi x s W.2 q)
  where
    go : (t : Bool) → eqb x y ≡ t → (0 < count x s → (lo ≤ x) × (x < hi)) → (lo ≤ x) × (x < hi)
    go true e ih = let same : x ≡ y = eqb-true x y e in (omega (arith, same, W.0), omega (arith, same, W.1))
    go false e ih = ih (let z : one x y ≡ 0 = ap (λ (t : Bool). cond t 1 0) e in omega (arith, h, z))

same_within : (lo hi : ℕ) (s t : List ℕ) → Same s t → Within lo hi s → Within lo hi t
unfolding count
same_within lo hi s t S W = go t (λ x h. stands lo hi x s W (let e = S x in omega (arith, e, h)))
  where
    go : (t : List ℕ) → ((x : ℕ) → 0 < count x t → (lo ≤ x) × (x < hi)) → Within lo hi t
    go [] f = tt
    go (y ∷ t) f =
        let b = f y (let z : one y y ≡ 1 = ap (λ (t : Bool). cond t 1 0) (eq-eqb y y refl) in omega (arith, z)) in
        (b.0, b.1, go t (λ x h. f x (omega (arith, h))))

pub ordered : (xs ys : List ℕ) → IsPermutation xs ys → IsSorted nat_cmp ys → (lo hi : ℕ) → Within lo hi xs → Ordered lo xs ys
ordered xs ys p S lo hi W =
    let same = same_of xs ys p in
    record { rises = climbs lo ys S (λ q. (within_at lo hi ys (same_within lo hi xs ys same W) 0 q).0); same = same }
