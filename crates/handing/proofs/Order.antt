-- The test whether two slices hold pairs in order answers just what entering asks; and the loop that looks at the pairs.
use mathlib.Core.Path.{◌≡◌, refl, sym, ap, ◌∙◌}
use mathlib.Core.Bool.{Bool, true, false, ◌&&◌}
use mathlib.Core.List.{List, [], ◌∷◌, zip_with}
use Prim.Native.Nat.{ℕ, zero, suc, ◌+◌, ◌≤◌, ◌<◌}
use native.Mathlib.Numerals.{add-one}
use native.Mathlib.Omega.{arith}
use lib.Dec.{leb, eqb}
use lib.ListN.{length, drop, get_or, length-take, drop_of_length-le}
use borrow.Author.Tests.{leb-true, eqb-true, le-leb, lt-leb, eq-eqb, ne_eqb}
use Rattle.laws.proofs.Truth.{both_left, both_right}
use Rattle.rules.specs.Faults.{Fault, fault}
use Rattle.ledger.specs.Marks.{key}
use Rattle.ledger.specs.Slices.{pairs, held, Ordered, Ready}
use Rattle.handing.specs.Ready.{ascends, is_ready}

-- ---- what it answers

ascends_so : (k : ℕ) (xs : List Fault) → ascends k xs ≡ true → Ordered k xs
ascends_so k [] e = tt
ascends_so k (x ∷ xs) e =
    (leb-true k (key x) (both_left (leb k (key x)) (ascends (key x) xs) e), ascends_so (key x) xs (both_right (leb k (key x)) (ascends (key x) xs) e))

so_ascends : (k : ℕ) (xs : List Fault) → Ordered k xs → ascends k xs ≡ true
so_ascends k [] O = refl
so_ascends k (x ∷ xs) O = rw (le-leb k (key x) O.0, so_ascends (key x) xs O.1)

-- the order alone is left to ask
order_left : (n : ℕ) (ls rs : List ℕ) → n ≤ length ls → length ls ≡ length rs → is_ready n ls rs ≡ ascends 0 (held n ls rs)
unfolding is_ready
order_left n ls rs h e = rw (le-leb n (length ls) h, eq-eqb (length ls) (length rs) e)

-- it holds only of slices that may be entered in
pub ready_so : {n : ℕ} {ls rs : List ℕ} → is_ready n ls rs ≡ true → Ready n ls rs
unfolding is_ready
ready_so {n} {ls} {rs} e =
    let a : Bool = leb n (length ls) in
    let b : Bool = eqb (length ls) (length rs) in
    let c : Bool = ascends 0 (held n ls rs) in
    let f : (b && c) ≡ true = both_right a (b && c) e in
    record {
      room = leb-true n (length ls) (both_left a (b && c) e);
      same = eqb-true (length ls) (length rs) (both_left b c f);
      order = ascends_so 0 (held n ls rs) (both_right b c f);
    }

-- and of all of them
pub so_ready : {n : ℕ} {ls rs : List ℕ} → Ready n ls rs → is_ready n ls rs ≡ true
so_ready {n} {ls} {rs} R = order_left n ls rs R.room R.same ∙ so_ascends 0 (held n ls rs) R.order

-- ---- the loop

-- the pair that is looked at next
held_cons : (n : ℕ) (ls rs : List ℕ) (i : ℕ) → i < n → n ≤ length ls → length ls ≡ length rs
    → drop i (held n ls rs) ≡ fault (get_or ls i 0) (get_or rs i 0) ∷ drop (suc i) (held n ls rs)
unfolding zip_with
held_cons zero ls rs i h k e = absurd (omega arith)
held_cons (suc n) [] rs i h k e = absurd (omega arith)
held_cons (suc n) (l ∷ ls) [] i h k e = absurd (omega arith)
held_cons (suc n) (l ∷ ls) (r ∷ rs) zero h k e = refl
held_cons (suc n) (l ∷ ls) (r ∷ rs) (suc i) h k e = held_cons n ls rs i (omega arith) (omega arith) (omega arith)

-- all is in order where what is left is, from the last key on
pub record Looking (n : ℕ) (ls rs : List ℕ) (k i : ℕ) : Type 0 where
  pub room : n ≤ length ls
  pub same : length ls ≡ length rs
  pub to : i ≤ n
  pub left : ascends 0 (held n ls rs) ≡ ascends k (drop i (held n ls rs))

module _ (n : ℕ) (ls rs : List ℕ) where
  -- fewer places than pairs
  pub too_few : length ls < n → false ≡ is_ready n ls rs
  unfolding is_ready
  too_few h = rw (lt-leb n (length ls) h)

  -- slices of two lengths
  pub unequal : n ≤ length ls → (length ls ≡ length rs → ⊥) → false ≡ is_ready n ls rs
  unfolding is_ready
  unequal h d = rw (le-leb n (length ls) h, ne_eqb (length ls) (length rs) d)

-- nothing is looked at
pub look_start : {n : ℕ} {ls rs : List ℕ} → n ≤ length ls → length ls ≡ length rs → Looking n ls rs 0 0
look_start h e = record { room = h; same = e; to = omega arith; left = refl }

module _ {n : ℕ} {ls rs : List ℕ} {k i : ℕ} (L : Looking n ls rs k i) where
  all : is_ready n ls rs ≡ ascends k (drop i (held n ls rs))
  all = order_left n ls rs L.room L.same ∙ L.left

  module _ {x : ℕ} (h : i < n) (e : x ≡ key (fault (get_or ls i 0) (get_or rs i 0))) where
    next : ascends k (drop i (held n ls rs)) ≡ (leb k x && ascends x (drop (suc i) (held n ls rs)))
    next = rw e (ap (ascends k) (held_cons n ls rs i h L.room L.same))

    -- a pair that comes before the one above it
    pub look_falls : x < k → false ≡ is_ready n ls rs
    look_falls g = sym (all ∙ next ∙ rw (lt-leb k x g))

    -- one that does not
    pub look_more : k ≤ x → Looking n ls rs x (i + 1)
    look_more g = record { room = L.room; same = L.same; to = omega arith; left = L.left ∙ next ∙ rw (le-leb k x g, add-one) }

  -- all are looked at
  pub look_end : n ≤ i → true ≡ is_ready n ls rs
  look_end h =
      let none : length (held n ls rs) ≤ i = omega (arith, length-take n (pairs ls rs)) in
      sym (all ∙ ap (ascends k) (drop_of_length-le (held n ls rs) none))
