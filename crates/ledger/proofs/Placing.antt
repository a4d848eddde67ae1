-- The place of a fault among those held, looked for from the back: the loop of `place`.
use mathlib.Core.Path.{◌≡◌, refl, sym, ap, subst, ◌∙◌}
use mathlib.Core.Bool.{Bool, true, false, cond}
use mathlib.Core.List.{List, [], ◌∷◌, ◌++◌, append_assoc, append-nil}
use Prim.Native.Nat.{ℕ, zero, suc, ◌+◌, ◌-◌, ◌*◌, ◌≤◌, ◌<◌}
use native.Mathlib.Omega.{arith}
use lib.Dec.{ltb}
use lib.ListN.{length, take, drop, get_or}
use lib.Seq.{take-length, drop-length, take-suc, drop-cons}
use borrow.Author.Tests.{le-ltb}
use Rattle.rules.specs.Faults.{Fault, fault}
use Rattle.ledger.specs.Marks.{key, insert}
use Rattle.ledger.specs.Slices.{held, Ordered, Ready}
use Rattle.ledger.proofs.Insertion.{insert_gt}
use Rattle.ledger.proofs.Pairs.{held_length, held_key}

-- a last pair that does not come before x stays the last
insert_snoc : (x y : Fault) (zs : List Fault) → key x ≤ key y → insert x (zs ++ (y ∷ [])) ≡ insert x zs ++ (y ∷ [])
unfolding insert
insert_snoc x y [] h = rw (le-ltb (key y) (key x) h)
insert_snoc x y (z ∷ zs) h = go (insert_snoc x y zs h) (ltb (key z) (key x))
  where
    go : insert x (zs ++ (y ∷ [])) ≡ insert x zs ++ (y ∷ []) → (t : Bool)
        → cond t (z ∷ insert x (zs ++ (y ∷ []))) (x ∷ z ∷ (zs ++ (y ∷ []))) ≡ cond t (z ∷ insert x zs) (x ∷ z ∷ zs) ++ (y ∷ [])
    go ih true = ap (λ (l : List Fault). z ∷ l) ih
    go ih false = refl

ordered_get : (k : ℕ) (ys : List Fault) (q : ℕ) (d : Fault) → Ordered k ys → q < length ys → k ≤ key (get_or ys q d)
ordered_get k [] q d O h = absurd (omega arith)
ordered_get k (y ∷ ys) zero d O h = O.0
ordered_get k (y ∷ ys) (suc q) d O h = omega (arith, O.0, ordered_get (key y) ys q d O.1 (omega arith))

-- x comes after a pair, and so after all above it
insert_after : (k : ℕ) (x : Fault) (ys : List Fault) (q : ℕ) (d : Fault) → Ordered k ys → q < length ys → key (get_or ys q d) < key x
    → insert x (take (suc q) ys) ≡ take (suc q) ys ++ (x ∷ [])
insert_after k x [] q d O h l = absurd (omega arith)
insert_after k x (y ∷ ys) zero d O h l = insert_gt x y [] l ∙ (unfold insert in refl)
insert_after k x (y ∷ ys) (suc q) d O h l =
    let g : q < length ys = omega arith in
    insert_gt x y (take (suc q) ys) (omega (arith, ordered_get (key y) ys q d O.1 g))
    ∙ ap (λ (z : List Fault). y ∷ z) (insert_after (key y) x ys q d O.1 g l)

abbrev none : Fault
none = fault 0 0

-- x comes before all from p on
pub record Placing (n : ℕ) (ls rs : List ℕ) (x : Fault) (p : ℕ) : Type 0 where
  pub to : p ≤ n
  pub same : insert x (held n ls rs) ≡ insert x (take p (held n ls rs)) ++ drop p (held n ls rs)

-- x stands at p
abbrev pub Placed : ℕ → List ℕ → List ℕ → Fault → ℕ → Type 0
Placed n ls rs x p = insert x (held n ls rs) ≡ take p (held n ls rs) ++ (x ∷ drop p (held n ls rs))

whole : (x : Fault) (H : List Fault) (n : ℕ) → length H ≡ n → insert x H ≡ insert x (take n H) ++ drop n H
whole x H n e = sym (append-nil (insert x H)) ∙ rw (← e, take-length, drop-length)

-- nothing is looked at
pub place_start : {n : ℕ} {ls rs : List ℕ} {x : Fault} → Ready n ls rs → Placing n ls rs x n
place_start {n} {ls} {rs} {x} R = record { to = omega arith; same = whole x (held n ls rs) n (held_length n ls rs R) }

module _ {n : ℕ} {ls rs : List ℕ} {x : Fault} {p k kq : ℕ} (R : Ready n ls rs) (P : Placing n ls rs x p) (h : 0 < p) (ek : k ≡ key x)
    (eq : kq ≡ 64 * get_or ls (p - 1) 0 + get_or rs (p - 1) 0) where
  H : List Fault
  H = held n ls rs

  e : p ≡ suc (p - 1)
  e = omega arith

  inside : p - 1 < length H
  unfolding H
  inside = omega (arith, P.to, held_length n ls rs R)

  at_key : key (get_or H (p - 1) none) ≡ kq
  unfolding H
  at_key = held_key n ls rs R (p - 1) none (omega (arith, P.to)) ∙ sym eq

  -- x does not come after the pair before p
  pub place_more : k ≤ kq → Placing n ls rs x (p - 1)
  unfolding H
  place_more g = record {
    to = omega (arith, P.to);
    same = P.same ∙ ap (λ (m : ℕ). insert x (take m H) ++ drop m H) e
        ∙ ap (λ (z : List Fault). insert x z ++ drop (suc (p - 1)) H) (take-suc H (p - 1) none inside)
        ∙ ap (λ (z : List Fault). z ++ drop (suc (p - 1)) H) (insert_snoc x (get_or H (p - 1) none) (take (p - 1) H) (omega (arith, at_key)))
        ∙ append_assoc (insert x (take (p - 1) H)) (get_or H (p - 1) none ∷ []) (drop (suc (p - 1)) H)
        ∙ ap (λ (z : List Fault). insert x (take (p - 1) H) ++ z) (sym (drop-cons H (p - 1) none inside));
  }

  -- x comes after it
  pub place_hit : kq < k → Placed n ls rs x (p - 1 + 1)
  unfolding H
  place_hit g = let back : p ≡ p - 1 + 1 = omega arith in
      subst (Placed n ls rs x) back
      (P.same
      ∙ ap (λ (z : List Fault). z ++ drop p H)
      (ap (λ (m : ℕ). insert x (take m H)) e ∙ insert_after 0 x H (p - 1) none R.order inside (omega (arith, at_key)) ∙ ap (λ (m : ℕ). take m H ++ (x ∷ [])) (sym e))
      ∙ append_assoc (take p H) (x ∷ []) (drop p H))

-- x comes before all
pub place_end : {n : ℕ} {ls rs : List ℕ} {x : Fault} {p : ℕ} → Placing n ls rs x p → p ≤ 0 → Placed n ls rs x 0
unfolding insert
place_end {n} {ls} {rs} {x} {p} P h = let z : p ≡ 0 = omega arith in P.same ∙ rw z
