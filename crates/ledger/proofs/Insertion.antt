-- Faults put in at their places: the room, the length and the order of the list, and that the order of two does not matter.
use mathlib.Core.Path.{◌≡◌, refl, sym, ap, ◌∙◌}
use mathlib.Core.Bool.{Bool, true, false, cond}
use mathlib.Core.List.{List, [], ◌∷◌, ◌++◌, map}
use mathlib.Core.Logic.{◌⊎◌, inl, inr}
use Prim.Native.Nat.{ℕ, zero, suc, ◌+◌, ◌≤◌, ◌<◌}
use native.Mathlib.Omega.{arith}
use lib.Dec.{ltb}
use lib.ListN.{length, take}
use lib.Seq.{take-take}
use borrow.Author.Tests.{ltb-true, ltb-false, le-ltb, lt-ltb}
use Rattle.laws.proofs.Truth.{le_or_lt}
use Rattle.rules.specs.Faults.{Fault}
use Rattle.rules.proofs.Rising.{Under}
use Rattle.ledger.specs.Marks.{key, insert, insert_all}
use Rattle.ledger.specs.Slices.{Ordered}

-- ---- the room

take_insert : (n : ℕ) (x : Fault) (ys : List Fault) → take n (insert x ys) ≡ take n (insert x (take n ys))
unfolding insert
take_insert zero x ys = refl
take_insert (suc n) x [] = refl
take_insert (suc n) x (y ∷ ys) = go (take_insert n x ys) (cons n) (ltb (key y) (key x))
  where
    cons : (n : ℕ) → take n (y ∷ ys) ≡ take n (y ∷ take n ys)
    cons zero = refl
    cons (suc n) = ap (λ (l : List Fault). y ∷ l) (sym (take-take n (suc n) ys (omega arith)))

    go : take n (insert x ys) ≡ take n (insert x (take n ys)) → take n (y ∷ ys) ≡ take n (y ∷ take n ys) → (t : Bool)
        → take (suc n) (cond t (y ∷ insert x ys) (x ∷ y ∷ ys)) ≡ take (suc n) (cond t (y ∷ insert x (take n ys)) (x ∷ y ∷ take n ys))
    go ih c true = ap (λ (l : List Fault). y ∷ l) ih
    go ih c false = ap (λ (l : List Fault). x ∷ l) c

-- what does not fit now will not fit later
pub take_insert_all : (n : ℕ) (xs ys : List Fault) → take n (insert_all xs ys) ≡ take n (insert_all xs (take n ys))
unfolding insert_all
take_insert_all n [] ys = sym (take-take n n ys (omega arith))
take_insert_all n (x ∷ xs) ys =
    take_insert_all n xs (insert x ys) ∙ ap (λ (l : List Fault). take n (insert_all xs l)) (take_insert n x ys) ∙ sym (take_insert_all n xs (insert x (take n ys)))

-- ---- the length

length_insert : (x : Fault) (ys : List Fault) → length (insert x ys) ≡ suc (length ys)
unfolding insert
length_insert x [] = refl
length_insert x (y ∷ ys) = go (length_insert x ys) (ltb (key y) (key x))
  where
    go : length (insert x ys) ≡ suc (length ys) → (t : Bool) → length (cond t (y ∷ insert x ys) (x ∷ y ∷ ys)) ≡ suc (suc (length ys))
    go ih true = ap suc ih
    go ih false = refl

-- each fault is put in
pub length_insert_all : (xs ys : List Fault) → length (insert_all xs ys) ≡ length xs + length ys
unfolding insert_all
length_insert_all [] ys = omega arith
length_insert_all (x ∷ xs) ys = omega (arith, length_insert_all xs (insert x ys), length_insert x ys)

-- some faults, then others
pub insert_all_append : (xs ys zs : List Fault) → insert_all (xs ++ ys) zs ≡ insert_all ys (insert_all xs zs)
unfolding insert_all
insert_all_append [] ys zs = refl
insert_all_append (x ∷ xs) ys zs = insert_all_append xs ys (insert x zs)

-- ---- the order

-- a list in order stays in order
pub ordered_insert : (k : ℕ) (x : Fault) (ys : List Fault) → Ordered k ys → k ≤ key x → Ordered k (insert x ys)
unfolding insert
ordered_insert k x [] O h = (h, tt)
ordered_insert k x (y ∷ ys) O h = go (λ (l : key y ≤ key x). ordered_insert (key y) x ys O.1 l) (ltb (key y) (key x)) refl
  where
    go : (key y ≤ key x → Ordered (key y) (insert x ys)) → (t : Bool) → ltb (key y) (key x) ≡ t → Ordered k (cond t (y ∷ insert x ys) (x ∷ y ∷ ys))
    go ih true e = (O.0, ih (omega (arith, ltb-true (key y) (key x) e)))
    go ih false e = (h, (ltb-false (key y) (key x) e, O.1))

-- so does its first part
pub ordered_take : (k n : ℕ) (ys : List Fault) → Ordered k ys → Ordered k (take n ys)
ordered_take k zero ys O = tt
ordered_take k (suc n) [] O = tt
ordered_take k (suc n) (y ∷ ys) O = (O.0, ordered_take (key y) n ys O.1)

-- ---- two faults in either order

insert_le : (x y : Fault) (ys : List Fault) → key x ≤ key y → insert x (y ∷ ys) ≡ x ∷ y ∷ ys
unfolding insert
insert_le x y ys h = rw (le-ltb (key y) (key x) h)

-- after a fault that comes before it
pub insert_gt : (x y : Fault) (ys : List Fault) → key y < key x → insert x (y ∷ ys) ≡ y ∷ insert x ys
unfolding insert
insert_gt x y ys h = rw (lt-ltb (key y) (key x) h)

module _ (a b : Fault) (same : key a ≡ key b → a ≡ b) where
  ahead : (l : List Fault) → insert a l ≡ a ∷ l → insert b l ≡ b ∷ l → insert a (insert b l) ≡ insert b (insert a l)
  ahead l ea eb = go (le_or_lt (key a) (key b)) (le_or_lt (key b) (key a))
    where
      go : (key a ≤ key b) ⊎ (key b < key a) → (key b ≤ key a) ⊎ (key a < key b) → insert a (insert b l) ≡ insert b (insert a l)
      go (inl p) (inl q) = let e : a ≡ b = same (omega arith) in rw e
      go (inl p) (inr q) = rw (eb, ea, insert_le a b l p, insert_gt b a l q, eb)
      go (inr p) (inl q) = rw (eb, ea, insert_gt a b l p, insert_le b a l q, ea)
      go (inr p) (inr q) = absurd (omega arith)

  insert_comm : (l : List Fault) → insert a (insert b l) ≡ insert b (insert a l)
  insert_comm [] = ahead [] (unfold insert in refl) (unfold insert in refl)
  insert_comm (x ∷ xs) = go (insert_comm xs) (le_or_lt (key a) (key x)) (le_or_lt (key b) (key x))
    where
      go : insert a (insert b xs) ≡ insert b (insert a xs) → (key a ≤ key x) ⊎ (key x < key a) → (key b ≤ key x) ⊎ (key x < key b) → insert a (insert b (x ∷ xs)) ≡ insert b (insert a (x ∷ xs))
      go ih (inl p) (inl q) = ahead (x ∷ xs) (insert_le a x xs p) (insert_le b x xs q)
      go ih (inl p) (inr q) = rw (insert_gt b x xs q, insert_le a x xs p, insert_le a x (insert b xs) p, insert_gt b a (x ∷ xs) (omega arith), insert_gt b x xs q)
      go ih (inr p) (inl q) = rw (insert_le b x xs q, insert_gt a x xs p, insert_le b x (insert a xs) q, insert_gt a b (x ∷ xs) (omega arith), insert_gt a x xs p)
      go ih (inr p) (inr q) = rw (insert_gt b x xs q, insert_gt a x xs p, insert_gt a x (insert b xs) p, insert_gt b x (insert a xs) q, ih)

key_same : (a b : Fault) → a.rule < 64 → b.rule < 64 → key a ≡ key b → a ≡ b
key_same a b p q e =
    let l : a.line ≡ b.line = omega arith in
    let r : a.rule ≡ b.rule = omega arith in
    λ i. record { line = l i; rule = r i }

-- every rule is below 64
abbrev pub Small : List Fault → Type 0
Small xs = Under 64 (map (λ (f : Fault). f.rule) xs)

insert_past : (x : Fault) (ys l : List Fault) → x.rule < 64 → Small ys → insert_all ys (insert x l) ≡ insert x (insert_all ys l)
unfolding insert_all
insert_past x [] l h S = refl
insert_past x (y ∷ ys) l h S = ap (insert_all ys) (insert_comm y x (key_same y x S.0 h) l) ∙ insert_past x ys (insert y l) h S.1

-- the order of two lists of faults does not matter
pub insert_all_swap : (xs ys l : List Fault) → Small xs → Small ys → insert_all xs (insert_all ys l) ≡ insert_all ys (insert_all xs l)
unfolding insert_all
insert_all_swap [] ys l S T = refl
insert_all_swap (x ∷ xs) ys l S T = ap (insert_all xs) (sym (insert_past x ys l S.0 T)) ∙ insert_all_swap xs ys (insert x l) S.1 T
