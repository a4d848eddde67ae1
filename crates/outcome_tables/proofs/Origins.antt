-- From an outgoing type and the class of its output number back to the outcome and the input type: the table tells them apart but for
-- 01 and 21 returned as 61 or 71. One test, computed at every cell.
use mathlib.Core.Path.{◌≡◌, refl, sym, subst, ◌∙◌}
use mathlib.Core.Bool.{Bool, true, false, cond, not, ◌&&◌, ◌||◌, true≢false}
use mathlib.Core.List.{List, [], ◌∷◌}
use mathlib.Core.Logic.{◌⊎◌, inl, inr}
use Prim.Native.Nat.{ℕ, suc, ◌-◌, ◌≤◌, ◌<◌}
use native.Mathlib.Omega.{arith}
use lib.ListN.{get_or}
use lib.Dec.{T, eqb, leb}
use borrow.Author.Tests.{eqb-true, leb-true, ne_eqb}
use Rattle.laws.proofs.Entries.{and_left, and_right}
use Rattle.laws.proofs.Truth.{both_left, both_right}
use Rattle.headings.specs.ItemTypes.{is_priority}
use Rattle.outcome_tables.specs.Outcomes.{TypeRow, row, table, entries, outgoing, in_class, returned}
use Rattle.outcome_tables.proofs.Seven.{seven}

-- the column in which a type stands, 0 for none
abbrev column : ℕ → ℕ → List ℕ → ℕ
column e o [] = 0
column e o (x ∷ xs) = cond (eqb x e) o (column e (suc o) xs)

-- the first column in which it stands in some row
abbrev outcome_of : List TypeRow → ℕ → ℕ
outcome_of [] e = 0
outcome_of (row k es ∷ rs) e = cond (eqb (column e 1 es) 0) (outcome_of rs e) (column e 1 es)

-- the class of output numbers of an input type
abbrev pub class : ℕ → ℕ
class k = cond (eqb k 44) 3 (cond (is_priority k) 2 1)

-- the first row of a class in which it stands
abbrev type_of : List TypeRow → ℕ → ℕ → ℕ
type_of [] c e = 0
type_of (row k es ∷ rs) c e = cond (eqb (class k) c && not (eqb (column e 1 es) 0)) k (type_of rs c e)

abbrev traced : ℕ → ℕ → List ℕ → Bool
traced o k es =
    eqb (get_or es (o - 1) 0) 0 || (eqb (outcome_of table (get_or es (o - 1) 0)) o
    && (eqb (type_of table (class k) (get_or es (o - 1) 0)) k
    || (eqb k 21 && (eqb (type_of table (class k) (get_or es (o - 1) 0)) 01 && returned (get_or es (o - 1) 0)))))

abbrev each : (ℕ → List ℕ → Bool) → List TypeRow → Bool
each f [] = true
each f (row k es ∷ rs) = f k es && each f rs

at : (f : ℕ → List ℕ → Bool) (rs : List TypeRow) → T (each f rs) → (k : ℕ) → T (f k []) → T (f k (entries rs k))
at f [] t k n = n
at f (row j es ∷ rs) t k n = go (eqb k j) refl (at f rs (and_right (f j es) (each f rs) t) k n)
  where
    go : (b : Bool) → eqb k j ≡ b → T (f k (entries rs k)) → T (f k (cond b es (entries rs k)))
    go true e r = subst (λ (m : ℕ). T (f m es)) (sym (eqb-true k j e)) (and_left (f j es) (each f rs) t)
    go false e r = r

-- what the test says where there is an entry
read : (a b c d e f : Bool) → T (a || (b && (c || (d && (e && f))))) → a ≡ false → (b ≡ true) × ((c ≡ true) ⊎ ((d ≡ true) × (e ≡ true) × (f ≡ true)))
read true b c d e f t z = absurd (true≢false z)
read false false c d e f t z = absurd t
read false true true d e f t z = (refl, inl refl)
read false true false false e f t z = absurd t
read false true false true false f t z = absurd t
read false true false true true false t z = absurd t
read false true false true true true t z = (refl, inr (refl, refl, refl))

module _ (k o : ℕ) (l : 1 ≤ o) (h : o ≤ 7) (some : outgoing k o ≡ 0 → ⊥) where
  pub traces : (outcome_of table (outgoing k o) ≡ o)
      × ((type_of table (class k) (outgoing k o) ≡ k) ⊎ ((k ≡ 21) × (type_of table (class k) (outgoing k o) ≡ 01) × (returned (outgoing k o) ≡ true)))
  unfolding outgoing is_priority
  traces = go (read _ _ _ _ _ _ (at (traced o) table (seven (λ o. T (each (traced o) table)) tt tt tt tt tt tt tt o l h) k (seven (λ o. T (traced o k [])) tt tt tt tt tt tt tt o l h)) (ne_eqb _ 0 some))
    where
      e : ℕ
      e = get_or (entries table k) (o - 1) 0

      go : (eqb (outcome_of table e) o ≡ true) × ((eqb (type_of table (class k) e) k ≡ true) ⊎ ((eqb k 21 ≡ true) × (eqb (type_of table (class k) e) 01 ≡ true) × (returned e ≡ true)))
          → (outcome_of table e ≡ o) × ((type_of table (class k) e ≡ k) ⊎ ((k ≡ 21) × (type_of table (class k) e ≡ 01) × (returned e ≡ true)))
      go (a, inl b) = (eqb-true _ _ a, inl (eqb-true _ _ b))
      go (a, inr b) = (eqb-true _ _ a, inr (eqb-true _ _ b.0, eqb-true _ _ b.1, b.2))

-- of three ranges of which each ends before the next begins, a number is in one only
module _ (n l₁ g₁ l₂ g₂ l₃ g₃ : ℕ) where
  off : (l g m u : ℕ) → g < m → (leb l n && leb n g) ≡ true → (leb m n && leb n u) ≡ true → ⊥
  off l g m u h p q = omega (arith, h, leb-true n g (both_right (leb l n) (leb n g) p), leb-true m n (both_left (leb m n) (leb n u) q))

  abbrev range : Bool → Bool → Bool
  range x p = cond x (leb l₃ n && leb n g₃) (cond p (leb l₂ n && leb n g₂) (leb l₁ n && leb n g₁))

  apart : (x p y q : Bool) → range x p ≡ true → range y q ≡ true → g₁ < l₂ → g₂ < l₃ → g₁ < l₃ → ◌≡◌ {A = ℕ} (cond x 3 (cond p 2 1)) (cond y 3 (cond q 2 1))
  apart true p true q a b u v w = refl
  apart true p false true a b u v w = absurd (off l₂ g₂ l₃ g₃ v b a)
  apart true p false false a b u v w = absurd (off l₁ g₁ l₃ g₃ w b a)
  apart false true true q a b u v w = absurd (off l₂ g₂ l₃ g₃ v a b)
  apart false true false true a b u v w = refl
  apart false true false false a b u v w = absurd (off l₁ g₁ l₂ g₂ u b a)
  apart false false true q a b u v w = absurd (off l₁ g₁ l₃ g₃ w a b)
  apart false false false true a b u v w = absurd (off l₁ g₁ l₂ g₂ u a b)
  apart false false false false a b u v w = refl

-- an output number is in one class only
pub one_class : (k j n : ℕ) → in_class k n ≡ true → in_class j n ≡ true → class k ≡ class j
unfolding in_class
one_class k j n a b = apart n _ _ _ _ _ _ (eqb k 44) (is_priority k) (eqb j 44) (is_priority j) a b (omega arith) (omega arith) (omega arith)

-- two cells with one outgoing type and one class: one outcome, and one input type but for 01 and 21 returned as 61 or 71
module _ (k o j p : ℕ) (l : 1 ≤ o) (h : o ≤ 7) (m : 1 ≤ p) (g : p ≤ 7) (some : outgoing k o ≡ 0 → ⊥) (same : outgoing k o ≡ outgoing j p) (of : class k ≡ class j) where
  pub one_origin : (o ≡ p) × ((k ≡ j) ⊎ (returned (outgoing k o) ≡ true) × (((k ≡ 01) × (j ≡ 21)) ⊎ ((k ≡ 21) × (j ≡ 01))))
  one_origin =
      let a = traces k o l h some in
      let b = traces j p m g (λ z. some (same ∙ z)) in
      (sym a.0 ∙ (λ i. outcome_of table (same i)) ∙ b.0, go a.1 b.1)
    where
      t : ℕ
      t = type_of table (class k) (outgoing k o)

      u : ℕ
      u = type_of table (class j) (outgoing j p)

      tu : t ≡ u
      tu = λ i. type_of table (of i) (same i)

      go : ((t ≡ k) ⊎ ((k ≡ 21) × (t ≡ 01) × (returned (outgoing k o) ≡ true))) → ((u ≡ j) ⊎ ((j ≡ 21) × (u ≡ 01) × (returned (outgoing j p) ≡ true)))
          → (k ≡ j) ⊎ (returned (outgoing k o) ≡ true) × (((k ≡ 01) × (j ≡ 21)) ⊎ ((k ≡ 21) × (j ≡ 01)))
      go (inl a) (inl b) = inl (sym a ∙ tu ∙ b)
      go (inl a) (inr b) = inr ((λ i. returned (same i)) ∙ b.2, inl (sym a ∙ tu ∙ b.1, b.0))
      go (inr a) (inl b) = inr (a.2, inr (a.0, sym b ∙ sym tu ∙ a.1))
      go (inr a) (inr b) = inl (a.0 ∙ sym b.0)
