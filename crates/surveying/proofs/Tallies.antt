-- The groups of a walk: with what is left of the items they are the groups of all.
use Prim.Native.Nat.{ℕ, ◌+◌, ◌<◌, ◌≤◌, min}
use native.Mathlib.Omega.{arith}
use mathlib.Core.Path.{◌≡◌, refl, sym, ap, ◌∙◌}
use mathlib.Core.Bool.{Bool, true, false, cond}
use mathlib.Core.List.{List}
use lib.Dec.{eqb, ltb}
use lib.ListN.{get_or, set}
use borrow.Author.Tests.{eqb-true, eq-eqb, ne_eqb, ltb-true, ltb-false}
use Rattle.laws.proofs.Truth.{by_test}
use Rattle.group_sums.specs.Model.{plus_at}
use Rattle.account.specs.Summary.{ten}
use Rattle.account.proofs.Ten.{get_ten, set_ten, same_ten, cap_cap}

-- xs is a number for each group; with what is left, up to the cap, what all make
pub record Tally (cap : ℕ) (left all : ℕ → ℕ) (xs : List ℕ) : Type 0 where
  pub each : ℕ → ℕ
  pub held : xs ≡ ten each
  pub capped : (d : ℕ) → each d ≤ cap
  pub adds : (d : ℕ) → d < 10 → min cap (each d + left d) ≡ min cap (all d)

-- at the start all is left
pub tally_start : {cap : ℕ} {all : ℕ → ℕ} {xs : List ℕ} → xs ≡ ten (λ d. 0) → Tally cap all all xs
tally_start {cap} {all} e = record { each = λ d. 0; held = e; capped = λ d. omega arith; adds = λ d l. ap (min cap) (let z : 0 + all d ≡ all d = omega arith in z) }

-- at the end nothing is
pub tally_end : {cap : ℕ} {left all : ℕ → ℕ} {xs : List ℕ} → Tally cap left all xs → ((d : ℕ) → left d ≡ 0) → xs ≡ ten (λ d. min cap (all d))
tally_end {cap} {left} {all} {xs} t z =
    t.held ∙ same_ten t.each (λ d. min cap (all d)) (λ d l. omega (arith, t.adds d l, t.capped d, z d))

-- an amount more in group e, which was the first of what was left
module _ {cap : ℕ} {left all : ℕ → ℕ} {xs xs' : List ℕ} (e u : ℕ) (left' : ℕ → ℕ) (t : Tally cap left all xs) (p : xs' ≡ plus_at cap xs e u)
    (h : (d : ℕ) → left d ≡ cond (eqb e d) (u + left' d) (left' d)) where
  abbrev next : ℕ → ℕ
  next d = cond (eqb e d) (min cap (t.each e + u)) (t.each d)

  capped_on : (d : ℕ) → next d ≤ cap
  capped_on d = by_test (eqb e d)
      (λ q. rw q (omega arith))
      (λ q. rw q (t.capped d))

  adds_on : (d : ℕ) → d < 10 → min cap (next d + left' d) ≡ min cap (all d)
  adds_on d l = by_test (eqb e d)
      (λ q. rw q (
      let s : e ≡ d = eqb-true e d q in
      let w : left d ≡ u + left' d = h d ∙ ap (λ (b : Bool). cond b (u + left' d) (left' d)) q in
      cap_cap cap (t.each e + u) (left' d)
      ∙ ap (min cap) (let z : t.each e + u + left' d ≡ t.each d + left d = omega (arith, ap t.each s, w) in z)
      ∙ t.adds d l))
      (λ q. rw q (
      let w : left d ≡ left' d = h d ∙ ap (λ (b : Bool). cond b (u + left' d) (left' d)) q in
      ap (λ (x : ℕ). min cap (t.each d + x)) (sym w) ∙ t.adds d l))

  apart : (d : ℕ) → (d ≡ e → ⊥) → t.each d ≡ next d
  apart d n = ap (λ (b : Bool). cond b (min cap (t.each e + u)) (t.each d)) (sym (ne_eqb e d (λ q. n (sym q))))

  held_on : xs' ≡ ten next
  unfolding plus_at
  held_on = p ∙ go (ltb e 10) refl
    where
      go : (b : Bool) → ltb e 10 ≡ b → cond b (set xs e (min cap (get_or xs e 0 + u))) xs ≡ ten next
      go true q =
          let l = ltb-true e 10 q in
          ap (λ (ys : List ℕ). set ys e (min cap (get_or ys e 0 + u))) t.held
          ∙ ap (λ (v : ℕ). set (ten t.each) e (min cap (v + u))) (get_ten t.each e l)
          ∙ set_ten t.each next e (min cap (t.each e + u)) l (ap (λ (b : Bool). cond b (min cap (t.each e + u)) (t.each e)) (eq-eqb e e refl)) apart
      go false q = t.held ∙ same_ten t.each next (λ d l. apart d (λ z. omega (arith, z, l, ltb-false e 10 q)))

  pub tally_on : Tally cap left' all xs'
  tally_on = record { each = next; held = held_on; capped = capped_on; adds = adds_on }
