-- The turnovers of one side together, and what a movement does to them.
use Prim.Native.Nat.{ℕ, zero, suc, ◌+◌, ◌*◌, ◌≤◌, ◌<◌}
use native.Mathlib.Omega.{arith}
use mathlib.Core.Path.{◌≡◌, refl, sym, ap, ◌∙◌}
use mathlib.Core.Bool.{Bool, true, false, cond, ◌||◌}
use mathlib.Core.List.{List}
use lib.Dec.{eqb}
use lib.ListN.{length, get_or, set, length-set}
use lib.Seq.{get_or-set_same, get_or-set_other}
use lib.IntN.{ℤ, pos, ◌+ℤ◌, +ℤ_assoc, +ℤ_comm, +ℤ_idr}
use borrow.Author.Tests.{ltb-true, eqb-true, eqb-false}
use Rattle.laws.specs.Tests.{among}
use Rattle.laws.proofs.Truth.{both_left, both_right}
use Rattle.fields.specs.Kinds.{place}
use Rattle.fields.proofs.Places.{place_in}
use Rattle.turnovers.specs.declared.Move.{Move}
use Rattle.sums.specs.Sums.{signed, plus_at}
use Rattle.booking.specs.Sheet.{together, cell, is_listed, moved}

swap : (a x b : ℤ) → (a +ℤ x) +ℤ b ≡ (a +ℤ b) +ℤ x
swap a x b = +ℤ_assoc a x b ∙ ap (λ (z : ℤ). a +ℤ z) (+ℤ_comm x b) ∙ sym (+ℤ_assoc a b x)

-- a turnover elsewhere
elsewhere : (n side : ℕ) (ts : List ℤ) (k : ℕ) (v : ℤ) → ((i : ℕ) → i < n → 4 * i + side ≡ k → ⊥) → together n side (set ts k v) ≡ together n side ts
elsewhere zero side ts k v h = refl
elsewhere (suc n) side ts k v h =
    (λ i. elsewhere n side ts k v (λ j l. h j (omega arith)) i +ℤ get_or-set_other ts k (4 * n + side) v (pos 0) (λ e. h n (omega arith) e) i)

-- a turnover of that side
here : (n side : ℕ) (ts : List ℤ) (j : ℕ) (x : ℤ) → j < n → 4 * j + side < length ts → together n side (plus_at ts (4 * j + side) x) ≡ together n side ts +ℤ x
here zero side ts j x l b = absurd (omega arith)
here (suc n) side ts j x l b = go (eqb j n) refl (λ h. here n side ts j x h b)
  where
    less : (j n : ℕ) → j < suc n → (j ≡ n → ⊥) → j < n
    less j n h q = omega arith

    go : (t : Bool) → eqb j n ≡ t → (j < n → together n side (plus_at ts (4 * j + side) x) ≡ together n side ts +ℤ x)
        → together (suc n) side (plus_at ts (4 * j + side) x) ≡ together (suc n) side ts +ℤ x
    go true e ih =
        let same : j ≡ n = eqb-true j n e in
        (λ i. elsewhere n side ts (4 * j + side) (get_or ts (4 * j + side) (pos 0) +ℤ x) (λ k q w. omega arith) i
        +ℤ (ap (λ (m : ℕ). get_or (plus_at ts (4 * j + side) x) (4 * m + side) (pos 0)) (sym same)
        ∙ get_or-set_same ts (4 * j + side) (get_or ts (4 * j + side) (pos 0) +ℤ x) (pos 0) b
        ∙ ap (λ (m : ℕ). get_or ts (4 * m + side) (pos 0) +ℤ x) same) i)
        ∙ sym (+ℤ_assoc (together n side ts) (get_or ts (4 * n + side) (pos 0)) x)
    go false e ih =
        let other : j < n = less j n l (eqb-false j n e) in
        (λ i. ih other i
        +ℤ get_or-set_other ts (4 * j + side) (4 * n + side) (get_or ts (4 * j + side) (pos 0) +ℤ x) (pos 0) (λ w. omega (arith, other)) i)
        ∙ swap (together n side ts) x (get_or ts (4 * n + side) (pos 0))

-- a turnover of another side
aside : (n side : ℕ) (ts : List ℤ) (j side' : ℕ) (x : ℤ) → side < 4 → side' < 4 → (side ≡ side' → ⊥) → together n side (plus_at ts (4 * j + side') x) ≡ together n side ts
aside n side ts j side' x h h' d = elsewhere n side ts (4 * j + side') (get_or ts (4 * j + side') (pos 0) +ℤ x) (λ i l w. d (omega (arith, h, h', w)))

-- ---- a movement
-- it is of the turnovers of one side, or of another
abbrev pub touches : ℕ → ℕ → ℕ → Bool
touches side from to = eqb side from || eqb side to

module _ (codes : List ℕ) (few : length codes ≤ 64) where
  pub listed_at : (c : ℕ) → among c codes ≡ true → place c codes < 64
  listed_at c e = let h : place c codes < length codes = ltb-true (place c codes) (length codes) (place_in c codes ∙ e) in omega (arith, h, few)

  module _ (ts : List ℤ) (long : length ts ≡ 256) (m : Move) (listed : is_listed codes m ≡ true) (f : m.from < 4) (t : m.to < 4) (apart : m.from ≡ m.to → ⊥) where
    abbrev x : ℤ
    x = signed m.minus m.amount

    abbrev once : List ℤ
    once = plus_at ts (cell codes m.payer.0 m.from) x

    p : place m.payer.0 codes < 64
    p = listed_at m.payer.0 (both_left (among m.payer.0 codes) (among m.other.0 codes) listed)

    o : place m.other.0 codes < 64
    o = listed_at m.other.0 (both_right (among m.payer.0 codes) (among m.other.0 codes) listed)

    by_payer : (side : ℕ) → side ≡ m.from → together 64 side (moved codes ts m) ≡ together 64 side ts +ℤ x
    by_payer side e =
        aside 64 side once (place m.other.0 codes) m.to x (omega (arith, e, f)) t (λ q. apart (sym e ∙ q))
        ∙ ap (λ (k : ℕ). together 64 side (plus_at ts (4 * place m.payer.0 codes + k) x)) (sym e)
        ∙ here 64 side ts (place m.payer.0 codes) x p (omega (arith, long, p, e, f))

    by_other : (side : ℕ) → side ≡ m.to → together 64 side (moved codes ts m) ≡ together 64 side ts +ℤ x
    by_other side e =
        ap (λ (k : ℕ). together 64 side (plus_at once (4 * place m.other.0 codes + k) x)) (sym e)
        ∙ here 64 side once (place m.other.0 codes) x o (omega (arith, long, o, e, t, length-set ts (cell codes m.payer.0 m.from) (get_or ts (cell codes m.payer.0 m.from) (pos 0) +ℤ x)))
        ∙ ap (λ (z : ℤ). z +ℤ x) (aside 64 side ts (place m.payer.0 codes) m.from x (omega (arith, e, t)) f (λ q. apart (sym q ∙ e)))

    -- its amount goes to the two sides that it is of, once to each, and to no other
    pub moved_side : (side : ℕ) → side < 4 → together 64 side (moved codes ts m) ≡ together 64 side ts +ℤ cond (touches side m.from m.to) x (pos 0)
    moved_side side h = go (eqb side m.from) refl (eqb side m.to) refl
      where
        go : (u : Bool) → eqb side m.from ≡ u → (v : Bool) → eqb side m.to ≡ v → together 64 side (moved codes ts m) ≡ together 64 side ts +ℤ cond (u || v) x (pos 0)
        go true e v q = by_payer side (eqb-true side m.from e)
        go false e true q = by_other side (eqb-true side m.to q)
        go false e false q =
            aside 64 side once (place m.other.0 codes) m.to x h t (eqb-false side m.to q)
            ∙ aside 64 side ts (place m.payer.0 codes) m.from x h f (eqb-false side m.from e) ∙ sym (+ℤ_idr (together 64 side ts))
