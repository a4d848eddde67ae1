-- A loop over the ranges of a register: what is left stands, apart from the range before it, just where all stand in order.
use mathlib.Core.Path.{◌≡◌, refl, sym, ap, ◌∙◌}
use mathlib.Core.Bool.{Bool, true, false, ◌&&◌, ◌||◌, not, and_assoc, and_comm}
use mathlib.Core.List.{List, [], ◌∷◌}
use Prim.Native.Nat.{ℕ, zero, suc, ◌+◌, ◌-◌, ◌≤◌, ◌<◌}
use native.Mathlib.Nat.{not-suc-le-zero}
use native.Mathlib.Omega.{arith}
use lib.Dec.{eqb, leb, ltb}
use lib.ListN.{drop}
use lib.Seq.{drop-drop}
use borrow.Author.Tests.{ltb-false}
use Rattle.days.specs.Days.{is_real, later}
use Rattle.register.specs.Bytes.{big_at}
use Rattle.register.specs.Register.{Range, ranges_in, range_stands, all_stand, apart, in_order}

abbrev pub range : ℕ → ℕ → ℕ → Range
range day first last = record { day = day; first = first; last = last }

-- ranges stand in order after one that ends so
abbrev pub after : ℕ → ℕ → ℕ → List Range → Bool
after latest day last rs = all_stand latest rs && (apart (range day 0 last) rs && in_order rs)

day_0 : is_real 0 ≡ false
unfolding is_real
day_0 = refl

pub stand_start : (latest : ℕ) (rs : List Range) → (all_stand latest rs && in_order rs) ≡ after latest 0 0 rs
stand_start latest [] = refl
stand_start latest (q ∷ qs) = go (ltb 0 q.day) refl
  where
    bad : q.day ≡ 0 → all_stand latest (q ∷ qs) ≡ false
    bad e = ap (λ (t : Bool). (t && (not (later q.day latest 0) && (not (later latest q.day 10) && (leb 1 q.first && (leb q.first q.last && leb q.last 9999999))))) && all_stand latest qs) (ap is_real e ∙ day_0)

    go : (x : Bool) → ltb 0 q.day ≡ x → (all_stand latest (q ∷ qs) && in_order (q ∷ qs)) ≡ after latest 0 0 (q ∷ qs)
    go true p = ap (λ (t : Bool). all_stand latest (q ∷ qs) && ((t || (eqb 0 q.day && ltb (0 + 1) q.first)) && in_order (q ∷ qs))) (sym p)
    go false p =
        let z : q.day ≡ 0 = (let l = ltb-false 0 q.day p in omega arith) in
        ap (λ (t : Bool). t && in_order (q ∷ qs)) (bad z) ∙ sym (ap (λ (t : Bool). t && (apart (range 0 0 0) (q ∷ qs) && in_order (q ∷ qs))) (bad z))

-- the first two tests of the next range decide, or fall away
and_turn : (a b c d e : Bool) → ((a && b) && (c && (d && e))) ≡ ((a && c) && (b && (d && e)))
and_turn a b c d e = simp and_assoc (rw (← and_assoc b c, and_comm b c, and_assoc c b))

-- where a range starts is not asked of those after it
apart_first : (d f l : ℕ) (rs : List Range) → apart (range d f l) rs ≡ apart (range d 0 l) rs
apart_first d f l [] = refl
apart_first d f l (r ∷ rs) = refl

read_drop : (n k at : ℕ) (s : List ℕ) → big_at n k (drop at s) ≡ big_at n (at + k) s
unfolding big_at
read_drop n k at s = rw drop-drop

next_ranges : (k at : ℕ) (s : List ℕ) → ranges_in (suc k) (drop at s) ≡ range (big_at 4 (at + 0) s) (big_at 4 (at + 4) s) (big_at 4 (at + 8) s) ∷ ranges_in k (drop (at + 12) s)
next_ranges k at s = λ i. range (read_drop 4 0 at s i) (read_drop 4 4 at s i) (read_drop 4 8 at s i) ∷ ranges_in k (drop-drop 12 at s i)

pub next_is : (left at : ℕ) (s : List ℕ) → 0 < left → ranges_in left (drop at s) ≡ range (big_at 4 at s) (big_at 4 (at + 4) s) (big_at 4 (at + 8) s) ∷ ranges_in (left - 1) (drop (at + 12) s)
next_is zero at s h = absurd (not-suc-le-zero h)
next_is (suc k) at s h =
    let a : at + 0 ≡ at = omega arith in
    let b : suc k - 1 ≡ k = omega arith in
    next_ranges k at s ∙ (λ i. range (big_at 4 (a i) s) (big_at 4 (at + 4) s) (big_at 4 (at + 8) s) ∷ ranges_in (sym b i) (drop (at + 12) s))

module _ (s : List ℕ) (latest day last at left : ℕ) (whole : Bool) (known : whole ≡ after latest day last (ranges_in left (drop at s))) (more : 0 < left)
    {d f l : ℕ} (ed : d ≡ big_at 4 at s) (ef : f ≡ big_at 4 (at + 4) s) (el : l ≡ big_at 4 (at + 8) s) {x y : Bool} (ex : x ≡ range_stands latest (range d f l)) (ey : y ≡ (ltb day d || (eqb day d && ltb (last + 1) f))) where
  turn : whole ≡ ((x && y) && after latest d l (ranges_in (left - 1) (drop (at + 12) s)))
  turn =
      known
      ∙ ap (after latest day last) (next_is left at s more ∙ (λ i. range (sym ed i) (sym ef i) (sym el i) ∷ ranges_in (left - 1) (drop (at + 12) s)))
      ∙ and_turn (range_stands latest (range d f l)) (all_stand latest (ranges_in (left - 1) (drop (at + 12) s))) (ltb day d || (eqb day d && ltb (last + 1) f)) (apart (range d f l) (ranges_in (left - 1) (drop (at + 12) s))) (in_order (ranges_in (left - 1) (drop (at + 12) s)))
      ∙ (λ i. (sym ex i && sym ey i) && (all_stand latest (ranges_in (left - 1) (drop (at + 12) s)) && (apart_first d f l (ranges_in (left - 1) (drop (at + 12) s)) i && in_order (ranges_in (left - 1) (drop (at + 12) s)))))

  pub stand_more : (x && y) ≡ true → whole ≡ after latest d l (ranges_in (left - 1) (drop (at + 12) s))
  stand_more e = turn ∙ ap (λ (t : Bool). t && after latest d l (ranges_in (left - 1) (drop (at + 12) s))) e

  pub stand_fails : (x && y) ≡ false → false ≡ whole
  stand_fails e = sym (turn ∙ ap (λ (t : Bool). t && after latest d l (ranges_in (left - 1) (drop (at + 12) s))) e)

pub stand_end : (s : List ℕ) (latest day last at left : ℕ) (whole : Bool) → whole ≡ after latest day last (ranges_in left (drop at s)) → left ≤ 0 → true ≡ whole
stand_end s latest day last at left whole known h = let z : left ≡ 0 = omega arith in sym (known ∙ ap (λ (n : ℕ). after latest day last (ranges_in n (drop at s))) z)
