-- The loop that hands out the first numbers of a slice; and handing out a list of faults that was written into other slices of the same
-- length is writing it.
use mathlib.Core.Path.{◌≡◌, refl, sym, ap, ◌∙◌}
use mathlib.Core.List.{List, ◌++◌, map}
use Prim.Native.Nat.{ℕ, suc, ◌+◌, ◌≤◌, ◌<◌, min}
use native.Mathlib.Numerals.{add-one}
use native.Mathlib.Omega.{arith}
use lib.ListN.{length, take, drop, get_or, set, length-take, length-map, length-set}
use lib.Seq.{length-take-le, take-suc, drop-cons, append_snoc, set_at, take_at}
use Rattle.laws.proofs.Parts.{drop_min}
use Rattle.rules.specs.Faults.{Fault, written}

-- ---- the loop

-- i numbers are handed out
pub record Handing (from : List ℕ) (n : ℕ) (to₀ to : List ℕ) (i : ℕ) : Type 0 where
  pub there : n ≤ length from
  pub room : n ≤ length to₀
  pub upto : i ≤ n
  pub long : length to ≡ length to₀
  pub is : to ≡ take i from ++ drop i to₀

-- none is
pub hand_start : {from : List ℕ} {n : ℕ} {to : List ℕ} → n ≤ length from → n ≤ length to → Handing from n to to 0
hand_start h k = record { there = h; room = k; upto = omega arith; long = refl; is = refl }

-- one more
pub hand_more : {from : List ℕ} {n : ℕ} {to₀ to : List ℕ} {i : ℕ} → Handing from n to₀ to i → i < n → Handing from n to₀ (set to i (get_or from i 0)) (i + 1)
hand_more {from} {n} {to₀} {to} {i} H h =
    let x : ℕ = get_or from i 0 in
    let rest : List ℕ = drop (suc i) to₀ in
    record {
      there = H.there;
      room = H.room;
      upto = omega arith;
      long = length-set to i x ∙ H.long;
      is = rw add-one
          (ap (λ (t : List ℕ). set t i x) (H.is ∙ ap (λ (t : List ℕ). take i from ++ t) (drop-cons to₀ i 0 (omega (arith, H.room))))
          ∙ set_at (take i from) (get_or to₀ i 0) rest x i (length-take-le i from (omega (arith, H.there)))
          ∙ sym (append_snoc (take i from) x rest)
          ∙ ap (λ (t : List ℕ). t ++ rest) (sym (take-suc from i 0 (omega (arith, H.there)))));
    }

-- all are
pub hand_end : {from : List ℕ} {n : ℕ} {to₀ to : List ℕ} {i : ℕ} → Handing from n to₀ to i → n ≤ i → to ≡ take n from ++ drop n to₀
hand_end {from} {n} {to₀} {to} {i} H h = let e : i ≡ n = omega (arith, H.upto) in rw e at H.is

-- ---- a list of faults handed out

-- from slices that were as long, it is written as if straight away
pub handed : (part : Fault → ℕ) (all : List Fault) (before to : List ℕ) → length before ≡ length to → (n : ℕ) → n ≡ min (length before) (length all)
    → take n (written part all before) ++ drop n to ≡ written part all to
handed part all before to e n h =
    let first : List ℕ = map part (take (length before) all) in
    let m : length first ≡ n = length-map (take (length before) all) part ∙ length-take (length before) all ∙ sym h in
    let rest : drop n to ≡ drop (length all) to = ap (λ (k : ℕ). drop k to) (h ∙ ap (λ (k : ℕ). min k (length all)) e) ∙ drop_min (length all) to in
    ap (λ (t : List ℕ). t ++ drop n to) (take_at first (drop (length all) before) n m) ∙ (λ i. map part (take (e i) all) ++ rest i)
