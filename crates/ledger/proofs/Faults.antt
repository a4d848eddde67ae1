-- The faults of lines in their order, each line by its set of marks: they are the faults of its tests, and putting them in one by one yields
-- the list.
use mathlib.Core.Path.{◌≡◌, refl, sym, ap, ◌∙◌, subst}
use mathlib.Core.List.{List, [], ◌∷◌, ◌++◌, map, append-nil, append_assoc, map-append}
use Prim.Native.Nat.{ℕ, suc, ◌+◌, ◌*◌, ◌≤◌}
use native.Mathlib.Omega.{arith}
use Rattle.rules.specs.Tests.{Spot}
use Rattle.rules.specs.Faults.{Fault, fault, faults_of}
use Rattle.rules.specs.Demand.{sizes}
use Rattle.rules.proofs.Rising.{Rising, Under, rising_le, rising_append}
use Rattle.rules.proofs.Orderly.{Orderly}
use Rattle.ledger.specs.Marks.{rules_of, set_of, marked, marked_of, set_sizes, key, insert, insert_all}
use Rattle.ledger.proofs.Marks.{rules_rise, rules_under, marked_set, size_is_ones}
use Rattle.ledger.proofs.Insertion.{Small, insert_gt}

-- ---- the faults of lines in their order

module _ (line : ℕ) where
  line_rises : (r : ℕ) (rs : List ℕ) → Rising r rs → Rising (64 * line + r) (map key (map (fault line) rs))
  line_rises r [] R = tt
  line_rises r (q ∷ rs) R = (omega (arith, R.0), rising_le (suc (64 * line + q)) (64 * line + suc q) (map key (map (fault line) rs)) (omega arith) (line_rises (suc q) rs R.1))

  line_under : (k : ℕ) (rs : List ℕ) → 64 * line + 64 ≤ k → Under 64 rs → Under k (map key (map (fault line) rs))
  line_under k [] h U = tt
  line_under k (q ∷ rs) h U = (omega (arith, U.0), line_under k rs h U.1)

  line_small : (rs : List ℕ) → Under 64 rs → Small (map (fault line) rs)
  line_small [] U = tt
  line_small (q ∷ rs) U = (U.0, line_small rs U.1)

-- the rules of one line are below 64
pub marked_small : (line m : ℕ) → Small (marked line m)
marked_small line m = line_small line (rules_of m) (rules_under m)

-- lines that rise give keys that rise
faults_rise : (n : ℕ) (ss : List Spot) → Rising n (map (λ (s : Spot). s.line) ss) → Rising (64 * n) (map key (marked_of ss))
unfolding marked_of
faults_rise n [] R = tt
faults_rise n (s ∷ ss) R =
    let m : ℕ = set_of s.tests in
    let xs : List Fault = marked s.line m in
    rw map-append (rising_append (64 * n) (64 * suc s.line) (map key xs) (map key (marked_of ss)) (omega (arith, R.0))
    (rising_le (64 * n) (64 * s.line + 0) (map key xs) (omega (arith, R.0)) (line_rises s.line 0 (rules_of m) (rules_rise m)))
    (line_under s.line (64 * suc s.line) (rules_of m) (omega arith) (rules_under m))
    (faults_rise (suc s.line) ss R.1))

-- the faults of the sets of marks are the faults
pub marked_faults : (ss : List Spot) → Orderly ss → marked_of ss ≡ faults_of ss
unfolding marked_of faults_of
marked_faults [] O = refl
marked_faults (s ∷ ss) O = λ i. marked_set s.line s.tests O.0 i ++ marked_faults ss O.1 i

-- and their sizes are the sizes of their sets of marks
pub sizes_of_sets : (ss : List Spot) → Orderly ss → sizes ss ≡ set_sizes ss
sizes_of_sets [] O = refl
sizes_of_sets (s ∷ ss) O = λ i. size_is_ones s.tests O.0 i + sizes_of_sets ss O.1 i

-- ---- putting in a list that is in order already

rises_to : (k : ℕ) (ys : List Fault) (x : Fault) (zs : List Fault) → Rising k (map key (ys ++ (x ∷ zs))) → k ≤ key x
rises_to k [] x zs R = R.0
rises_to k (y ∷ ys) x zs R = omega (arith, rises_to (suc (key y)) ys x zs R.1, R.0)

insert_end : (k : ℕ) (ys : List Fault) (x : Fault) (zs : List Fault) → Rising k (map key (ys ++ (x ∷ zs))) → insert x ys ≡ ys ++ (x ∷ [])
insert_end k [] x zs R = unfold insert in refl
insert_end k (y ∷ ys) x zs R = insert_gt x y ys (rises_to (suc (key y)) ys x zs R.1) ∙ ap (λ (l : List Fault). y ∷ l) (insert_end (suc (key y)) ys x zs R.1)

in_order : (k : ℕ) (xs ys : List Fault) → Rising k (map key (ys ++ xs)) → insert_all xs ys ≡ ys ++ xs
unfolding insert_all
in_order k [] ys R = sym (append-nil ys)
in_order k (x ∷ xs) ys R =
    let s : (ys ++ (x ∷ [])) ++ xs ≡ ys ++ (x ∷ xs) = append_assoc ys (x ∷ []) xs in
    ap (insert_all xs) (insert_end k ys x xs R) ∙ in_order k xs (ys ++ (x ∷ [])) (subst (λ (l : List Fault). Rising k (map key l)) (sym s) R) ∙ s

-- a list in line order is what putting in its faults yields
pub faults_in_order : (n : ℕ) (ss : List Spot) → Rising n (map (λ (s : Spot). s.line) ss) → insert_all (marked_of ss) [] ≡ marked_of ss
faults_in_order n ss R = in_order (64 * n) (marked_of ss) [] (faults_rise n ss R)
