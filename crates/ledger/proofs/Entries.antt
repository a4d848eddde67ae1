-- Lines, each with its set of marks: put in one by one in whichever order they give the same list, and in line order the list of their faults.
use mathlib.Core.Path.{◌≡◌, refl, sym, ap, ◌∙◌}
use mathlib.Core.List.{List, [], ◌∷◌, ◌++◌, map}
use Prim.Native.Nat.{ℕ}
use Rattle.rules.specs.Faults.{Fault, faults_of}
use Rattle.rules.specs.Tests.{Spot}
use Rattle.rules.proofs.Rising.{Rising}
use Rattle.rules.proofs.Orderly.{Orderly}
use Rattle.ledger.specs.Marks.{set_of, marked, marked_of, insert_all}
use Rattle.ledger.proofs.Insertion.{insert_all_append, insert_all_swap}
use Rattle.ledger.proofs.Faults.{marked_small, faults_in_order, marked_faults}

-- ---- things put one by one, where the order of two does not matter

module _ {A : Type 0} {L : Type 0} (put : A → L → L) where
  -- all of them, the first one first
  abbrev pub put_all : List A → L → L
  put_all [] l = l
  put_all (e ∷ es) l = put_all es (put e l)

  -- some, then others
  pub put_all_append : (xs ys : List A) (l : L) → put_all (xs ++ ys) l ≡ put_all ys (put_all xs l)
  put_all_append [] ys l = refl
  put_all_append (x ∷ xs) ys l = put_all_append xs ys (put x l)

  module _ (comm : (a b : A) (l : L) → put a (put b l) ≡ put b (put a l)) where
    -- one before or after some others
    pub past : (e : A) (xs : List A) (l : L) → put_all xs (put e l) ≡ put e (put_all xs l)
    past e [] l = refl
    past e (x ∷ xs) l = rw comm (past e xs (put x l))

    -- some before or after some others
    pub swap : (xs ys : List A) (l : L) → put_all xs (put_all ys l) ≡ put_all ys (put_all xs l)
    swap [] ys l = refl
    swap (x ∷ xs) ys l = ap (put_all xs) (sym (past x ys l)) ∙ swap xs ys (put x l)

    -- one moved past some others in a list
    pub one : (e : A) (xs ys : List A) (l : L) → put_all (e ∷ (xs ++ ys)) l ≡ put_all (xs ++ (e ∷ ys)) l
    one e [] ys l = refl
    one e (x ∷ xs) ys l = ap (put_all (xs ++ ys)) (comm x e l) ∙ one e xs ys (put x l)

-- ---- the faults of lines put in the list

-- the list with the faults of a line put in, by its set of marks
abbrev pub put : Spot → List Fault → List Fault
put s all = insert_all (marked s.line (set_of s.tests)) all

-- the order of two does not matter
pub put_comm : (a b : Spot) (l : List Fault) → put a (put b l) ≡ put b (put a l)
put_comm a b l =
    let m : ℕ = set_of a.tests in
    let n : ℕ = set_of b.tests in
    insert_all_swap (marked a.line m) (marked b.line n) l (marked_small a.line m) (marked_small b.line n)

-- one by one, or the list of all their faults at once
pub put_spots : (ss : List Spot) (all : List Fault) → put_all put ss all ≡ insert_all (marked_of ss) all
unfolding marked_of insert_all
put_spots [] all = refl
put_spots (s ∷ ss) all = put_spots ss (put s all) ∙ sym (insert_all_append (marked s.line (set_of s.tests)) (marked_of ss) all)

-- lines that rise: what is put in is the list of their faults
pub in_line_order : (n : ℕ) (ss : List Spot) → Orderly ss → Rising n (map (λ (s : Spot). s.line) ss) → put_all put ss [] ≡ faults_of ss
in_line_order n ss O R = put_spots ss [] ∙ faults_in_order n ss R ∙ marked_faults ss O
