-- No layout looks past its reach: a text and its first bytes, as many as the layout can look at, read the same.
use mathlib.Core.Path.{◌≡◌, refl, sym}
use mathlib.Core.List.{List, [], ◌∷◌}
use Prim.Native.Nat.{ℕ, zero, suc, ◌-◌, ◌≤◌}
use native.Mathlib.Nat.{not-suc-le-zero, le_of_suc-le-suc}
use native.Mathlib.Omega.{arith}
use lib.ListN.{take, drop}
use lib.Seq.{take-take, take-nil}
use lib.Dec.{lit≤}
use Rattle.fields.specs.declared.classes.Class.{Class}
use Rattle.fields.specs.declared.classes.Class.TheVariants.{Money, Number, Range, Group, Account, Text, Free}
use Rattle.figures.specs.Layouts.{Part, several, lit, may_end, rest, run, is_empty, head_is, fits, part, reach}
use Rattle.fields.specs.Kinds.{kind_of}
use Rattle.fields.specs.Readings.{text_of, layout_of, reading_of}
use Rattle.fields.proofs.LineKinds.{kind_take}
use Rattle.figures.proofs.Runs.{run_le, run_take}

drop_take : (n k : ℕ) (s : List ℕ) → n ≤ k → drop n (take k s) ≡ take (k - n) (drop n s)
drop_take zero k s l = let e : k - 0 ≡ k = omega arith in rw e
drop_take (suc n) zero s l = absurd (not-suc-le-zero l)
drop_take (suc n) (suc k) [] l = sym (take-nil (suc k - suc n))
drop_take (suc n) (suc k) (b ∷ s) l = let e : suc k - suc n ≡ k - n = omega arith in rw e (drop_take n k s (le_of_suc-le-suc l))

empty_take : (k : ℕ) (s : List ℕ) → 1 ≤ k → is_empty (take k s) ≡ is_empty s
unfolding is_empty
empty_take zero s l = absurd (not-suc-le-zero l)
empty_take (suc k) [] l = refl
empty_take (suc k) (b ∷ s) l = refl

head_take : (x k : ℕ) (s : List ℕ) → 1 ≤ k → head_is x (take k s) ≡ head_is x s
unfolding head_is
head_take x zero s l = absurd (not-suc-le-zero l)
head_take x (suc k) [] l = refl
head_take x (suc k) (b ∷ s) l = refl

pub fits_take : (ps : List Part) (k : ℕ) (s : List ℕ) → reach ps ≤ k → fits ps (take k s) ≡ fits ps s
unfolding fits
fits_take [] k s l = empty_take k s l
fits_take (several f lo hi ∷ ps) k s l =
    rw (run_take f hi k s (omega arith), drop_take (run f hi s) k s (omega (arith, run_le f hi s)), fits_take ps (k - run f hi s) (drop (run f hi s) s) (omega (arith, run_le f hi s)))
fits_take (lit x ∷ ps) k s l = rw (head_take x k s (omega arith), drop_take 1 k s (omega arith), fits_take ps (k - 1) (drop 1 s) (omega arith))
fits_take (may_end ∷ ps) k s l = rw (empty_take k s (omega arith), fits_take ps k s (omega arith))
fits_take (rest ∷ ps) k s l = refl

pub part_take : (i : ℕ) (ps : List Part) (k : ℕ) (s : List ℕ) → reach ps ≤ k → part i ps (take k s) ≡ part i ps s
unfolding part
part_take i [] k s l = refl
part_take zero (several f lo hi ∷ ps) k s l =
    rw (run_take f hi k s (omega arith)) (take-take (run f hi s) k s (omega (arith, run_le f hi s)))
part_take (suc i) (several f lo hi ∷ ps) k s l =
    rw (run_take f hi k s (omega arith), drop_take (run f hi s) k s (omega (arith, run_le f hi s))) (part_take i ps (k - run f hi s) (drop (run f hi s) s) (omega (arith, run_le f hi s)))
part_take i (lit x ∷ ps) k s l = rw (drop_take 1 k s (omega arith)) (part_take i ps (k - 1) (drop 1 s) (omega arith))
part_take i (may_end ∷ ps) k s l = part_take i ps k s (omega arith)
part_take i (rest ∷ ps) k s l = refl

-- no layout of document 01 looks past byte 61 of the text
pub reach_le : (c : Class) → reach (layout_of c).own ≤ 61
reach_le Money = lit≤ tt
reach_le Number = lit≤ tt
reach_le Range = lit≤ tt
reach_le Group = lit≤ tt
reach_le Account = lit≤ tt
reach_le Text = lit≤ tt
reach_le Free = lit≤ tt

pub reading_take : (c : Class) (k : ℕ) (s : List ℕ) → 61 ≤ k → reading_of c (take k s) ≡ reading_of c s
unfolding reading_of
reading_take c k s l =
    let r : reach (layout_of c).own ≤ k = omega (arith, reach_le c) in
    rw (fits_take (layout_of c).own k s r, part_take 0 (layout_of c).own k s r, part_take 1 (layout_of c).own k s r)

-- a field line and its first 64 bytes say the same
pub text_take : (c : Class) (k : ℕ) (l : List ℕ) → 64 ≤ k → reading_of c (text_of (take k l)) ≡ reading_of c (text_of l)
unfolding text_of
text_take c k l h = rw (drop_take 3 k l (omega arith)) (reading_take c (k - 3) (drop 3 l) (omega arith))

-- nothing looks past byte 64 of a line: its first 64 bytes are of its kind and say what it says
pub first_64 : (l : List ℕ) → (kind_of (take 64 l) ≡ kind_of l) × ((c : Class) → reading_of c (text_of (take 64 l)) ≡ reading_of c (text_of l))
first_64 l = (kind_take 64 l (omega arith), λ c. text_take c 64 l (omega arith))
