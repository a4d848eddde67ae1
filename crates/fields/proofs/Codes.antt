-- Classes as numbers: the table of them, held to the classes at each identifier, and the class that a number tells.
use mathlib.Core.Path.{◌≡◌, refl, ap, sym, ◌∙◌}
use mathlib.Core.Bool.{Bool, true, false≢true, cond, ◌&&◌}
use mathlib.Core.List.{List, [], ◌∷◌}
use Prim.Native.Nat.{ℕ, zero, suc, ◌+◌, ◌<◌}
use native.Mathlib.Nat.{add-zero, zero-add, add-suc, suc-add, not-suc-le-zero, le_of_suc-le-suc}
use lib.ListN.{length, get_or, set, replicate}
use lib.Dec.{T, eqb, eqb→eq}
use Rattle.laws.proofs.Entries.{and_left, and_right}
use Rattle.fields.specs.declared.classes.Class.{Class}
use Rattle.fields.specs.declared.classes.Class.TheVariants.{Money, Number, Range, Group, Account, Text, Free}
use Rattle.fields.specs.Kinds.{place}
use Rattle.fields.specs.Classes.{money_fields, number_fields, range_fields, account_fields, text_fields, class_of}
use Rattle.fields.specs.Codes.{code_by, code_of, claims}

-- a list with v at each of some places
abbrev fill : List ℕ → ℕ → List ℕ → List ℕ
fill [] v l = l
fill (k ∷ ks) v l = fill ks v (set l k v)

-- the table as the code fills it; both sides are computed at each place
abbrev others : List ℕ
others = fill range_fields 5 (fill text_fields 4 (fill account_fields 3 (fill number_fields 2 (fill money_fields 1 (replicate 1296 0)))))

-- .. and with so many of the groups
abbrev pub grouped : ℕ → List ℕ
grouped zero = others
grouped (suc k) = set (grouped k) (1008 + k) 6

abbrev table : List ℕ
table = grouped 10

-- a list holds g's numbers from i on: one walk over it computes that, and then each place can be asked
abbrev holds : (ℕ → ℕ) → ℕ → List ℕ → Bool
holds g i [] = true
holds g i (x ∷ l) = eqb x (g i) && holds g (suc i) l

held : (g : ℕ → ℕ) (i : ℕ) (l : List ℕ) → T (holds g i l) → (k : ℕ) → k < length l → get_or l k 0 ≡ g (i + k)
held g i [] t k h = absurd (not-suc-le-zero h)
held g i (x ∷ l) t zero h = eqb→eq x (g i) (and_left (eqb x (g i)) (holds g (suc i) l) t) ∙ ap g (sym (add-zero i))
held g i (x ∷ l) t (suc k) h =
    held g (suc i) l (and_right (eqb x (g i)) (holds g (suc i) l) t) k (le_of_suc-le-suc h) ∙ ap g (suc-add i k ∙ sym (add-suc i k))

pub codes_are : (i : ℕ) → i < 1296 → get_or table i 0 ≡ code_of i
unfolding place class_of code_of
codes_are i h = held code_of 0 table tt i h ∙ ap code_of (zero-add i)

-- no two classes have one number: it tells the class
abbrev class_at : ℕ → Class
class_at n = cond (eqb n 1) Money (cond (eqb n 2) Number (cond (eqb n 3) Account (cond (eqb n 4) Text (cond (eqb n 5) Range (cond (eqb n 6) Group Free)))))

back : (k : Class) → class_at (code_by k) ≡ k
back Money = refl
back Number = refl
back Range = refl
back Group = refl
back Account = refl
back Text = refl
back Free = refl

pub same_code : (j k : Class) {n : ℕ} → code_by k ≡ n → n ≡ code_by j → j ≡ k
same_code j k e f = sym (back j) ∙ ap class_at (sym (e ∙ f)) ∙ back k

-- what class is left, where the numbers of the others were asked for
pub left_claim : (k : Class) {n : ℕ} → code_by k ≡ n → claims n ≡ true → (n ≡ 1 → ⊥) → (n ≡ 5 → ⊥) → Group ≡ k
left_claim k e c p q = go k (rw e c) (λ d. p (sym e ∙ d)) (λ d. q (sym e ∙ d))
  where
    go : (k : Class) → claims (code_by k) ≡ true → (code_by k ≡ 1 → ⊥) → (code_by k ≡ 5 → ⊥) → Group ≡ k
    go Money c p q = absurd (p refl)
    go Number c p q = absurd (false≢true c)
    go Range c p q = absurd (q refl)
    go Group c p q = refl
    go Account c p q = absurd (false≢true c)
    go Text c p q = absurd (false≢true c)
    go Free c p q = absurd (false≢true c)
