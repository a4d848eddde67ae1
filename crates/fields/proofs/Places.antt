-- Places in lists: of a byte among the symbols, of an identifier among the groups.
use mathlib.Core.Path.{◌≡◌, refl, ap, ◌∙◌, sym}
use mathlib.Core.Bool.{Bool, true, false, ◌&&◌, ◌||◌, cond, true≢false}
use mathlib.Core.List.{List, [], ◌∷◌}
use Prim.Native.Nat.{ℕ, zero, suc, ◌+◌, ◌-◌, ◌*◌, ◌≤◌, ◌<◌}
use mathlib.Core.Logic.{⊎_elim}
use native.Mathlib.Nat.{eq-or-lt_of_le}
use native.Mathlib.Omega.{arith}
use lib.ListN.{length, get_or, set, replicate}
use lib.Dec.{leb, ltb, eqb, eqb→eq, ltb→lt, leb-suc-suc}
use borrow.Author.Tests.{ne_eqb, le-leb, lt-leb, lt-ltb, leb-true, ltb-true, eqb-true, eqb-false}
use Rattle.laws.specs.Tests.{among}
use Rattle.laws.proofs.Finite.{at}
use Rattle.laws.proofs.Truth.{and_parts, never_true}
use Rattle.fields.specs.Kinds.{symbols, place, ident_of, is_field}
use Rattle.fields.specs.Classes.{group_fields, sum_group}

-- a number stands in a list just where its place is in it
pub place_in : (x : ℕ) (ys : List ℕ) → ltb (place x ys) (length ys) ≡ among x ys
unfolding place
place_in x [] = refl
place_in x (y ∷ ys) = go (eqb x y) (place_in x ys)
  where
    go : (t : Bool) → ltb (place x ys) (length ys) ≡ among x ys → ltb (cond t 0 (suc (place x ys))) (suc (length ys)) ≡ (t || among x ys)
    go true e = lt-ltb 0 (suc (length ys)) (omega arith)
    go false e = simp leb-suc-suc e

pub place_most : (x : ℕ) (ys : List ℕ) → place x ys ≤ length ys
unfolding place
place_most x [] = omega arith
place_most x (y ∷ ys) = go (eqb x y) (place_most x ys)
  where
    go : (t : Bool) → place x ys ≤ length ys → cond t 0 (suc (place x ys)) ≤ suc (length ys)
    go true h = omega arith
    go false h = omega (arith, h)

-- what stands at the place of a number that is in a list is that number
at_place : (x : ℕ) (ys : List ℕ) → among x ys ≡ true → get_or ys (place x ys) 0 ≡ x
unfolding place
at_place x [] e = absurd (true≢false (sym e))
at_place x (y ∷ ys) e = go (eqb x y) refl e (at_place x ys)
  where
    go : (t : Bool) → eqb x y ≡ t → (t || among x ys) ≡ true → (among x ys ≡ true → get_or ys (place x ys) 0 ≡ x) → get_or (y ∷ ys) (cond t 0 (suc (place x ys))) 0 ≡ x
    go true p q r = sym (eqb-true x y p)
    go false p q r = r q

same_place : (x y : ℕ) (ys : List ℕ) → among x ys ≡ true → among y ys ≡ true → place x ys ≡ place y ys → x ≡ y
same_place x y ys p q e = sym (at_place x ys p) ∙ ap (λ (k : ℕ). get_or ys k 0) e ∙ at_place y ys q

two_digits : (a b c d : ℕ) → b < 36 → d < 36 → a * 36 + b ≡ c * 36 + d → (a ≡ c) × (b ≡ d)
two_digits a b c d h k e = (omega arith, omega arith)

-- fields with one number have one identifier: rule 5 and 'first KC' ask for numbers and mean identifiers
pub same_identifier : (l m : List ℕ) → is_field l ≡ true → is_field m ≡ true → ident_of l ≡ ident_of m → (get_or l 0 0 ≡ get_or m 0 0) × (get_or l 1 0 ≡ get_or m 1 0)
same_identifier l m p q e =
    let f = and_parts (among (get_or l 0 0) symbols) (among (get_or l 1 0) symbols) (and_parts (among (get_or l 0 0) symbols && among (get_or l 1 0) symbols) (eqb (get_or l 2 0) 0x3A) p).0 in
    let g = and_parts (among (get_or m 0 0) symbols) (among (get_or m 1 0) symbols) (and_parts (among (get_or m 0 0) symbols && among (get_or m 1 0) symbols) (eqb (get_or m 2 0) 0x3A) q).0 in
    let h : place (get_or l 1 0) symbols < 36 = ltb-true _ _ (place_in (get_or l 1 0) symbols ∙ f.1) in
    let k : place (get_or m 1 0) symbols < 36 = ltb-true _ _ (place_in (get_or m 1 0) symbols ∙ g.1) in
    let d = two_digits _ _ _ _ h k e in
    (same_place _ _ symbols f.0 g.0 d.0, same_place _ _ symbols f.1 g.1 d.1)

-- the place of a byte, as the code finds it
abbrev pub found : ℕ → ℕ
found b = cond (leb 48 b && leb b 57) (b - 48) (cond (leb 65 b && leb b 90) (b - 55) 36)

pub symbol_at : (b : ℕ) → b < 256 → found b ≡ place b symbols
unfolding place
symbol_at b h = eqb→eq _ _ (at (λ c. eqb (found c) (place c symbols)) 256 tt b h)

-- by the range that it is in
module _ (b : ℕ) where
  pub digit_at : 48 ≤ b → b ≤ 57 → b - 48 ≡ place b symbols
  digit_at l h = rw (le-leb 48 b l, le-leb b 57 h) at (symbol_at b (omega arith))

  pub letter_at : 65 ≤ b → b ≤ 90 → b - 65 + 10 ≡ place b symbols
  letter_at l h =
      let s : b - 65 + 10 ≡ b - 55 = omega arith in
      s ∙ rw (le-leb 48 b (omega arith), lt-leb b 57 (omega arith), le-leb 65 b l, le-leb b 90 h) at (symbol_at b (omega arith))

  pub no_symbol : b < 256 → (48 ≤ b → b ≤ 57 → ⊥) → (65 ≤ b → b ≤ 90 → ⊥) → 36 ≡ place b symbols
  no_symbol w d l = rw (outside 48 57 d, outside 65 90 l) at (symbol_at b w)
    where
      outside : (lo hi : ℕ) → (lo ≤ b → b ≤ hi → ⊥) → (leb lo b && leb b hi) ≡ false
      outside lo hi n = never_true (leb lo b && leb b hi) (λ e. let p = and_parts (leb lo b) (leb b hi) e in n (leb-true lo b p.0) (leb-true b hi p.1))

-- the table of places, as the code fills it, symbol by symbol
abbrev pub filled : ℕ → List ℕ
filled zero = replicate 256 36
filled (suc k) = set (filled k) (get_or symbols k 0) k

pub filled_is : (b : ℕ) → b < 256 → get_or (filled 36) b 0 ≡ place b symbols
unfolding place
filled_is b h = eqb→eq _ _ (at (λ c. eqb (get_or (filled 36) c 0) (place c symbols)) 256 tt b h)

pub symbol_few : (k : ℕ) → k < 36 → get_or symbols k 0 < 256
symbol_few k h = ltb→lt _ _ (at (λ i. ltb (get_or symbols i 0) 256) 36 tt k h)

-- n numbers from a on
abbrev row : ℕ → ℕ → List ℕ
row a zero = []
row a (suc n) = a ∷ row (suc a) n

row_in : (i a n : ℕ) → a ≤ i → i < a + n → place i (row a n) ≡ i - a
unfolding place
row_in i a zero h k = absurd (omega arith)
row_in i a (suc n) h k = go (eqb i a) refl (row_in i (suc a) n)
  where
    go : (t : Bool) → eqb i a ≡ t → (suc a ≤ i → i < suc a + n → place i (row (suc a) n) ≡ i - suc a) → cond t 0 (suc (place i (row (suc a) n))) ≡ i - a
    go true e r = omega (arith, eqb-true i a e)
    go false e r =
        let l : suc a ≤ i = ⊎_elim (λ q. absurd (eqb-false i a e (sym q))) (λ q. q) (eq-or-lt_of_le h) in
        omega (arith, r l (omega arith))

row_out : (i a n : ℕ) → (a ≤ i → i < a + n → ⊥) → place i (row a n) ≡ n
unfolding place
row_out i a zero h = refl
row_out i a (suc n) h = rw (ne_eqb i a (λ e. h (omega arith) (omega arith)), row_out i (suc a) n (λ p q. h (omega arith) (omega arith)))

-- the groups stand in a row
groups : group_fields ≡ row 1008 10
unfolding place
groups = refl

module _ (i : ℕ) where
  pub group_in : (leb 1008 i && ltb i 1018) ≡ true → i - 1008 ≡ sum_group i
  unfolding sum_group
  group_in e =
      let p = and_parts (leb 1008 i) (ltb i 1018) e in
      sym (rw groups (row_in i 1008 10 (leb-true 1008 i p.0) (ltb-true i 1018 p.1)))

  pub group_out : (leb 1008 i && ltb i 1018) ≡ false → 10 ≡ sum_group i
  unfolding sum_group
  group_out e = sym (rw groups (row_out i 1008 10 (λ p q. true≢false (rw (le-leb 1008 i p, lt-ltb i 1018 q) at e))))
