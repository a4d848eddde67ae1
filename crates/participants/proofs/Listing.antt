-- The list of participants: the place of a code, and whether the list is fit, by what is left of it.
use Prim.Native.Nat.{ℕ, zero, suc, ◌+◌, ◌-◌, ◌%◌, ◌≤◌, ◌<◌}
use native.Mathlib.Nat.{eq-or-lt_of_le}
use native.Mathlib.Omega.{arith}
use native.Mathlib.Numerals.{add-one}
use mathlib.Core.Path.{◌≡◌, refl, sym, ap, subst, ◌∙◌}
use mathlib.Core.Bool.{Bool, true, false, not, ◌&&◌, and_assoc, and_comm, true≢false, false≢true}
use mathlib.Core.List.{List, [], ◌∷◌}
use mathlib.Core.Logic.{⊎_elim}
use lib.Dec.{leb, ltb, eqb}
use lib.ListN.{length, get_or, set, take, drop, length-set, length-drop, drop_of_length-le}
use lib.Seq.{drop-cons, take_all, get_or-set_same, get_or-set_other}
use borrow.Author.Tests.{eq-eqb, ne_eqb, eqb-true, eqb-false, le-leb, lt-leb, leb-true, ltb-true, ltb-false, lt-ltb}
use Rattle.std.specs.Prelude.{Option, None, Some, MatchOption, unwrap_or}
use Rattle.std.proofs.Common.{nat_eq}
use Rattle.std.specs.List.{list_any}
use Rattle.laws.specs.Tests.{among}
use Rattle.laws.proofs.Truth.{both_left, by_test}
use Rattle.fields.specs.Kinds.{place}
use Rattle.fields.proofs.Places.{place_in, place_most}
use Rattle.participants.specs.Participants.{is_fit, all_codes, distinct, is_list}
use Rattle.participants.specs.Firsts.{Firsts}

place_same : (x y : ℕ) (ys : List ℕ) → y ≡ x → place x (y ∷ ys) ≡ 0
unfolding place
place_same x y ys e = rw (eq-eqb x y (sym e))

place_other : (x y : ℕ) (ys : List ℕ) → (y ≡ x → ⊥) → place x (y ∷ ys) ≡ suc (place x ys)
unfolding place
place_other x y ys n = rw (ne_eqb x y (λ e. n (sym e)))

-- ---- the place at one look
-- where a code stands, and at no place before, is its place
first_is : (x : ℕ) (ys : List ℕ) (i : ℕ) → i < length ys → get_or ys i 0 ≡ x → ((j : ℕ) → j < length ys → get_or ys j 0 ≡ x → i ≤ j) → i ≡ place x ys
first_is x [] i l e h = absurd (omega (arith, l))
first_is x (y ∷ ys) zero l e h = sym (place_same x y ys e)
first_is x (y ∷ ys) (suc i) l e h =
    ap suc (first_is x ys i (omega (arith, l)) e (λ j k q. omega (arith, h (suc j) (omega (arith, k)) q)))
    ∙ sym (place_other x y ys (λ q. omega (arith, h 0 (omega arith) q)))

none_among : (x : ℕ) (ys : List ℕ) → ((k : ℕ) → k < length ys → get_or ys k 0 ≡ x → ⊥) → among x ys ≡ false
none_among x [] h = refl
none_among x (y ∷ ys) h = rw (ne_eqb x y (λ e. h 0 (omega arith) (sym e)), none_among x ys (λ k l e. h (suc k) (omega arith) e))

-- a code that stands at its place is listed
pub listed : (x : ℕ) (ys : List ℕ) {p : ℕ} → p < length ys → p ≡ place x ys → (among x ys ≡ true) × (p < length ys) × (p ≡ place x ys)
listed x ys {p} l e = (sym (place_in x ys) ∙ lt-ltb (place x ys) (length ys) (omega (arith, l, e)), l, e)

-- the first of a list that is a number is its place
pub placed : (x : ℕ) (ys : List ℕ) (r : Option ℕ)
    → MatchOption r ((k : ℕ) → k < length ys → get_or ys k 0 ≡ x → ⊥) (λ p. (p < length ys) × (get_or ys p 0 ≡ x) × ((k : ℕ) → k < p → get_or ys k 0 ≡ x → ⊥))
    → MatchOption r (among x ys ≡ false) (λ p. (among x ys ≡ true) × (p < length ys) × (p ≡ place x ys))
placed x ys None h = none_among x ys h
placed x ys (Some p) h = listed x ys h.0 (first_is x ys p h.0 h.1 (λ j l e. by_test (ltb j p) (λ w. absurd (h.2 j (ltb-true j p w) e)) (λ w. ltb-false j p w)))

-- the place, where the list's length stands for none
pub placed_or : (x : ℕ) (ys : List ℕ) (r : Option ℕ) (d : ℕ) → d ≡ length ys
    → MatchOption r (among x ys ≡ false) (λ p. (among x ys ≡ true) × (p < length ys) × (p ≡ place x ys))
    → unwrap_or r d ≡ place x ys
placed_or x ys None d e h = omega (arith, e, place_most x ys, ltb-false _ _ (place_in x ys ∙ h))
placed_or x ys (Some p) d e h = h.2

eqb_turned : (x y : ℕ) → eqb y x ≡ eqb x y
eqb_turned x y = by_test (eqb x y) (λ w. eq-eqb y x (sym (eqb-true x y w)) ∙ sym w) (λ w. ne_eqb y x (λ e. eqb-false x y w (sym e)) ∙ sym w)

pub any_among : (x : ℕ) (ys : List ℕ) → list_any (λ y. nat_eq y x) ys ≡ among x ys
any_among x [] = refl
any_among x (y ∷ ys) = rw (eqb_turned x y, any_among x ys)

pub look_hit : {codes firsts : List ℕ} {code i : ℕ} → Firsts codes firsts → i ≡ get_or firsts (code % 1024) 0 → i < length codes → get_or codes i 0 ≡ code → i ≡ place code codes
look_hit {codes} {firsts} {code} {i} F e l h =
    first_is code codes i l h (λ j k q. omega (arith, e, subst (λ (x : ℕ). get_or firsts (x % 1024) 0 ≤ j) q (F.first j k)))

-- the table, by what it says of the places from i on
pub record Filling (codes firsts : List ℕ) (i : ℕ) : Type 0 where
  pub to : i ≤ length codes
  pub size : length firsts ≡ 1024
  pub first : (j : ℕ) → i ≤ j → j < length codes → get_or firsts (get_or codes j 0 % 1024) 0 ≤ j

pub fill_start : (codes firsts : List ℕ) → length firsts ≡ 1024 → Filling codes firsts (length codes)
fill_start codes firsts e = record { to = omega arith; size = e; first = λ j h l. absurd (omega (arith, h, l)) }

module _ {codes firsts : List ℕ} {i : ℕ} (F : Filling codes firsts i) (p : 0 < i) where
  abbrev rem : ℕ → ℕ
  rem j = get_or codes j 0 % 1024

  -- where the remainders are the same, i - 1 is not after j; where they are not, j is not i - 1
  filled : (j : ℕ) → i - 1 ≤ j → j < length codes → (t : Bool) → eqb (rem j) (rem (i - 1)) ≡ t → get_or (set firsts (rem (i - 1)) (i - 1)) (rem j) 0 ≤ j
  filled j h l true e =
      let same : rem j ≡ rem (i - 1) = eqb-true (rem j) (rem (i - 1)) e in
      let is : get_or (set firsts (rem (i - 1)) (i - 1)) (rem j) 0 ≡ i - 1 =
      ap (λ (k : ℕ). get_or (set firsts (rem (i - 1)) (i - 1)) k 0) same ∙ get_or-set_same firsts (rem (i - 1)) (i - 1) 0 (omega (arith, F.size)) in
      omega (arith, is, h)
  filled j h l false e =
      let n : rem j ≡ rem (i - 1) → ⊥ = eqb-false (rem j) (rem (i - 1)) e in
      let later : i - 1 < j = ⊎_elim (λ q. absurd (n (ap rem (sym q)))) (λ q. q) (eq-or-lt_of_le h) in
      omega (arith, get_or-set_other firsts (rem (i - 1)) (rem j) (i - 1) 0 n, F.first j (omega (arith, later)) l)

  pub fill_more : Filling codes (set firsts (get_or codes (i - 1) 0 % 1024) (i - 1)) (i - 1)
  fill_more = record {
    to = omega (arith, F.to);
    size = length-set firsts (rem (i - 1)) (i - 1) ∙ F.size;
    first = λ j h l. filled j h l (eqb (rem j) (rem (i - 1))) refl;
  }

pub fill_end : {codes firsts : List ℕ} {i : ℕ} → Filling codes firsts i → i ≤ 0 → Firsts codes firsts
fill_end F h = record { first = λ j l. F.first j (omega (arith, h)) l }

-- ---- a fit list, by what is left of it
pub record Fitting (codes : List ℕ) (i : ℕ) : Type 0 where
  pub to : i ≤ length codes
  pub few : length codes ≤ 64
  pub is : (all_codes codes && distinct codes) ≡ (all_codes (drop i codes) && distinct (drop i codes))

pub fit_start : (codes : List ℕ) → length codes ≤ 64 → Fitting codes 0
fit_start codes h = record { to = omega arith; few = h; is = refl }

regroup : (a b c d : Bool) → ((a && b) && (c && d)) ≡ ((a && c) && (b && d))
regroup a b c d = simp and_assoc (rw (← and_assoc b c, and_comm b c, and_assoc c b))

module _ {codes : List ℕ} {i : ℕ} (F : Fitting codes i) (l : i < length codes) where
  cut : (all_codes codes && distinct codes) ≡ (is_fit (get_or codes i 0) (drop (suc i) codes) && (all_codes (drop (suc i) codes) && distinct (drop (suc i) codes)))
  cut =
      F.is ∙ ap (λ (cs : List ℕ). all_codes cs && distinct cs) (drop-cons codes i 0 l)
      ∙ regroup (leb 1 (get_or codes i 0) && leb (get_or codes i 0) 9999) (all_codes (drop (suc i) codes)) (not (among (get_or codes i 0) (drop (suc i) codes))) (distinct (drop (suc i) codes))

  -- the part of the slice that the code looks at
  rest : is_fit (get_or codes i 0) (take (length codes - (i + 1)) (drop (i + 1) codes)) ≡ is_fit (get_or codes i 0) (drop (suc i) codes)
  rest =
      ap (is_fit (get_or codes i 0))
      (take_all (length codes - (i + 1)) (drop (i + 1) codes) (omega (arith, length-drop (i + 1) codes)) ∙ ap (λ (n : ℕ). drop n codes) (add-one i))

  pub fit_more : not (is_fit (get_or codes i 0) (take (length codes - (i + 1)) (drop (i + 1) codes))) ≡ false → Fitting codes (i + 1)
  fit_more e = record {
    to = omega arith;
    few = F.few;
    is = cut ∙ go (is_fit (get_or codes i 0) (drop (suc i) codes)) (ap not (sym rest) ∙ e) ∙ sym (ap (λ (n : ℕ). all_codes (drop n codes) && distinct (drop n codes)) (add-one i));
  }
    where
      go : (t : Bool) → not t ≡ false → (t && (all_codes (drop (suc i) codes) && distinct (drop (suc i) codes))) ≡ (all_codes (drop (suc i) codes) && distinct (drop (suc i) codes))
      go true q = refl
      go false q = absurd (true≢false q)

  pub fit_not : not (is_fit (get_or codes i 0) (take (length codes - (i + 1)) (drop (i + 1) codes))) ≡ true → false ≡ is_list codes
  unfolding is_list
  fit_not e = rw (le-leb (length codes) 64 F.few) (sym (cut ∙ go (is_fit (get_or codes i 0) (drop (suc i) codes)) (ap not (sym rest) ∙ e)))
    where
      go : (t : Bool) → not t ≡ true → (t && (all_codes (drop (suc i) codes) && distinct (drop (suc i) codes))) ≡ false
      go false q = refl
      go true q = absurd (false≢true q)

pub fit_end : {codes : List ℕ} {i : ℕ} → Fitting codes i → length codes ≤ i → true ≡ is_list codes
unfolding is_list
fit_end {codes} {i} F l = rw (le-leb (length codes) 64 F.few) (sym (F.is ∙ ap (λ (cs : List ℕ). all_codes cs && distinct cs) (drop_of_length-le codes l)))

pub too_many : (codes : List ℕ) → 64 < length codes → false ≡ is_list codes
unfolding is_list
too_many codes h = rw (lt-leb (length codes) 64 h)

pub list_few : (codes : List ℕ) → is_list codes ≡ true → length codes ≤ 64
unfolding is_list
list_few codes e = leb-true (length codes) 64 (both_left (leb (length codes) 64) (all_codes codes && distinct codes) e)
