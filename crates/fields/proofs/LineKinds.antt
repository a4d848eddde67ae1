-- Kinds of lines: in the cases of the code, what a field has, and that the first three bytes decide.
use mathlib.Core.Path.{◌≡◌, refl, sym, subst, ◌∙◌}
use mathlib.Core.Bool.{Bool, true, false, ◌&&◌, cond, and-false, false≢true}
use mathlib.Core.List.{List, [], ◌∷◌}
use Prim.Native.Nat.{ℕ, zero, suc, ◌+◌, ◌*◌, ◌≤◌, ◌<◌}
use native.Mathlib.Nat.{not-suc-le-zero, le_of_suc-le-suc}
use native.Mathlib.Omega.{arith}
use lib.ListN.{length, get_or, take, get_or-eq_default}
use lib.Seq.{get_or-take}
use lib.Dec.{ltb, leb, eqb}
use borrow.Author.Tests.{ltb-true, leb-true, leb-false, eqb-true}
use Rattle.laws.specs.Ascii.{ascii}
use Rattle.laws.specs.Tests.{among}
use Rattle.laws.proofs.Truth.{and_parts, by_test, never_true}
use Rattle.text.specs.Strings.{begins}
use Rattle.text.proofs.Comparing.{begins_length}
use Rattle.fields.specs.declared.kinds.Kind.{Kind}
use Rattle.fields.specs.declared.kinds.Kind.TheVariants.{Heading, Continuation, Field, Other}
use Rattle.fields.specs.Kinds.{symbols, place, ident_of, is_field, kind_by, kind_of}
use Rattle.fields.proofs.Places.{place_in, same_identifier}

-- a line that has a colon at its third place has three bytes
third : (l : List ℕ) → eqb (get_or l 2 0) 0x3A ≡ true → 3 ≤ length l
third l e = by_test (leb 3 (length l))
    (λ p. leb-true 3 (length l) p)
    (λ p. absurd (omega (arith, eqb-true (get_or l 2 0) 0x3A e, get_or-eq_default l 0 {n = 2} (omega (arith, leb-false 3 (length l) p)))))

pub short : (l : List ℕ) → length l < 3 → Other ≡ kind_of l
unfolding kind_of
short l h =
    rw (fails (begins l (ascii "HD:")) (begins_length l (ascii "HD:")), fails (begins l (ascii "   ")) (begins_length l (ascii "   ")), fails (eqb (get_or l 2 0) 0x3A) (third l), and-false)
  where
    fails : (t : Bool) → (t ≡ true → 3 ≤ length l) → t ≡ false
    fails t n = never_true t (λ e. omega (arith, n e))

-- the three bytes of a heading are a field's, of the identifier HD
heading_is : (l : List ℕ) → begins l (ascii "HD:") ≡ true → (is_field l ≡ true) × (ident_of l ≡ 625)
unfolding begins place
heading_is [] e = absurd (false≢true e)
heading_is (x ∷ []) e = absurd (false≢true (and_parts (eqb x 72) false e).1)
heading_is (x ∷ y ∷ []) e = absurd (false≢true (and_parts (eqb y 68) false (and_parts (eqb x 72) _ e).1).1)
heading_is (x ∷ y ∷ z ∷ r) e =
    let p = and_parts (eqb x 72) _ e in
    let q = and_parts (eqb y 68) _ p.1 in
    let t = and_parts (eqb z 58) true q.1 in
    (rw (eqb-true x 72 p.0, eqb-true y 68 q.0, eqb-true z 58 t.0), rw (eqb-true x 72 p.0, eqb-true y 68 q.0))

three_bytes : (l : List ℕ) → 3 ≤ length l → get_or l 0 0 ≡ 72 → get_or l 1 0 ≡ 68 → eqb (get_or l 2 0) 58 ≡ true → begins l (ascii "HD:") ≡ true
unfolding begins
three_bytes [] h p q t = absurd (omega arith)
three_bytes (x ∷ []) h p q t = absurd (omega arith)
three_bytes (x ∷ y ∷ []) h p q t = absurd (omega arith)
three_bytes (x ∷ y ∷ z ∷ r) h p q t = rw (p, q, t)

is_heading : (l : List ℕ) → is_field l ≡ true → ident_of l ≡ 625 → begins l (ascii "HD:") ≡ true
unfolding place
is_heading l e f =
    let d = same_identifier l (ascii "HD:") e refl f in
    let t = (and_parts (among (get_or l 0 0) symbols && among (get_or l 1 0) symbols) (eqb (get_or l 2 0) 0x3A) e).1 in
    three_bytes l (third l t) d.0 d.1 t

-- a continuation is no field
spaces : (l : List ℕ) → begins l (ascii "   ") ≡ true → is_field l ≡ false
unfolding begins
spaces [] e = refl
spaces (x ∷ l) e = rw (eqb-true x 32 (and_parts (eqb x 32) _ e).0)

module _ (l : List ℕ) (a b : ℕ) (p : a ≡ place (get_or l 0 0) symbols) (q : b ≡ place (get_or l 1 0) symbols) where
  asked : ((ltb a 36 && ltb b 36) && eqb (get_or l 2 0) 0x3A) ≡ is_field l
  asked = rw (p, q, place_in (get_or l 0 0) symbols, place_in (get_or l 1 0) symbols)

  ident : a * 36 + b ≡ ident_of l
  ident = rw (p, q)

  not_spaces : is_field l ≡ true → begins l (ascii "   ") ≡ false
  not_spaces e = never_true (begins l (ascii "   ")) (λ f. false≢true (sym (spaces l f) ∙ e))

  -- the four kinds, as the code tells them
  pub as_heading : ((ltb a 36 && ltb b 36) && eqb (get_or l 2 0) 0x3A) ≡ true → a * 36 + b ≡ 625 → Heading ≡ kind_of l
  unfolding kind_of
  as_heading e f = rw (is_heading l (sym asked ∙ e) (sym ident ∙ f))

  pub as_field : ((ltb a 36 && ltb b 36) && eqb (get_or l 2 0) 0x3A) ≡ true → (a * 36 + b ≡ 625 → ⊥) → Field (a * 36 + b) ≡ kind_of l
  unfolding kind_of
  as_field e n =
      let f = sym asked ∙ e in
      rw (never_true (begins l (ascii "HD:")) (λ h. n (ident ∙ (heading_is l h).1)), not_spaces f, f, ident)

  pub as_low : ((ltb a 36 && ltb b 36) && eqb (get_or l 2 0) 0x3A) ≡ false → {t : Bool} → t ≡ begins l (ascii "   ") → cond t Continuation Other ≡ kind_of l
  unfolding kind_of
  as_low e f =
      let g = sym asked ∙ e in
      rw (never_true (begins l (ascii "HD:")) (λ h. false≢true (sym g ∙ (heading_is l h).0)), g, f)

-- both places are below 36 where a field is asked for
pub few : (a b : ℕ) (t : Bool) → ((ltb a 36 && ltb b 36) && t) ≡ true → (a < 36) × (b < 36)
few a b t e = let p = and_parts (ltb a 36) (ltb b 36) (and_parts (ltb a 36 && ltb b 36) t e).0 in (ltb-true a 36 p.0, ltb-true b 36 p.1)

-- what the kind of a field tells of its line
abbrev Told : List ℕ → Kind → Type 0
Told l Heading = Unit {0}
Told l Continuation = Unit {0}
Told l (Field i) = (is_field l ≡ true) × (ident_of l ≡ i)
Told l Other = Unit {0}

told : (l : List ℕ) → Told l (kind_of l)
unfolding kind_of
told l = go (begins l (ascii "HD:")) (begins l (ascii "   ")) (is_field l) refl
  where
    go : (x y z : Bool) → is_field l ≡ z → Told l (kind_by x y z (ident_of l))
    go true y z e = tt
    go false true z e = tt
    go false false true e = (e, refl)
    go false false false e = tt

-- a field has three bytes, and its identifier's number, below 1296
pub field_is : (l : List ℕ) (i : ℕ) → kind_of l ≡ Field i → (3 ≤ length l) × (ident_of l ≡ i) × (i < 1296)
field_is l i e =
    let t = subst (Told l) e (told l) in
    let p = and_parts (among (get_or l 0 0) symbols && among (get_or l 1 0) symbols) (eqb (get_or l 2 0) 0x3A) t.0 in
    let q = and_parts (among (get_or l 0 0) symbols) (among (get_or l 1 0) symbols) p.0 in
    (third l p.1, t.1, omega (arith, t.1, ltb-true (place (get_or l 0 0) symbols) 36 (place_in (get_or l 0 0) symbols ∙ q.0), ltb-true (place (get_or l 1 0) symbols) 36 (place_in (get_or l 1 0) symbols ∙ q.1)))

-- a line and its first bytes, three or more, are of one kind
begins_take : (s x : List ℕ) (k : ℕ) → length x ≤ k → begins (take k s) x ≡ begins s x
unfolding begins
begins_take s [] k h = refl
begins_take s (b ∷ x) zero h = absurd (not-suc-le-zero h)
begins_take [] (b ∷ x) (suc k) h = refl
begins_take (a ∷ s) (b ∷ x) (suc k) h = rw (begins_take s x k (le_of_suc-le-suc h))

pub kind_take : (k : ℕ) (l : List ℕ) → 3 ≤ k → kind_of (take k l) ≡ kind_of l
unfolding kind_of
kind_take k l h =
    rw (begins_take l (ascii "HD:") k h, begins_take l (ascii "   ") k h, get_or-take k l 0 0 (omega arith), get_or-take k l 1 0 (omega arith), get_or-take k l 2 0 (omega arith))
