-- The kind of a line is told by the bytes from its start on, wherever it ends.
use Prim.Native.Nat.{ℕ, ◌≤◌}
use native.Mathlib.Omega.{arith}
use mathlib.Core.Path.{◌≡◌, refl, sym, ap, ◌∙◌}
use mathlib.Core.Bool.{Bool, true, false, ◌&&◌, and-false, true≢false, false≢true}
use mathlib.Core.List.{List, [], ◌∷◌}
use lib.Dec.{eqb}
use lib.ListN.{length, get_or}
use borrow.Author.Tests.{eqb-true, eq-eqb}
use Rattle.laws.specs.Ascii.{ascii}
use Rattle.laws.specs.Tests.{among, is_byte}
use Rattle.laws.proofs.Truth.{both_left, both_right, by_test}
use Rattle.text.specs.Strings.{begins}
use Rattle.lines.specs.Lines.{Line, crlf, onto, lines}
use Rattle.lines.proofs.Lines.{lines_none, lines_cut, lines_on}
use Rattle.fields.specs.declared.kinds.Kind.{Kind}
use Rattle.fields.specs.declared.kinds.Kind.TheVariants.{Heading, Continuation, Field, Other}
use Rattle.fields.specs.Kinds.{symbols, place, ident_of, named, is_field, kind_by, kind_of}
use Rattle.fields.proofs.Places.{same_identifier}
use Rattle.fields.proofs.LineKinds.{field_is}

-- CR begins a CR LF
pub crlf_cr : (b : ℕ) (x : List ℕ) → crlf (b ∷ x) ≡ true → b ≡ 0x0d
unfolding crlf
crlf_cr b [] e = absurd (false≢true e)
crlf_cr b (c ∷ x) e = eqb-true b 0x0d (both_left (is_byte 0x0d b) (is_byte 0x0a c) e)

-- ---- the bytes of the first line
abbrev first_bytes : List Line → List ℕ
first_bytes [] = []
first_bytes (l ∷ ls) = l.bytes

first_onto : (b : ℕ) (ls : List Line) → first_bytes (onto b ls) ≡ b ∷ first_bytes ls
unfolding onto
first_onto b [] = refl
first_onto b (l ∷ ls) = refl

none_of : (x y z : Bool) (i : ℕ) → x ≡ false → y ≡ false → z ≡ false → kind_by x y z i ≡ Other
none_of x y z i p q r = rw (p, q, r)

-- a line that CR LF cuts short is of no kind, and with the CR LF too
kind_cut : (x : List ℕ) → kind_of [] ≡ kind_of (0x0d ∷ x)
unfolding kind_of begins
kind_cut x = refl

kind_cut_one : (b : ℕ) (x : List ℕ) → kind_of (b ∷ []) ≡ kind_of (b ∷ 0x0d ∷ x)
unfolding kind_of begins
kind_cut_one b x =
    none_of _ _ _ _ (and-false (eqb b 0x48)) (and-false (eqb b 0x20)) (and-false (among b symbols && false))
    ∙ sym (none_of _ _ _ _ (and-false (eqb b 0x48)) (and-false (eqb b 0x20)) (ap (λ (t : Bool). t && eqb (get_or x 0 0) 0x3A) (and-false (among b symbols))))

kind_cut_two : (b c : ℕ) (x : List ℕ) → kind_of (b ∷ c ∷ []) ≡ kind_of (b ∷ c ∷ 0x0d ∷ x)
unfolding kind_of begins
kind_cut_two b c x =
    let none : (t u : Bool) → (t && (u && false)) ≡ false = λ t u. ap (λ (v : Bool). t && v) (and-false u) ∙ and-false t in
    none_of _ _ _ _ (none (eqb b 0x48) (eqb c 0x44)) (none (eqb b 0x20) (eqb c 0x20)) (and-false (among b symbols && among c symbols))
    ∙ sym (none_of _ _ _ _ (none (eqb b 0x48) (eqb c 0x44)) (none (eqb b 0x20) (eqb c 0x20)) (and-false (among b symbols && among c symbols)))

kind_three : (b c d : ℕ) (x y : List ℕ) → kind_of (b ∷ c ∷ d ∷ x) ≡ kind_of (b ∷ c ∷ d ∷ y)
unfolding kind_of begins
kind_three b c d x y = refl

-- how a front of the bytes goes on: at a CR LF, or onto the line
module _ (front : List ℕ → List ℕ) where
  on_line : (b : ℕ) (x : List ℕ) → (crlf (b ∷ x) ≡ true → kind_of (front []) ≡ kind_of (front (b ∷ x)))
      → (crlf (b ∷ x) ≡ false → kind_of (front (b ∷ first_bytes (lines x))) ≡ kind_of (front (b ∷ x)))
      → kind_of (front (first_bytes (lines (b ∷ x)))) ≡ kind_of (front (b ∷ x))
  on_line b x f g = by_test (crlf (b ∷ x))
      (λ e. ap (λ (ls : List Line). kind_of (front (first_bytes ls))) (lines_cut (b ∷ x) e) ∙ f e)
      (λ e.
      ap (λ (ls : List Line). kind_of (front (first_bytes ls))) (lines_on b x e)
      ∙ ap (λ (l : List ℕ). kind_of (front l)) (first_onto b (lines x)) ∙ g e)

kind_third : (b c : ℕ) (x : List ℕ) → kind_of (b ∷ c ∷ first_bytes (lines x)) ≡ kind_of (b ∷ c ∷ x)
kind_third b c [] = ap (λ (ls : List Line). kind_of (b ∷ c ∷ first_bytes ls)) lines_none
kind_third b c (d ∷ x) =
    on_line (λ (l : List ℕ). b ∷ c ∷ l) d x
    (λ e. kind_cut_two b c x ∙ ap (λ (d : ℕ). kind_of (b ∷ c ∷ d ∷ x)) (sym (crlf_cr d x e)))
    (λ e. kind_three b c d (first_bytes (lines x)) x)

kind_second : (b : ℕ) (x : List ℕ) → kind_of (b ∷ first_bytes (lines x)) ≡ kind_of (b ∷ x)
kind_second b [] = ap (λ (ls : List Line). kind_of (b ∷ first_bytes ls)) lines_none
kind_second b (c ∷ x) =
    on_line (λ (l : List ℕ). b ∷ l) c x
    (λ e. kind_cut_one b x ∙ ap (λ (c : ℕ). kind_of (b ∷ c ∷ x)) (sym (crlf_cr c x e)))
    (λ e. kind_third b c x)

kind_first : (x : List ℕ) → kind_of (first_bytes (lines x)) ≡ kind_of x
kind_first [] = ap (λ (ls : List Line). kind_of (first_bytes ls)) lines_none
kind_first (b ∷ x) =
    on_line (λ (l : List ℕ). l) b x
    (λ e. kind_cut x ∙ ap (λ (b : ℕ). kind_of (b ∷ x)) (sym (crlf_cr b x e)))
    (λ e. kind_second b x)

pub kind_told : (x : List ℕ) (l : Line) (ls : List Line) → lines x ≡ l ∷ ls → kind_of l.bytes ≡ kind_of x
kind_told x l ls e = sym (ap (λ (ls : List Line). kind_of (first_bytes ls)) e) ∙ kind_first x

-- ---- headings and KCs by their letters
pub heading_told : (x : List ℕ) → begins x (ascii "HD:") ≡ true → kind_of x ≡ Heading
unfolding kind_of
heading_told x e = rw e

abbrev is_heading : Kind → Bool
is_heading Heading = true
is_heading Continuation = false
is_heading (Field i) = false
is_heading Other = false

pub heading_not : (x : List ℕ) → begins x (ascii "HD:") ≡ false → kind_of x ≡ Heading → ⊥
unfolding kind_of
heading_not x e = go (begins x (ascii "HD:")) (begins x (ascii "   ")) (is_field x) e
  where
    go : (t u v : Bool) → t ≡ false → kind_by t u v (ident_of x) ≡ Heading → ⊥
    go true u v e h = true≢false e
    go false true v e h = false≢true (ap is_heading h)
    go false false true e h = false≢true (ap is_heading h)
    go false false false e h = false≢true (ap is_heading h)

pub kc_told : (x : List ℕ) → begins x (ascii "KC:") ≡ true → kind_of x ≡ Field (named "KC")
unfolding kind_of begins place
kc_told [] e = absurd (false≢true e)
kc_told (b ∷ []) e = absurd (false≢true (both_right (eqb b 0x4b) false e))
kc_told (b ∷ c ∷ []) e = absurd (false≢true (both_right (eqb c 0x43) false (both_right (eqb b 0x4b) (eqb c 0x43 && false) e)))
kc_told (b ∷ c ∷ d ∷ x) e =
    let e' = both_right (eqb b 0x4b) (eqb c 0x43 && (eqb d 0x3a && true)) e in
    let p : b ≡ 0x4b = eqb-true b 0x4b (both_left (eqb b 0x4b) (eqb c 0x43 && (eqb d 0x3a && true)) e) in
    let q : c ≡ 0x43 = eqb-true c 0x43 (both_left (eqb c 0x43) (eqb d 0x3a && true) e') in
    let r : d ≡ 0x3a = eqb-true d 0x3a (both_left (eqb d 0x3a) true (both_right (eqb c 0x43) (eqb d 0x3a && true) e')) in
    (λ i. kind_of (p i ∷ q i ∷ r i ∷ x))

abbrev is_field_kind : Kind → Bool
is_field_kind Heading = false
is_field_kind Continuation = false
is_field_kind (Field i) = true
is_field_kind Other = false

field_told : (x : List ℕ) (i : ℕ) → kind_of x ≡ Field i → is_field x ≡ true
unfolding kind_of
field_told x i e = go (begins x (ascii "HD:")) (begins x (ascii "   ")) (is_field x) refl e
  where
    go : (t u v : Bool) → is_field x ≡ v → kind_by t u v (ident_of x) ≡ Field i → is_field x ≡ true
    go true u v q h = absurd (false≢true (ap is_field_kind h))
    go false true v q h = absurd (false≢true (ap is_field_kind h))
    go false false true q h = q
    go false false false q h = absurd (false≢true (ap is_field_kind h))

kc_letters : (x : List ℕ) → 3 ≤ length x → get_or x 0 0 ≡ 0x4b → get_or x 1 0 ≡ 0x43 → get_or x 2 0 ≡ 0x3a → begins x (ascii "KC:") ≡ true
unfolding begins
kc_letters [] h p q r = absurd (omega arith)
kc_letters (b ∷ []) h p q r = absurd (omega arith)
kc_letters (b ∷ c ∷ []) h p q r = absurd (omega arith)
kc_letters (b ∷ c ∷ d ∷ x) h p q r = rw (eq-eqb b 0x4b p, eq-eqb c 0x43 q, eq-eqb d 0x3a r)

pub kc_not : (x : List ℕ) → begins x (ascii "KC:") ≡ false → kind_of x ≡ Field (named "KC") → ⊥
kc_not x e h =
    let f = field_told x (named "KC") h in
    let w = field_is x (named "KC") h in
    let s = same_identifier x (ascii "KC:") f refl w.1 in
    let c = eqb-true (get_or x 2 0) 0x3A (both_right (among (get_or x 0 0) symbols && among (get_or x 1 0) symbols) (eqb (get_or x 2 0) 0x3A) f) in
    true≢false (sym (kc_letters x w.0 s.0 s.1 c) ∙ e)
