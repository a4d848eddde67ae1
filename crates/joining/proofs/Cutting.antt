-- Laws of `whole` and `rest`: what stands behind a text goes onto its rest, and a text without CR LF is one line.
use mathlib.Core.Path.{◌≡◌, refl, sym, ap, ◌∙◌}
use mathlib.Core.Bool.{Bool, true, false, cond}
use mathlib.Core.List.{List, [], ◌∷◌, ◌++◌}
use Prim.Native.Nat.{ℕ, suc, ◌+◌}
use native.Mathlib.Omega.{arith}
use lib.ListN.{length}
use Rattle.laws.proofs.Truth.{by_test}
use Rattle.lines.specs.Lines.{Line, crlf, onto, lines, taken_by}
use Rattle.lines.proofs.Lines.{lines_cut, lines_on, crlf_short}
use Rattle.joining.specs.Whole.{ended_ones, open_one, whole, rest}

-- ---- the first line

-- the first line of bytes that begin with c is empty and ended, or begins with c
pub data First (c : ℕ) : List Line → Type 0 where
  here : {ls : List Line} → First c (record { bytes = []; ended = true } ∷ ls)
  on : {bs : List ℕ} {e : Bool} {ls : List Line} → First c (record { bytes = c ∷ bs; ended = e } ∷ ls)

first_onto : (c : ℕ) (ls : List Line) → First c (onto c ls)
unfolding onto
first_onto c [] = on
first_onto c (l ∷ ls) = on

pub first_of : (c : ℕ) (s : List ℕ) → First c (lines (c ∷ s))
unfolding lines
first_of c [] = first_onto c []
first_of c (b ∷ s) = by_test (crlf (c ∷ b ∷ s))
    (λ q. rw q here)
    (λ q. rw q (first_onto c (lines (b ∷ s))))

-- ---- a text and what stands behind it

-- two bytes decide
pub crlf_two : (b c : ℕ) (s t : List ℕ) → crlf (b ∷ c ∷ s) ≡ crlf (b ∷ c ∷ t)
unfolding crlf
crlf_two b c s t = refl

abbrev Goes : List ℕ → List ℕ → Type 0
Goes t c = lines (t ++ c) ≡ whole t ++ lines (rest t ++ c)

goes_cut : (b b' : ℕ) (s c : List ℕ) → crlf (b ∷ b' ∷ s) ≡ true → Goes s c → Goes (b ∷ b' ∷ s) c
unfolding ended_ones open_one
goes_cut b b' s c e ih =
    lines_cut (b ∷ b' ∷ (s ++ c)) (crlf_two b b' (s ++ c) s ∙ e)
    ∙ ap (λ (ls : List Line). record { bytes = []; ended = true } ∷ ls) ih
    ∙ ap (λ (ls : List Line). ended_ones ls ++ lines (open_one ls ++ c)) (sym (lines_cut (b ∷ b' ∷ s) e))

goes_onto : (b b' : ℕ) (s c : List ℕ) → crlf (b ∷ b' ∷ s) ≡ false → (ls : List Line) → First b' ls → lines (b' ∷ (s ++ c)) ≡ ended_ones ls ++ lines (open_one ls ++ c)
    → onto b (lines (b' ∷ (s ++ c))) ≡ ended_ones (onto b ls) ++ lines (open_one (onto b ls) ++ c)
unfolding ended_ones open_one onto
goes_onto b b' s c e _ here ih = ap (onto b) ih
goes_onto b b' s c e _ (on {e = true}) ih = ap (onto b) ih
goes_onto b b' s c e _ (on {bs} {e = false}) ih = ap (onto b) ih ∙ sym (lines_on b (b' ∷ (bs ++ c)) (crlf_two b b' (bs ++ c) s ∙ e))

pub lines_append : (t c : List ℕ) → Goes t c
unfolding lines ended_ones open_one onto
lines_append [] c = refl
lines_append (b ∷ []) c = refl
lines_append (b ∷ b' ∷ s) c = by_test (crlf (b ∷ b' ∷ s))
    (λ e. goes_cut b b' s c e (lines_append s c))
    (λ e.
    lines_on b (b' ∷ (s ++ c)) (crlf_two b b' (s ++ c) s ∙ e)
    ∙ goes_onto b b' s c e (lines (b' ∷ s)) (first_of b' s) (lines_append (b' ∷ s) c)
    ∙ ap (λ (ls : List Line). ended_ones ls ++ lines (open_one ls ++ c)) (sym (lines_on b (b' ∷ s) e)))

-- ---- no CR LF

-- no CR LF begins in p where x stands behind it
abbrev pub Clear : List ℕ → List ℕ → Type 0
Clear [] x = Unit {0}
Clear (b ∷ p) x = (crlf (b ∷ (p ++ x)) ≡ false) × Clear p x

-- a text that is one line with no CR LF behind it, or none
abbrev pub alone : List ℕ → List Line
alone [] = []
alone (b ∷ p) = record { bytes = b ∷ p; ended = false } ∷ []

-- p goes onto the first of lines
abbrev pub ahead : List ℕ → List Line → List Line
ahead p [] = alone p
ahead p (l ∷ ls) = record { bytes = p ++ l.bytes; ended = l.ended } ∷ ls

onto_ahead : (b : ℕ) (p : List ℕ) (ls : List Line) → onto b (ahead p ls) ≡ ahead (b ∷ p) ls
unfolding onto
onto_ahead b [] [] = refl
onto_ahead b (a ∷ p) [] = refl
onto_ahead b p (l ∷ ls) = refl

ahead_none : (ls : List Line) → ahead [] ls ≡ ls
ahead_none [] = refl
ahead_none (l ∷ ls) = refl

pub clear_lines : (p x : List ℕ) → Clear p x → lines (p ++ x) ≡ ahead p (lines x)
clear_lines [] x q = sym (ahead_none (lines x))
clear_lines (b ∷ p) x q = lines_on b (p ++ x) q.0 ∙ ap (onto b) (clear_lines p x q.1) ∙ onto_ahead b p (lines x)

-- a rest has none in it
clear_onto : (b b' : ℕ) (s : List ℕ) → crlf (b ∷ b' ∷ s) ≡ false → (ls : List Line) → First b' ls → Clear (open_one ls) [] → Clear (open_one (onto b ls)) []
unfolding open_one onto
clear_onto b b' s e _ here q = q
clear_onto b b' s e _ (on {e = true}) q = q
clear_onto b b' s e _ (on {bs} {e = false}) q = (crlf_two b b' (bs ++ []) s ∙ e, q)

pub rest_clear : (t : List ℕ) → Clear (rest t) []
unfolding lines open_one onto
rest_clear [] = tt
rest_clear (b ∷ []) = (crlf_short (b ∷ []) (omega arith), tt)
rest_clear (b ∷ b' ∷ s) = by_test (crlf (b ∷ b' ∷ s))
    (λ e. rw e (rest_clear s))
    (λ e. rw e (clear_onto b b' s e (lines (b' ∷ s)) (first_of b' s) (rest_clear (b' ∷ s))))

-- nor has a first line
abbrev pub first_bytes : List Line → List ℕ
first_bytes [] = []
first_bytes (l ∷ ls) = l.bytes

first_onto_clear : (b b' : ℕ) (s : List ℕ) → crlf (b ∷ b' ∷ s) ≡ false → (ls : List Line) → First b' ls → Clear (first_bytes ls) [] → Clear (first_bytes (onto b ls)) []
unfolding onto
first_onto_clear b b' s e _ here q = (crlf_short (b ∷ []) (omega arith), tt)
first_onto_clear b b' s e _ (on {bs}) q = (crlf_two b b' (bs ++ []) s ∙ e, q)

pub first_clear : (s : List ℕ) → Clear (first_bytes (lines s)) []
unfolding lines onto
first_clear [] = tt
first_clear (b ∷ []) = (crlf_short (b ∷ []) (omega arith), tt)
first_clear (b ∷ b' ∷ s) = by_test (crlf (b ∷ b' ∷ s))
    (λ e. rw e tt)
    (λ e. rw e (first_onto_clear b b' s e (lines (b' ∷ s)) (first_of b' s) (first_clear (b' ∷ s))))

-- ---- lengths

size_onto : (b : ℕ) (ls : List Line) → taken_by (ended_ones (onto b ls)) + length (open_one (onto b ls)) ≡ suc (taken_by (ended_ones ls) + length (open_one ls))
unfolding ended_ones open_one taken_by onto
size_onto b [] = refl
size_onto b (l ∷ ls) = go l.ended
  where
    go : (t : Bool)
        → taken_by (cond t (record { bytes = b ∷ l.bytes; ended = t } ∷ ended_ones ls) []) + length (cond t (open_one ls) (b ∷ l.bytes))
        ≡ suc (taken_by (cond t (record { bytes = l.bytes; ended = t } ∷ ended_ones ls) []) + length (cond t (open_one ls) l.bytes))
    go true = omega arith
    go false = omega arith

-- each byte stands in a whole line or in the rest
pub sizes : (t : List ℕ) → taken_by (whole t) + length (rest t) ≡ length t
unfolding lines ended_ones open_one taken_by onto
sizes [] = refl
sizes (b ∷ []) = refl
sizes (b ∷ b' ∷ s) = by_test (crlf (b ∷ b' ∷ s))
    (λ q. rw q (omega (arith, sizes s)))
    (λ q. rw q (omega (arith, size_onto b (lines (b' ∷ s)), sizes (b' ∷ s))))

-- ---- whole lines in front

pub ended_append : (ls ms : List Line) → ended_ones (ended_ones ls ++ ms) ≡ ended_ones ls ++ ended_ones ms
unfolding ended_ones
ended_append [] ms = refl
ended_append (l ∷ ls) ms = by_test l.ended
    (λ e. rw (e, ended_append ls ms))
    (λ e. rw e)

pub open_append : (ls ms : List Line) → open_one (ended_ones ls ++ ms) ≡ open_one ms
unfolding ended_ones open_one
open_append [] ms = refl
open_append (l ∷ ls) ms = by_test l.ended
    (λ e. rw e (open_append ls ms))
    (λ e. rw e)

pub whole_append : (t c : List ℕ) → whole (t ++ c) ≡ whole t ++ whole (rest t ++ c)
whole_append t c = ap ended_ones (lines_append t c) ∙ ended_append (lines t) (lines (rest t ++ c))

pub rest_append : (t c : List ℕ) → rest (t ++ c) ≡ rest (rest t ++ c)
rest_append t c = ap open_one (lines_append t c) ∙ open_append (lines t) (lines (rest t ++ c))
