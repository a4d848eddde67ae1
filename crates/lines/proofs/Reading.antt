-- Laws of `line_at`: one for each way that the search for a line's end goes on or stops, and what a caller's loop knows of the
-- line that was found.
use mathlib.Core.Path.{◌≡◌, refl, sym, ap, subst, ◌∙◌}
use mathlib.Core.Bool.{Bool, true, false, cond, not, and-true, and-false, ◌&&◌, ◌||◌}
use mathlib.Core.List.{List, [], ◌∷◌}
use Prim.Native.Nat.{ℕ, zero, suc, ◌+◌, ◌-◌, ◌<◌, ◌≤◌}
use native.Mathlib.Numerals.{add-one}
use native.Mathlib.Nat.{add-zero}
use native.Mathlib.Omega.{arith}
use lib.ListN.{length, take, drop, get_or, length-drop}
use lib.Seq.{length-take-le, drop-cons, drop-drop}
use Rattle.std.specs.List.{starts_with}
use lib.Dec.{eqb}
use Rattle.std.proofs.lemmas.Bool.Decides.{nat_tests}
use Rattle.laws.specs.Lists.{any_of}
use Rattle.laws.specs.Tests.{is_byte}
use Rattle.laws.proofs.Any.{or_left, or_right}
use Rattle.laws.proofs.Parts.{take_rest}
use Rattle.text.specs.Characters.{is_plain, is_odd}
use Rattle.lines.specs.declared.Found.{Found}
use Rattle.lines.specs.Lines.{Line, crlf, onto, lines, taken}
use Rattle.lines.specs.Reading.{rest_to, first_at, after, line_at, span, IsNext}
use Rattle.lines.proofs.Lines.{lines_past, lines_cut, lines_on, crlf_not, Cut, cut}

-- ---- CR LF at a place

pub crlf_in : (s : List ℕ) (i : ℕ) → i + 1 < length s → crlf (drop i s) ≡ (is_byte 0x0d (get_or s i 0) && is_byte 0x0a (get_or s (i + 1) 0))
unfolding crlf
crlf_in s i h =
    let h₀ : i < length s = omega arith in
    let h₁ : suc i < length s = omega arith in
    rw (drop-cons s i 0, drop-cons s (suc i) 0, add-one)

crlf_begins : (b : ℕ) (s : List ℕ) → (eqb b 0x0d && starts_with eqb s (0x0a ∷ [])) ≡ crlf (b ∷ s)
unfolding crlf
crlf_begins b [] = and-false (eqb b 0x0d)
crlf_begins b (c ∷ s) = grind (arith, nat_tests, and-true)

-- as a test of a byte and of the rest
pub crlf_here : (s : List ℕ) (i : ℕ) → i < length s → crlf (drop i s) ≡ (eqb (get_or s i 0) 0x0d && starts_with eqb (take (length s - (i + 1)) (drop (i + 1) s)) (0x0a ∷ []))
crlf_here s i h = rw (take_rest, drop-cons s i 0, add-one i) (sym (crlf_begins (get_or s i 0) (drop (suc i) s)))

-- ---- the search

after_both : (a b : Bool) (f : Found) → after a (after b f) ≡ after (a || b) f
after_both true b f = refl
after_both false b f = refl

-- a byte on the line moves the place on
onto_at : (at b : ℕ) (ls : List Line) → first_at at (onto b ls) ≡ after (is_odd b) (first_at (at + 1) ls)
unfolding onto any_of
onto_at at b [] = ap (λ (k : ℕ). record { end = at + 1; next = k; ended = false; odd = is_odd b || false }) (add-zero (at + 1))
onto_at at b (l ∷ ls) =
    let e : at + suc (length l.bytes) ≡ at + 1 + length l.bytes = omega arith in
    ap (λ (k : ℕ). record { end = k; next = k + cond l.ended 2 0; ended = l.ended; odd = is_odd b || any_of is_odd l.bytes }) e

line_byte : (s : List ℕ) (i : ℕ) → i < length s → crlf (drop i s) ≡ false → line_at s i ≡ after (is_odd (get_or s i 0)) (line_at s (i + 1))
line_byte s i h e =
    let d : drop i s ≡ get_or s i 0 ∷ drop (i + 1) s = rw (add-one i) (drop-cons s i 0 h) in
    ap (λ (l : List ℕ). first_at i (lines l)) d
    ∙ ap (first_at i) (lines_on (get_or s i 0) (drop (i + 1) s) (rw d at e))
    ∙ onto_at i (get_or s i 0) (lines (drop (i + 1) s))

-- a byte more was looked at: t says whether it is plain
pub line_more : (s : List ℕ) (i : ℕ) (odd t : Bool) → i < length s → crlf (drop i s) ≡ false → t ≡ is_plain (get_or s i 0) → after odd (line_at s i) ≡ after (odd || not t) (line_at s (i + 1))
line_more s i odd t h e a =
    ap (after odd) (line_byte s i h e) ∙ after_both odd (is_odd (get_or s i 0)) (line_at s (i + 1)) ∙ ap (λ (u : Bool). after (odd || not u) (line_at s (i + 1))) (sym a)

-- n bytes without CR
skip : (n at : ℕ) (l : List ℕ) → n ≤ length l → any_of (is_byte 0x0d) (take n l) ≡ false → first_at at (lines l) ≡ after (any_of is_odd (take n l)) (first_at (at + n) (lines (drop n l)))
unfolding any_of
skip zero at l h e = ap (λ (k : ℕ). first_at k (lines l)) (sym (add-zero at))
skip (suc n) at [] h e = absurd (omega arith)
skip (suc n) at (b ∷ l) h e =
    let m : at + 1 + n ≡ at + suc n = omega arith in
    ap (first_at at) (lines_on b l (crlf_not b l (or_left (is_byte 0x0d b) (any_of (is_byte 0x0d) (take n l)) e)))
    ∙ onto_at at b (lines l)
    ∙ ap (after (is_odd b)) (skip n (at + 1) l (omega arith) (or_right (is_byte 0x0d b) (any_of (is_byte 0x0d) (take n l)) e))
    ∙ after_both (is_odd b) (any_of is_odd (take n l)) (first_at (at + 1 + n) (lines (drop n l)))
    ∙ ap (λ (k : ℕ). after (is_odd b || any_of is_odd (take n l)) (first_at k (lines (drop n l)))) m

-- a block more was looked at: t says whether a byte of it is odd
pub line_block : (s : List ℕ) (i n : ℕ) (odd t : Bool) → i + n ≤ length s → any_of (is_byte 0x0d) (take n (drop i s)) ≡ false → t ≡ any_of is_odd (take (i + n - i) (drop i s))
    → after odd (line_at s i) ≡ after (odd || t) (line_at s (i + n))
line_block s i n odd t h e a =
    let m : i + n - i ≡ n = omega arith in
    ap (after odd) (skip n i (drop i s) (omega (arith, length-drop i s)) e)
    ∙ after_both odd (any_of is_odd (take n (drop i s))) (first_at (i + n) (lines (drop n (drop i s))))
    ∙ ap (λ (l : List ℕ). after (odd || any_of is_odd (take n (drop i s))) (first_at (i + n) (lines l))) (drop-drop n i s)
    ∙ ap (λ (u : Bool). after (odd || u) (line_at s (i + n))) (sym (a ∙ ap (λ (k : ℕ). any_of is_odd (take k (drop i s))) m))

cut_after : (odd : Bool) (i : ℕ) → after odd (record { end = i; next = i + 2; ended = true; odd = false }) ≡ record { end = i; next = i + 2; ended = true; odd = odd }
cut_after true i = refl
cut_after false i = refl

-- CR LF after what was looked at
pub line_cut : (s : List ℕ) (i : ℕ) (odd : Bool) → crlf (drop i s) ≡ true → after odd (line_at s i) ≡ record { end = i; next = i + 2; ended = true; odd = odd }
unfolding any_of
line_cut s i odd e =
    ap (λ (ls : List Line). after odd (first_at i ls)) (lines_cut (drop i s) e)
    ∙ ap (λ (k : ℕ). after odd (record { end = k; next = k + 2; ended = true; odd = false })) (add-zero i)
    ∙ cut_after odd i

rest_after : (odd : Bool) (end : ℕ) → after odd (rest_to end false) ≡ rest_to end odd
rest_after true end = refl
rest_after false end = refl

pub line_end : (s : List ℕ) (i : ℕ) (odd : Bool) → length s ≤ i → after odd (line_at s i) ≡ rest_to i odd
line_end s i odd h = ap (λ (ls : List Line). after odd (first_at i ls)) (lines_past s i h) ∙ rest_after odd i

-- ---- the caller's loop

-- from the first line of what stands there
of_cut : (s : List ℕ) (at : ℕ) → Cut (drop at s) → IsNext s at (line_at s at)
of_cut s at C =
    let n = length C.first.bytes in
    let m : at + n - at ≡ n = omega arith in
    let bytes : C.first.bytes ≡ span at (at + n) s = sym (ap (λ (k : ℕ). take k (drop at s)) m ∙ C.front) in
    let r : at + taken C.first ≡ at + n + cond C.first.ended 2 0 = omega arith in
    let rest : C.others ≡ lines (drop (at + n + cond C.first.ended 2 0) s) = sym C.after ∙ ap lines (drop-drop (taken C.first) at s ∙ ap (λ (k : ℕ). drop k s) r) in
    subst (IsNext s at) (sym (ap (first_at at) C.whole))
    (record {
      cut = C.whole ∙ (λ i. record { bytes = bytes i; ended = C.first.ended } ∷ rest i);
      tells = ap (any_of is_odd) bytes;
      follows = refl;
      starts = omega arith;
      closes = omega arith;
      moves = omega (arith, C.some);
      within = omega (arith, C.fits, C.some, length-drop at s);
    })

pub is_next : (s : List ℕ) (at : ℕ) (f : Found) → f ≡ line_at s at → at < length s → IsNext s at f
is_next s at f e h =
    subst (IsNext s at) (sym e) (of_cut s at (subst Cut (sym (drop-cons s at 0 h)) (cut (get_or s at 0) (drop (suc at) s))))

-- what `&s[at..end]` has
pub span_long : {s : List ℕ} {at : ℕ} {f : Found} → IsNext s at f → f.end - at ≡ length (span at f.end s)
span_long {s} {at} {f} N = sym (length-take-le (f.end - at) (drop at s) (omega (arith, length-drop at s, N.starts, N.closes, N.within)))
