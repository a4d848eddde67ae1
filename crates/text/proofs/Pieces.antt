-- Laws of any fixed layout: a text in its form is the text of its numbers, and the text of numbers that fit has the form and those numbers.
use mathlib.Core.Path.{◌≡◌, refl, ap, ◌∙◌, sym, subst}
use mathlib.Core.Bool.{Bool, true, false, not, ◌&&◌, ◌||◌, false≢true}
use mathlib.Core.List.{List, [], ◌∷◌, ◌++◌}
use Prim.Native.Nat.{ℕ, zero, suc, ◌+◌, ◌^◌, ◌≤◌}
use native.Mathlib.Omega.{arith}
use lib.ListN.{length, take, drop, replicate, length-replicate, length-append, take-append-drop}
use lib.Seq.{take_at, drop_at, drop-drop}
use lib.Dec.{ltb, eqb}
use borrow.Author.Tests.{lt-ltb, ltb-true, eq-eqb, eqb-true, not-true}
use Rattle.laws.proofs.Truth.{and_parts, second_holds}
use Rattle.text.specs.Digits.{is_digit, all_are_digits, digits}
use Rattle.text.specs.Forms.{Piece, fixed, padded, template, fits_byte, has_form, part_at, numbers, numbers_fit, form_text}
use Rattle.text.proofs.Widths.{length_digits, read_written, written_read, value_lt, digits_are}

-- a text with a form, taken apart and put together at its head
uncons : (t b : ℕ) (ts bs : List ℕ) → has_form (t ∷ ts) (b ∷ bs) ≡ true → (fits_byte t b ≡ true) × (has_form ts bs ≡ true)
unfolding has_form
uncons t b ts bs e = and_parts (fits_byte t b) (has_form ts bs) e

cons : (t b : ℕ) (ts bs : List ℕ) → fits_byte t b ≡ true → has_form ts bs ≡ true → has_form (t ∷ ts) (b ∷ bs) ≡ true
unfolding has_form
cons t b ts bs p q = rw (p, q)

-- a text with a form is as long as the template
pub form_length : (ts s : List ℕ) → has_form ts s ≡ true → length ts ≡ length s
unfolding has_form
form_length [] [] e = refl
form_length [] (b ∷ bs) e = absurd (false≢true e)
form_length (t ∷ ts) [] e = absurd (false≢true e)
form_length (t ∷ ts) (b ∷ bs) e = ap suc (form_length ts bs (uncons t b ts bs e).1)

-- a template in two parts, apart and together
split : (ts us s : List ℕ) → has_form (ts ++ us) s ≡ true → (has_form ts (take (length ts) s) ≡ true) × (has_form us (drop (length ts) s) ≡ true)
unfolding has_form
split [] us s e = (refl, e)
split (t ∷ ts) us [] e = absurd (false≢true e)
split (t ∷ ts) us (b ∷ bs) e =
    let h = uncons t b (ts ++ us) bs e in
    let r = split ts us bs h.1 in
    (cons t b ts (take (length ts) bs) h.0 r.0, r.1)

join : (ts us xs ys : List ℕ) → has_form ts xs ≡ true → has_form us ys ≡ true → has_form (ts ++ us) (xs ++ ys) ≡ true
unfolding has_form
join [] us [] ys e f = f
join [] us (x ∷ xs) ys e f = absurd (false≢true e)
join (t ∷ ts) us [] ys e f = absurd (false≢true e)
join (t ∷ ts) us (x ∷ xs) ys e f = let h = uncons t x ts xs e in cons t x (ts ++ us) (xs ++ ys) h.0 (join ts us xs ys h.1 f)

-- a row of zeros stands for digits
zero_digit : (b : ℕ) → fits_byte 48 b ≡ true → is_digit b ≡ true
zero_digit b e = go (eqb b 48) refl e
  where
    go : (z : Bool) → eqb b 48 ≡ z → (z || is_digit b) ≡ true → is_digit b ≡ true
    go true p q = rw (eqb-true b 48 p)
    go false p q = q

digit_zero : (b : ℕ) → is_digit b ≡ true → fits_byte 48 b ≡ true
digit_zero b e = second_holds (eqb b 48) (is_digit b) e

zeros : (n : ℕ) (s : List ℕ) → has_form (replicate n 48) s ≡ true → all_are_digits s ≡ true
unfolding has_form all_are_digits
zeros zero [] e = refl
zeros zero (b ∷ bs) e = absurd (false≢true e)
zeros (suc n) [] e = refl
zeros (suc n) (b ∷ bs) e = let h = uncons 48 b (replicate n 48) bs e in rw (zero_digit b h.0, zeros n bs h.1)

under_zeros : (s : List ℕ) → all_are_digits s ≡ true → has_form (replicate (length s) 48) s ≡ true
unfolding has_form all_are_digits
under_zeros [] e = refl
under_zeros (b ∷ bs) e =
    let h = and_parts (is_digit b) (all_are_digits bs) e in
    cons 48 b (replicate (length bs) 48) bs (digit_zero b h.0) (under_zeros bs h.1)

zeros_digits : (n v : ℕ) → has_form (replicate n 48) (digits n v) ≡ true
zeros_digits n v = subst (λ (m : ℕ). has_form (replicate m 48) (digits n v) ≡ true) (length_digits n v) (under_zeros (digits n v) (digits_are n v))

-- bytes other than 0 stand for themselves
abbrev other : List ℕ → Bool
other [] = true
other (b ∷ bs) = not (eqb b 48) && other bs

self : (l : List ℕ) → has_form l l ≡ true
unfolding has_form
self [] = refl
self (t ∷ ts) = rw (eq-eqb t t refl, self ts)

byte_other : (t b : ℕ) → not (eqb t 48) ≡ true → fits_byte t b ≡ true → b ≡ t
byte_other t b o e = go (eqb b t) refl (rw (not-true (eqb t 48) o) at e)
  where
    go : (z : Bool) → eqb b t ≡ z → (z || false) ≡ true → b ≡ t
    go true p q = eqb-true b t p
    go false p q = absurd (false≢true q)

literal : (l s : List ℕ) → other l ≡ true → has_form l s ≡ true → s ≡ l
unfolding has_form
literal [] [] o e = refl
literal [] (b ∷ bs) o e = absurd (false≢true e)
literal (t ∷ ts) [] o e = absurd (false≢true e)
literal (t ∷ ts) (b ∷ bs) o e =
    let p = and_parts (not (eqb t 48)) (other ts) o in
    let h = uncons t b ts bs e in
    rw (byte_other t b p.0 h.0, literal ts bs p.1 h.1)

-- the fixed bytes of a layout hold no 0, which its template would take for a digit
abbrev pub plain : List Piece → Bool
plain [] = true
plain (fixed l ∷ ps) = other l && plain ps
plain (padded n ∷ ps) = plain ps

-- digits in a template: what their part of the text is
digits_part : (n : ℕ) (us s : List ℕ) → has_form (replicate n 48 ++ us) s ≡ true
    → (all_are_digits (take n s) ≡ true) × (length (take n s) ≡ n) × (has_form us (drop n s) ≡ true)
digits_part n us s e =
    let r = rw (length-replicate {A = ℕ} n 48) at (split (replicate n 48) us s e) in
    (zeros n (take n s) r.0, sym (form_length (replicate n 48) (take n s) r.0) ∙ length-replicate {A = ℕ} n 48, r.1)

-- writing what was read: a text in a layout's form is the text of its numbers
pub text_numbers : (ps : List Piece) (s : List ℕ) → plain ps ≡ true → has_form (template ps) s ≡ true → form_text ps (numbers ps s) ≡ s
unfolding template has_form form_text numbers
text_numbers [] [] p e = refl
text_numbers [] (b ∷ bs) p e = absurd (false≢true e)
text_numbers (fixed l ∷ ps) s p e =
    let q = and_parts (other l) (plain ps) p in
    let r = split l (template ps) s e in
    rw (text_numbers ps (drop (length l) s) q.1 r.1)
    (ap (λ (x : List ℕ). x ++ drop (length l) s) (sym (literal l (take (length l) s) q.0 r.0)) ∙ take-append-drop (length l) s)
text_numbers (padded n ∷ ps) s p e =
    let r = digits_part n (template ps) s e in
    rw (text_numbers ps (drop n s) p r.2, rw r.1 at (written_read (take n s) r.0)) (take-append-drop n s)

-- and its numbers fit
pub fits_numbers : (ps : List Piece) (s : List ℕ) → has_form (template ps) s ≡ true → numbers_fit ps (numbers ps s) ≡ true
unfolding template numbers_fit numbers
fits_numbers [] s e = refl
fits_numbers (fixed l ∷ ps) s e = fits_numbers ps (drop (length l) s) (split l (template ps) s e).1
fits_numbers (padded n ∷ ps) s e =
    let r = digits_part n (template ps) s e in
    rw (lt-ltb _ _ (rw r.1 at (value_lt (take n s) r.0)), fits_numbers ps (drop n s) r.2)

-- reading what was written: the text of numbers that fit has the layout's form
pub form_text_lem : (ps : List Piece) (vs : List ℕ) → numbers_fit ps vs ≡ true → has_form (template ps) (form_text ps vs) ≡ true
unfolding template has_form form_text numbers_fit
form_text_lem [] vs e = refl
form_text_lem (fixed l ∷ ps) vs e = join l (template ps) l (form_text ps vs) (self l) (form_text_lem ps vs e)
form_text_lem (padded n ∷ ps) [] e = absurd (false≢true e)
form_text_lem (padded n ∷ ps) (v ∷ vs) e =
    let q = and_parts (ltb v (10 ^ n)) (numbers_fit ps vs) e in
    join (replicate n 48) (template ps) (digits n v) (form_text ps vs) (zeros_digits n v) (form_text_lem ps vs q.1)

-- and those numbers
pub numbers_text : (ps : List Piece) (vs : List ℕ) → numbers_fit ps vs ≡ true → numbers ps (form_text ps vs) ≡ vs
unfolding form_text numbers_fit numbers
numbers_text [] [] e = refl
numbers_text [] (v ∷ vs) e = absurd (false≢true e)
numbers_text (fixed l ∷ ps) vs e = rw (drop_at l (form_text ps vs) (length l) refl, numbers_text ps vs e)
numbers_text (padded n ∷ ps) [] e = absurd (false≢true e)
numbers_text (padded n ∷ ps) (v ∷ vs) e =
    let q = and_parts (ltb v (10 ^ n)) (numbers_fit ps vs) e in
    rw (take_at (digits n v) (form_text ps vs) n (length_digits n v), drop_at (digits n v) (form_text ps vs) n (length_digits n v), read_written n v (ltb-true _ _ q.0), numbers_text ps vs q.1)

together : (x y a b : List ℕ) → length x ≡ length y → length a ≡ length b → length (x ++ a) ≡ length (y ++ b)
together x y a b e f = rw (length-append x a, length-append y b, e, f)

as_long : (n v : ℕ) → length (digits n v) ≡ length {A = ℕ} (replicate n 48)
as_long n v = length_digits n v ∙ sym (length-replicate {A = ℕ} n 48)

-- the text of any numbers is as long as the template
pub text_length : (ps : List Piece) (vs : List ℕ) → length (form_text ps vs) ≡ length (template ps)
unfolding form_text template
text_length [] vs = refl
text_length (fixed l ∷ ps) vs = together l l (form_text ps vs) (template ps) refl (text_length ps vs)
text_length (padded n ∷ ps) [] = together (digits n 0) (replicate n 48) (form_text ps []) (template ps) (as_long n 0) (text_length ps [])
text_length (padded n ∷ ps) (v ∷ vs) = together (digits n v) (replicate n 48) (form_text ps vs) (template ps) (as_long n v) (text_length ps vs)

-- where a template has n zeros from a place on, a text in its form has a number to be read
pub ready : (t s : List ℕ) (at n : ℕ) → has_form t s ≡ true → t ≡ take at t ++ (replicate n 48 ++ drop (at + n) t) → length (take at t) ≡ at → n ≤ 9
    → (at + n ≤ length s) × (n ≤ 9) × (all_are_digits (take n (drop at s)) ≡ true)
ready t s at n m e l k =
    let r = split (take at t) (replicate n 48 ++ drop (at + n) t) s (rw e at m) in
    let d : length t ≡ at + (n + length (drop (at + n) t)) = ap length e ∙ (length-append (take at t) (replicate n 48 ++ drop (at + n) t) ∙ rw (l, length-append (replicate n 48) (drop (at + n) t), length-replicate {A = ℕ} n 48)) in
    (omega (arith, form_length t s m, d), k, (digits_part n (drop (at + n) t) (drop at s) (rw l at r.1)).0)

-- the numbers of a text in a layout that begins at place k, by their places
abbrev pub placed : List Piece → ℕ → List ℕ → List ℕ
placed [] k s = []
placed (fixed l ∷ ps) k s = placed ps (k + length l) s
placed (padded n ∷ ps) k s = part_at s k n ∷ placed ps (k + n) s

-- `drop` at a numeral computes into its cases, where no rewriting finds it; this holds for every place, and then computes
pub placed_is : (ps : List Piece) (k : ℕ) (s : List ℕ) → numbers ps (drop k s) ≡ placed ps k s
unfolding numbers
placed_is [] k s = refl
placed_is (fixed l ∷ ps) k s = rw drop-drop (placed_is ps (k + length l) s)
placed_is (padded n ∷ ps) k s = rw drop-drop (ap (λ (vs : List ℕ). part_at s k n ∷ vs) (placed_is ps (k + n) s))
