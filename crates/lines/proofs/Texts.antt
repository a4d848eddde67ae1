-- Bytes are the text of their lines; and texts with no CR and no 1A, each with its CR LF, have just those lines.
use Prim.Native.Nat.{ℕ}
use mathlib.Core.Path.{◌≡◌, refl, sym, ap, ◌∙◌}
use mathlib.Core.Bool.{Bool, true, false, cond, ◌&&◌, false≢true}
use mathlib.Core.List.{List, [], ◌∷◌, ◌++◌, append_assoc}
use borrow.Author.Tests.{eqb-true}
use Rattle.laws.specs.Lists.{any_of}
use Rattle.laws.specs.Tests.{is_byte}
use Rattle.laws.proofs.Truth.{both_left, both_right}
use Rattle.laws.proofs.Any.{or_left, or_right, any_append}
use Rattle.lines.specs.Lines.{body, Line, crlf, onto, lines}
use Rattle.lines.specs.Texts.{lines_text, ended_lines, file_of}
use Rattle.lines.proofs.Lines.{lines_none, lines_cut, lines_on, crlf_not}

onto_text : (b : ℕ) (ls : List Line) → lines_text (onto b ls) ≡ b ∷ lines_text ls
unfolding onto lines_text
onto_text b [] = refl
onto_text b (l ∷ ls) = refl

pub text_lines : (s : List ℕ) → lines_text (lines s) ≡ s
unfolding lines lines_text onto
text_lines [] = refl
text_lines (b ∷ []) = refl
text_lines (b ∷ c ∷ s) = go (crlf (b ∷ c ∷ s)) refl (text_lines s) (text_lines (c ∷ s))
  where
    go : (t : Bool) → crlf (b ∷ c ∷ s) ≡ t → lines_text (lines s) ≡ s → lines_text (lines (c ∷ s)) ≡ c ∷ s
        → lines_text (cond t (record { bytes = []; ended = true } ∷ lines s) (onto b (lines (c ∷ s)))) ≡ b ∷ c ∷ s
    go true e p q =
        let w : (is_byte 0x0d b && is_byte 0x0a c) ≡ true = unfold crlf in e in
        let v = eqb-true b 0x0d (both_left (is_byte 0x0d b) (is_byte 0x0a c) w) in
        let u = eqb-true c 0x0a (both_right (is_byte 0x0d b) (is_byte 0x0a c) w) in
        (λ i. sym v i ∷ sym u i ∷ p i)
    go false e p q = onto_text b (lines (c ∷ s)) ∙ ap (λ (l : List ℕ). b ∷ l) q

-- one text with its CR LF, before others
pub line_first : (t s : List ℕ) → any_of (is_byte 0x0d) t ≡ false → lines (t ++ (0x0d ∷ 0x0a ∷ s)) ≡ record { bytes = t; ended = true } ∷ lines s
unfolding any_of onto
line_first [] s e = lines_cut (0x0d ∷ 0x0a ∷ s) (unfold crlf in refl)
line_first (b ∷ t) s e =
    lines_on b (t ++ (0x0d ∷ 0x0a ∷ s)) (crlf_not b (t ++ (0x0d ∷ 0x0a ∷ s)) (or_left (is_byte 0x0d b) (any_of (is_byte 0x0d) t) e))
    ∙ ap (onto b) (line_first t s (or_right (is_byte 0x0d b) (any_of (is_byte 0x0d) t) e))

-- no byte of some texts passes a test
unfoldable pub free : (ℕ → Bool) → List (List ℕ) → Bool
free f [] = true
free f (t ∷ ts) = cond (any_of f t) false (free f ts)

free_both : (a b : Bool) → cond a false b ≡ true → (a ≡ false) × (b ≡ true)
free_both true b e = absurd (false≢true e)
free_both false b e = (refl, e)

pub lines_text_lem : (ts : List (List ℕ)) → free (is_byte 0x0d) ts ≡ true → lines (lines_text (ended_lines ts)) ≡ ended_lines ts
unfolding lines_text ended_lines free
lines_text_lem [] e = lines_none
lines_text_lem (t ∷ ts) e =
    let v = free_both (any_of (is_byte 0x0d) t) (free (is_byte 0x0d) ts) e in
    ap lines (append_assoc t (0x0d ∷ 0x0a ∷ []) (lines_text (ended_lines ts))) ∙ line_first t (lines_text (ended_lines ts)) v.0 ∙ ap (λ (ls : List Line). record { bytes = t; ended = true } ∷ ls) (lines_text_lem ts v.1)

-- the mark is not among the lines
no_mark : (ts : List (List ℕ)) → free (is_byte 0x1a) ts ≡ true → any_of (is_byte 0x1a) (lines_text (ended_lines ts)) ≡ false
unfolding lines_text ended_lines free any_of
no_mark [] e = refl
no_mark (t ∷ ts) e =
    let v = free_both (any_of (is_byte 0x1a) t) (free (is_byte 0x1a) ts) e in
    any_append (is_byte 0x1a) (t ++ (0x0d ∷ 0x0a ∷ [])) (lines_text (ended_lines ts)) ∙ rw (any_append (is_byte 0x1a) t (0x0d ∷ 0x0a ∷ []), v.0) (no_mark ts v.1)

body_before : (s : List ℕ) → any_of (is_byte 0x1a) s ≡ false → body (s ++ (0x1a ∷ [])) ≡ s
unfolding body any_of
body_before [] e = refl
body_before (b ∷ s) e =
    let here : is_byte 0x1a b ≡ false = or_left (is_byte 0x1a b) (any_of (is_byte 0x1a) s) e in
    rw here (ap (λ (l : List ℕ). b ∷ l) (body_before s (or_right (is_byte 0x1a b) (any_of (is_byte 0x1a) s) e)))

pub file_body : (ts : List (List ℕ)) → free (is_byte 0x1a) ts ≡ true → body (file_of ts) ≡ lines_text (ended_lines ts)
unfolding file_of
file_body ts e = body_before (lines_text (ended_lines ts)) (no_mark ts e)

-- the lines of a file that was written
pub file_lines : (ts : List (List ℕ)) → free (is_byte 0x0d) ts ≡ true → free (is_byte 0x1a) ts ≡ true → lines (body (file_of ts)) ≡ ended_lines ts
file_lines ts c m = ap lines (file_body ts m) ∙ lines_text_lem ts c
