-- A rest with what comes behind it, line by line: the line that is joined has the short form of the one that really stands there, and
-- ends where that one does.
use mathlib.Core.Path.{◌≡◌, refl, sym, ap, subst, ◌∙◌}
use mathlib.Core.Bool.{Bool, true, false, cond, ◌&&◌, and-true, false≢true}
use mathlib.Core.List.{List, [], ◌∷◌, ◌++◌, append-nil}
use Prim.Native.Nat.{ℕ, ◌+◌, ◌≤◌, min}
use native.Mathlib.Omega.{arith}
use borrow.Author.Tests.{eqb-true}
use lib.ListN.{length, take, drop, length-append, length-take}
use Rattle.laws.proofs.Truth.{by_test}
use Rattle.laws.specs.Tests.{is_byte}
use Rattle.text.specs.Strings.{begins}
use Rattle.lines.specs.declared.Found.{Found}
use Rattle.lines.specs.Lines.{Line, lines}
use Rattle.lines.specs.Reading.{first_at, line_at}
use Rattle.lines.proofs.Lines.{lines_none}
use Rattle.lines.proofs.Reading.{is_next}
use Rattle.joining.specs.Whole.{ended_ones, open_one, whole, rest}
use Rattle.joining.specs.Short.{short, ends_cr, cr_if, without_cr, Kept, kept, kept_text, added}
use Rattle.joining.specs.Held.{padded, as_held, kept_in, Join, join_by, join_of}
use Rattle.joining.proofs.Cutting.{Clear, alone, ahead, clear_lines, lines_append, rest_clear}
use Rattle.joining.proofs.Short.{short_short, length_short, cr_split, clear_bare, rest_lines}
use Rattle.joining.proofs.Behind.{open_alone, ended_alone}
use Rattle.joining.proofs.Joins.{crlf_cuts, clear_append, clear_cr, clear_on, first_line, open_all, none_found, found_clear, found_part, added_kept}

-- ---- one line

-- what is kept of a text has its short form
pub kept_like : (y : List ℕ) → short y ≡ short (kept_text (kept y))
unfolding kept
kept_like y = sym (short_short (without_cr y) (cr_if (ends_cr y)) ∙ ap short (cr_split y))

-- only of nothing is nothing kept
pub kept_nothing : (x : List ℕ) → kept x ≡ record { text = []; cr = false } → x ≡ []
unfolding kept
kept_nothing x e =
    let n : length (short (without_cr x)) ≡ 0 = ap (λ (k : Kept). length k.text) e in
    let c : length (cr_if (ends_cr x)) ≡ 0 = ap (λ (k : Kept). length (cr_if k.cr)) e in
    none x (omega (arith, length_short (without_cr x), ap length (cr_split x), length-append (without_cr x) (cr_if (ends_cr x))))
  where
    none : (l : List ℕ) → length l ≡ 0 → l ≡ []
    none [] h = refl
    none (b ∷ l) h = absurd (omega arith)

-- a text with no CR LF is one line that is not ended, or none
pub clear_alone : (v : List ℕ) → Clear v [] → lines v ≡ alone v
clear_alone v q = ap lines (sym (append-nil v)) ∙ clear_lines v [] q ∙ ap (ahead v) lines_none

-- so all lines of a text are its whole lines, and its rest
pub lines_all : (t : List ℕ) → lines t ≡ whole t ++ alone (rest t)
lines_all t =
    ap lines (sym (append-nil t))
    ∙ lines_append t []
    ∙ ap (λ (l : List ℕ). whole t ++ lines l) (append-nil (rest t))
    ∙ ap (λ (ls : List Line). whole t ++ ls) (clear_alone (rest t) (rest_clear t))

-- ---- a rest x, and s behind it

-- CR LF ends the line in s
pub record Ended (x s : List ℕ) (g : Join) : Type 0 where
  pub real : List ℕ
  pub cut : lines (x ++ s) ≡ record { bytes = real; ended = true } ∷ lines (drop g.next s)
  pub like : short real ≡ short (kept_text g.line)
  pub long : length real + 2 ≡ length x + g.next
  pub few : length g.line.text ≤ 65

real_lf : (x s : List ℕ) → Clear x [] → (t : Bool) → ends_cr x ≡ t → (t && begins s (0x0a ∷ [])) ≡ true
    → Ended x s (record { line = record { text = short (without_cr x); cr = false }; next = 1; ended = true })
unfolding begins
real_lf x s q false f e = absurd (false≢true e)
real_lf x [] q true f e = absurd (false≢true e)
real_lf x (b ∷ s) q true f e =
    let lf : b ≡ 0x0a = eqb-true b 0x0a (sym (and-true (is_byte 0x0a b)) ∙ e) in
    record {
      real = without_cr x;
      cut = rest_lines x (b ∷ s) q
          ∙ ap (λ (t : Bool). ahead (without_cr x) (lines (cr_if t ++ (b ∷ s)))) f
          ∙ ap (λ (c : ℕ). ahead (without_cr x) (lines (0x0d ∷ c ∷ s))) lf
          ∙ ap (ahead (without_cr x)) (crlf_cuts s)
          ∙ ap (λ (l : List ℕ). record { bytes = l; ended = true } ∷ lines s) (append-nil (without_cr x));
      like = sym (short_short (without_cr x) [] ∙ ap short (append-nil (without_cr x)));
      long = omega (arith, length-append (without_cr x) (cr_if (ends_cr x)), ap length (cr_split x), ap (λ (t : Bool). length (cr_if t)) f);
      few = omega (arith, length_short (without_cr x));
    }

added_short : (k : Kept) (q : List ℕ) → length (added k q).text ≤ 65
unfolding added
added_short k q = omega (arith, length_short (k.text ++ without_cr (cr_if k.cr ++ q)))

seam : (x s : List ℕ) → Clear x [] → (ends_cr x && begins s (0x0a ∷ [])) ≡ false → lines (x ++ s) ≡ ahead x (lines s)
seam x s q e =
    clear_lines x s
    (subst (λ (l : List ℕ). Clear l s) (cr_split x) (clear_append (without_cr x) (cr_if (ends_cr x)) s (clear_bare x s q) (clear_cr (ends_cr x) s e)))

real_by : (x s : List ℕ) → Clear x [] → (ends_cr x && begins s (0x0a ∷ [])) ≡ false → (line_at s 0).ended ≡ true → Ended x s (join_by (kept x) s (line_at s 0))
unfolding join_by
real_by x [] q e f = absurd (false≢true (sym none_found ∙ f))
real_by x (b ∷ s) q e f =
    let g : Found = line_at (b ∷ s) 0 in
    let l : List ℕ = take g.end (b ∷ s) in
    let all : lines (b ∷ s) ≡ record { bytes = l; ended = true } ∷ lines (drop g.next (b ∷ s)) =
    first_line (b ∷ s) (omega arith) ∙ ap (λ (t : Bool). record { bytes = l; ended = t } ∷ lines (drop g.next (b ∷ s))) f in
    let next : g.next ≡ g.end + 2 = (is_next (b ∷ s) 0 g refl (omega arith)).follows ∙ ap (λ (t : Bool). g.end + cond t 2 0) f in
    record {
      real = x ++ l;
      cut = seam x (b ∷ s) q e ∙ ap (ahead x) all;
      like = kept_like (x ++ l) ∙ ap (λ (k : Kept). short (kept_text k)) (sym (added_kept x l));
      long = omega (arith, length-append x l, found_part (b ∷ s) g refl);
      few = added_short (kept x) l;
    }

pub join_real : (x s : List ℕ) → Clear x [] → (join_of (kept x) s).ended ≡ true → Ended x s (join_of (kept x) s)
unfolding join_of join_by kept
join_real x s q = go (ends_cr x && begins s (0x0a ∷ [])) refl
  where
    go : (t : Bool) → (ends_cr x && begins s (0x0a ∷ [])) ≡ t
        → (cond t (record { line = record { text = short (without_cr x); cr = false }; next = 1; ended = true }) (join_by (kept x) s (line_at s 0))).ended ≡ true
        → Ended x s (cond t (record { line = record { text = short (without_cr x); cr = false }; next = 1; ended = true }) (join_by (kept x) s (line_at s 0)))
    go true e f = real_lf x s q (ends_cr x) refl e
    go false e f = real_by x s q e f

-- it goes on: all of s is kept with it
pub record Goes (x s : List ℕ) (g : Join) : Type 0 where
  pub none_whole : whole (x ++ s) ≡ []
  pub all_rest : rest (x ++ s) ≡ x ++ s
  pub kept_of : g.line ≡ kept (x ++ s)

goes_by : (x s : List ℕ) → Clear x [] → (ends_cr x && begins s (0x0a ∷ [])) ≡ false → (line_at s 0).ended ≡ false → Goes x s (join_by (kept x) s (line_at s 0))
unfolding join_by
goes_by x s q e f =
    let all : lines (x ++ s) ≡ alone (x ++ s) = clear_alone (x ++ s) (clear_on x s q e (subst (λ (l : List ℕ). Clear l []) (open_all s f) (found_clear s))) in
    record {
      none_whole = ap ended_ones all ∙ ended_alone (x ++ s);
      all_rest = ap open_one all ∙ open_alone (x ++ s);
      kept_of = added_kept x (take (line_at s 0).end s) ∙ ap (λ (l : List ℕ). kept (x ++ l)) (open_all s f);
    }

pub join_goes : (x s : List ℕ) → Clear x [] → (join_of (kept x) s).ended ≡ false → Goes x s (join_of (kept x) s)
unfolding join_of join_by kept
join_goes x s q = go (ends_cr x && begins s (0x0a ∷ [])) refl
  where
    go : (t : Bool) → (ends_cr x && begins s (0x0a ∷ [])) ≡ t
        → (cond t (record { line = record { text = short (without_cr x); cr = false }; next = 1; ended = true }) (join_by (kept x) s (line_at s 0))).ended ≡ false
        → Goes x s (cond t (record { line = record { text = short (without_cr x); cr = false }; next = 1; ended = true }) (join_by (kept x) s (line_at s 0)))
    go true e f = absurd (false≢true (sym f))
    go false e f = goes_by x s q e f

-- ---- as the code holds it, whatever is kept

-- a record stands for no more than it was made of
pub held_few : (k : Kept) → length (kept_text (kept_in (as_held k))) ≤ length (kept_text k)
unfolding kept_in
held_few k =
    let n : ℕ = min 65 (length k.text) in
    omega (arith, length-append (take n (padded k.text)) (cr_if k.cr), length-append k.text (cr_if k.cr), length-take n (padded k.text))

-- a line and its CR LF take no more than what was kept of it and what came
abbrev Fits : Kept → Join → Type 0
Fits k g = length (kept_text g.line) + cond g.ended 2 0 ≤ length (kept_text k) + g.next

found_follows : (ls : List Line) → (first_at 0 ls).next ≡ (first_at 0 ls).end + cond (first_at 0 ls).ended 2 0
found_follows [] = refl
found_follows (l ∷ ls) = refl

pub added_few : (k : Kept) (q : List ℕ) → length (kept_text (added k q)) ≤ length (kept_text k) + length q
unfolding added
added_few k q =
    let y : List ℕ = cr_if k.cr ++ q in
    let t : List ℕ = k.text ++ without_cr y in
    omega (
      arith,
      length-append (short t) (cr_if (ends_cr y)),
      length_short t,
      length-append k.text (without_cr y),
      ap length (cr_split y),
      length-append (without_cr y) (cr_if (ends_cr y)),
      length-append (cr_if k.cr) q,
      length-append k.text (cr_if k.cr),
    )

fits_lf : (k : Kept) (s : List ℕ) (t : Bool) → k.cr ≡ t → (t && begins s (0x0a ∷ [])) ≡ true → Fits k (record { line = record { text = k.text; cr = false }; next = 1; ended = true })
fits_lf k s false f e = absurd (false≢true e)
fits_lf k s true f e = omega (arith, length-append k.text [], length-append k.text (cr_if k.cr), ap (λ (t : Bool). length (cr_if t)) f)

fits_by : (k : Kept) (s : List ℕ) → Fits k (join_by k s (line_at s 0))
unfolding join_by
fits_by k s = omega (arith, added_few k (take (line_at s 0).end s), length-take (line_at s 0).end s, found_follows (lines (drop 0 s)))

pub join_fits : (k : Kept) (s : List ℕ) → Fits k (join_of k s)
unfolding join_of
join_fits k s = by_test (k.cr && begins s (0x0a ∷ []))
    (λ e. rw e (fits_lf k s k.cr refl e))
    (λ e. rw e (fits_by k s))
