-- A line that is kept, and what comes behind it: what the code does with a portion is what `after` says.
use mathlib.Core.Path.{◌≡◌, refl, sym, ap, subst, ◌∙◌}
use mathlib.Core.Bool.{Bool, true, false, cond, ◌&&◌, and-true, and-false, false≢true}
use mathlib.Core.List.{List, [], ◌∷◌, ◌++◌, append_assoc, append-nil}
use Prim.Native.Nat.{ℕ, zero, suc, ◌+◌, ◌-◌, ◌<◌, ◌≤◌, min}
use native.Mathlib.Omega.{arith}
use borrow.Author.Tests.{eqb-true}
use lib.Seq.{take_all}
use lib.ListN.{length, take, drop, length-append, length-take}
use Rattle.laws.specs.Tests.{is_byte}
use Rattle.laws.proofs.Truth.{and_parts, by_test}
use Rattle.text.specs.Strings.{begins}
use Rattle.lines.specs.declared.Found.{Found}
use Rattle.lines.specs.Lines.{Line, crlf, lines, taken_by}
use Rattle.lines.specs.Reading.{line_at}
use Rattle.lines.proofs.Lines.{lines_none, lines_cut}
use Rattle.lines.proofs.Reading.{is_next}
use Rattle.joining.specs.Whole.{ended_ones, open_one, whole}
use Rattle.joining.specs.Short.{sign, short_to, short, ends_cr, cr_if, without_cr, Kept, kept, kept_text, left_out, added}
use Rattle.joining.specs.declared.Text.{Text}
use Rattle.joining.specs.declared.Held.{Held}
use Rattle.joining.specs.declared.Joined.{Joined}
use Rattle.joining.specs.Held.{padded, as_text, as_held, as_joined, kept_in, ended_text, Join, join_by, join_of}
use Rattle.joining.specs.Portions.{Stand, run, holding, going_on, after}
use Rattle.joining.proofs.Cutting.{Clear, alone, ahead, clear_lines, first_bytes, first_clear, sizes}
use Rattle.joining.proofs.Short.{short_short, length_short, cr_split, without_same, kept_on, kept_same, kept_short, kept_again, clear_bare, clear_short, kept_lines}
use Rattle.joining.proofs.Behind.{whole_before, rest_behind}
use Rattle.joining.proofs.Padded.{take_padded}
use Rattle.joining.proofs.Portions.{going_alone, told_kept}

pub crlf_cuts : (s : List ℕ) → lines (0x0d ∷ 0x0a ∷ s) ≡ record { bytes = []; ended = true } ∷ lines s
unfolding crlf
crlf_cuts s = lines_cut (0x0d ∷ 0x0a ∷ s) refl

-- ---- a piece more of what is kept

added_on : (r s : List ℕ) (t : Bool) → ends_cr r ≡ t → added (record { text = short (without_cr r); cr = t }) s ≡ kept (without_cr r ++ (cr_if t ++ s))
unfolding added ends_cr
added_on r s true e =
    ap (λ (l : List ℕ). record { text = l; cr = ends_cr (0x0d ∷ s) }) (short_short (without_cr r) (without_cr (0x0d ∷ s))) ∙ sym (kept_on (without_cr r) 0x0d s)
added_on r [] false e =
    let f : ends_cr (without_cr r) ≡ false = ap ends_cr (without_same r e) ∙ e in
    ap (λ (l : List ℕ). record { text = l; cr = false }) (short_short (without_cr r) [] ∙ ap short (append-nil (without_cr r))) ∙ sym (kept_same (without_cr r) f) ∙ ap kept (sym (append-nil (without_cr r)))
added_on r (b ∷ s) false e =
    ap (λ (l : List ℕ). record { text = l; cr = ends_cr (b ∷ s) }) (short_short (without_cr r) (without_cr (b ∷ s))) ∙ sym (kept_on (without_cr r) b s)

-- adding to what is kept of a rest gives what is kept of the longer rest
pub added_kept : (r s : List ℕ) → added (kept r) s ≡ kept (r ++ s)
unfolding kept
added_kept r s =
    added_on r s (ends_cr r) refl
    ∙ ap kept (sym (append_assoc (without_cr r) (cr_if (ends_cr r)) s) ∙ ap (λ (l : List ℕ). l ++ s) (cr_split r))

-- a record that was made stands for what it was made of
pub held_same : (k : Kept) → length k.text ≤ 65 → kept_in (as_held k) ≡ k
unfolding kept_in
held_same k h =
    let m : min 65 (length k.text) ≡ length k.text = omega arith in
    ap (λ (l : List ℕ). record { text = l; cr = k.cr }) (ap (λ (n : ℕ). take n (padded k.text)) m ∙ take_padded k.text (omega arith))

pub held_again : (r : List ℕ) → kept_in (as_held (kept r)) ≡ kept r
unfolding kept
held_again r = held_same (kept r) (omega (arith, length_short (without_cr r)))

-- where nothing is kept, a piece is a rest of its own
pub added_none : (s : List ℕ) → added (record { text = []; cr = false }) s ≡ kept s
unfolding kept short_to sign ends_cr
added_none s = added_kept [] s

pub held_none : kept_in (as_held (record { text = []; cr = false })) ≡ record { text = []; cr = false }
unfolding kept short_to sign ends_cr
held_none = held_again []

short_on : (p s : List ℕ) (t : Bool) → (t ≡ false → ends_cr p ≡ false) → kept (short p ++ (cr_if t ++ s)) ≡ kept (p ++ (cr_if t ++ s))
short_on p s true h = kept_short p 0x0d s
short_on p [] false h = ap kept (append-nil (short p)) ∙ kept_again p (h refl) ∙ ap kept (sym (append-nil p))
short_on p (b ∷ s) false h = kept_short p b s

pub kept_text_lem : (r s : List ℕ) → kept (kept_text (kept r) ++ s) ≡ kept (r ++ s)
unfolding kept
kept_text_lem r s =
    ap kept (append_assoc (short (without_cr r)) (cr_if (ends_cr r)) s)
    ∙ short_on (without_cr r) s (ends_cr r) (λ e. ap ends_cr (without_same r e) ∙ e)
    ∙ ap kept (sym (append_assoc (without_cr r) (cr_if (ends_cr r)) s) ∙ ap (λ (l : List ℕ). l ++ s) (cr_split r))

-- ---- where what is kept meets what comes

pub clear_append : (p q x : List ℕ) → Clear p (q ++ x) → Clear q x → Clear (p ++ q) x
clear_append [] q x c d = d
clear_append (b ∷ p) q x c d = (ap (λ (l : List ℕ). crlf (b ∷ l)) (append_assoc p q x) ∙ c.0, clear_append p q x c.1 d)

-- no LF behind the CR that is held
pub clear_cr : (t : Bool) (s : List ℕ) → (t && begins s (0x0a ∷ [])) ≡ false → Clear (cr_if t) s
unfolding crlf begins
clear_cr false s e = tt
clear_cr true [] e = (refl, tt)
clear_cr true (b ∷ s) e = (sym (and-true (is_byte 0x0a b)) ∙ e, tt)

seam : (x s : List ℕ) → Clear x [] → (ends_cr x && begins s (0x0a ∷ [])) ≡ false → lines (kept_text (kept x) ++ s) ≡ ahead (kept_text (kept x)) (lines s)
unfolding kept
seam x s q e =
    clear_lines (short (without_cr x) ++ cr_if (ends_cr x)) s
    (clear_append (short (without_cr x)) (cr_if (ends_cr x)) s (clear_short 64 (without_cr x) (cr_if (ends_cr x) ++ s) (clear_bare x s q)) (clear_cr (ends_cr x) s e))

-- an LF behind it ends the line
by_lf : (x s : List ℕ) → Clear x [] → (t : Bool) → ends_cr x ≡ t → (t && begins s (0x0a ∷ [])) ≡ true
    → lines (kept_text (kept x) ++ s) ≡ record { bytes = short (without_cr x); ended = true } ∷ lines (drop 1 s)
unfolding begins
by_lf x s q false f e = absurd (false≢true e)
by_lf x [] q true f e = absurd (false≢true e)
by_lf x (b ∷ s) q true f e =
    let lf : b ≡ 0x0a = eqb-true b 0x0a (sym (and-true (is_byte 0x0a b)) ∙ e) in
    kept_lines x (b ∷ s) q
    ∙ ap (λ (t : Bool). ahead (short (without_cr x)) (lines (cr_if t ++ (b ∷ s)))) f
    ∙ ap (λ (c : ℕ). ahead (short (without_cr x)) (lines (0x0d ∷ c ∷ s))) lf
    ∙ ap (ahead (short (without_cr x))) (crlf_cuts s)
    ∙ ap (λ (l : List ℕ). record { bytes = l; ended = true } ∷ lines s) (append-nil (short (without_cr x)))

-- the first line of what comes, where there is one
pub first_line : (s : List ℕ) → 0 < length s → lines s ≡ record { bytes = take (line_at s 0).end s; ended = (line_at s 0).ended } ∷ lines (drop (line_at s 0).next s)
first_line s h = let e : (line_at s 0).end - 0 ≡ (line_at s 0).end = omega arith in (is_next s 0 (line_at s 0) refl h).cut ∙ ap (λ (n : ℕ). record { bytes = take n s; ended = (line_at s 0).ended } ∷ lines (drop (line_at s 0).next s)) e

-- what the reader finds lies in the text
found_fits : (s : List ℕ) → (line_at s 0).end ≤ length s
unfolding lines
found_fits [] = omega arith
found_fits (b ∷ s) = let n = is_next (b ∷ s) 0 (line_at (b ∷ s) 0) refl (omega arith) in omega (arith, n.closes, n.within)

next_fits : (s : List ℕ) → (line_at s 0).next ≤ length s
unfolding lines
next_fits [] = omega arith
next_fits (b ∷ s) = (is_next (b ∷ s) 0 (line_at (b ∷ s) 0) refl (omega arith)).within

lf_fits : (t : Bool) (s : List ℕ) → (t && begins s (0x0a ∷ [])) ≡ true → 1 ≤ length s
unfolding begins
lf_fits t [] e = absurd (false≢true (sym (and-false t) ∙ e))
lf_fits t (b ∷ s) e = omega arith

-- a text goes on within itself
pub join_within : (k : Kept) (s : List ℕ) → (join_of k s).next ≤ length s
unfolding join_of join_by
join_within k s = by_test (k.cr && begins s (0x0a ∷ []))
    (λ e. rw e (lf_fits k.cr s e))
    (λ e. rw e (next_fits s))

-- ---- as the code has it

pub found_part : (s : List ℕ) (f : Found) → f ≡ line_at s 0 → f.end ≡ length (take f.end s)
found_part s f e = let n : f.end ≤ length s = subst (λ (g : Found). g.end ≤ length s) (sym e) (found_fits s) in omega (arith, length-take f.end s)

module _ (h : Held) (s : List ℕ) (b : Bool) (is_b : b ≡ begins s (0x0a ∷ [])) where
  tested : (t : Bool) → (h.cr && b) ≡ t → (h.cr && begins s (0x0a ∷ [])) ≡ t
  tested t e = ap (λ (u : Bool). h.cr && u) (sym is_b) ∙ e

  pub joined_lf : (t : Text) → (h.cr && b) ≡ true → t ≡ as_text ((kept_in h).text ++ cr_if false)
      → ◌≡◌ {A = Joined} (record { held = record { text = t.text; len = t.len; cr = false }; next = 1; ended = true }) (as_joined (join_of (kept_in h) s))
  unfolding join_of kept_in
  joined_lf t e f =
      ap (λ (u : Text). record { held = record { text = u.text; len = u.len; cr = false }; next = 1; ended = true }) (f ∙ ap as_text (append-nil (kept_in h).text))
      ∙ ap (λ (u : Bool). as_joined (cond u (record { line = record { text = (kept_in h).text; cr = false }; next = 1; ended = true }) (join_by (kept_in h) s (line_at s 0)))) (sym (tested true e))

  pub joined_by : (f : Found) (held : Held) → (h.cr && b) ≡ false → f ≡ line_at s 0 → held ≡ as_held (added (kept_in h) (take f.end s))
      → ◌≡◌ {A = Joined} (record { held = held; next = f.next; ended = f.ended }) (as_joined (join_of (kept_in h) s))
  unfolding join_of join_by kept_in
  joined_by f held e i k =
      ap (λ (u : Held). record { held = u; next = f.next; ended = f.ended }) k
      ∙ ap (λ (g : Found). as_joined (join_by (kept_in h) s g)) i
      ∙ ap (λ (u : Bool). as_joined (cond u (record { line = record { text = (kept_in h).text; cr = false }; next = 1; ended = true }) (join_by (kept_in h) s (line_at s 0)))) (sym (tested false e))

-- ---- what it means

-- an open line is the last
pub open_all : (s : List ℕ) → (line_at s 0).ended ≡ false → take (line_at s 0).end s ≡ s
unfolding ended_ones open_one taken_by lines
open_all [] e = refl
open_all (b ∷ s) e =
    let l : List ℕ = take (line_at (b ∷ s) 0).end (b ∷ s) in
    let all : lines (b ∷ s) ≡ record { bytes = l; ended = false } ∷ lines (drop (line_at (b ∷ s) 0).next (b ∷ s)) =
    first_line (b ∷ s) (omega arith) ∙ ap (λ (t : Bool). record { bytes = l; ended = t } ∷ lines (drop (line_at (b ∷ s) 0).next (b ∷ s))) e in
    let n : 0 + length l ≡ suc (length s) = ap (λ (ls : List Line). taken_by (ended_ones ls) + length (open_one ls)) (sym all) ∙ sizes (b ∷ s) in
    take_all (line_at (b ∷ s) 0).end (b ∷ s) (omega (arith, length-take (line_at (b ∷ s) 0).end (b ∷ s)))

pub none_found : (line_at [] 0).ended ≡ false
unfolding lines
none_found = refl

-- what was found has no CR LF in it
pub found_clear : (s : List ℕ) → Clear (take (line_at s 0).end s) []
unfolding lines
found_clear [] = tt
found_clear (b ∷ s) = subst (λ (ls : List Line). Clear (first_bytes ls) []) (first_line (b ∷ s) (omega arith)) (first_clear (b ∷ s))

begins_take : (t : Bool) (n : ℕ) (s : List ℕ) → (t && begins s (0x0a ∷ [])) ≡ false → (t && begins (take n s) (0x0a ∷ [])) ≡ false
unfolding begins
begins_take t zero s e = and-false t
begins_take t (suc n) [] e = and-false t
begins_take t (suc n) (b ∷ s) e = e

-- nor has a rest that goes on with it
pub clear_on : (x q : List ℕ) → Clear x [] → (ends_cr x && begins q (0x0a ∷ [])) ≡ false → Clear q [] → Clear (x ++ q) []
clear_on x q c e d =
    let here : Clear (without_cr x ++ cr_if (ends_cr x)) q = clear_append (without_cr x) (cr_if (ends_cr x)) q (clear_bare x q c) (clear_cr (ends_cr x) q e) in
    clear_append x q [] (subst (λ (l : List ℕ). Clear x l) (sym (append-nil q)) (subst (λ (l : List ℕ). Clear l q) (cr_split x) here)) d

no_byte : (t : Bool) → (t && begins [] (0x0a ∷ [])) ≡ false
unfolding begins
no_byte t = and-false t

no_lf : (t : Bool) → (t && begins (0x0d ∷ 0x0a ∷ []) (0x0a ∷ [])) ≡ false
unfolding begins
no_lf t = and-false t

-- a held CR before the LF that ended it goes out of what is kept
lf_one : (x : List ℕ) → Clear x [] → (t : Bool) → ends_cr x ≡ t → t ≡ true
    → lines (ended_text (record { text = short (without_cr x); cr = false })) ≡ record { bytes = short (without_cr x) ++ []; ended = true } ∷ []
lf_one x q false f e = absurd (false≢true e)
lf_one x q true f e =
    let p : List ℕ = short (without_cr x) in
    ap lines (append_assoc p [] (0x0d ∷ 0x0a ∷ []))
    ∙ clear_lines p (0x0d ∷ 0x0a ∷ []) (clear_short 64 (without_cr x) (0x0d ∷ 0x0a ∷ []) (subst (λ (t : Bool). Clear (without_cr x) (cr_if t ++ (0x0a ∷ []))) f (clear_bare x (0x0a ∷ []) q)))
    ∙ ap (ahead p) (crlf_cuts [] ∙ ap (λ (ls : List Line). record { bytes = []; ended = true } ∷ ls) lines_none)

-- with CR LF behind it, what is kept of a rest is one line
pub ended_one : (x : List ℕ) → Clear x [] → lines (ended_text (kept x)) ≡ record { bytes = kept_text (kept x); ended = true } ∷ []
ended_one x q = seam x (0x0d ∷ 0x0a ∷ []) q (no_lf (ends_cr x)) ∙ ap (ahead (kept_text (kept x))) (crlf_cuts [] ∙ ap (λ (ls : List Line). record { bytes = []; ended = true } ∷ ls) lines_none) ∙ ap (λ (l : List ℕ). record { bytes = l; ended = true } ∷ []) (append-nil (kept_text (kept x)))

-- and so is the line that is joined, where CR LF ended it
pub join_one : (x s : List ℕ) → Clear x [] → (join_of (kept x) s).ended ≡ true → lines (ended_text (join_of (kept x) s).line) ≡ record { bytes = kept_text (join_of (kept x) s).line; ended = true } ∷ []
unfolding join_of join_by kept
join_one x s q f = by_test (ends_cr x && begins s (0x0a ∷ []))
    (λ e. rw e (lf_one x q (ends_cr x) refl (and_parts (ends_cr x) (begins s (0x0a ∷ [])) e).0))
    (λ e. rw e (
    let q' : Clear (x ++ take (line_at s 0).end s) [] = clear_on x (take (line_at s 0).end s) q (begins_take (ends_cr x) (line_at s 0).end s e) (found_clear s) in
    subst (λ (k : Kept). lines (ended_text k) ≡ record { bytes = kept_text k; ended = true } ∷ []) (sym (added_kept x (take (line_at s 0).end s))) (ended_one (x ++ take (line_at s 0).end s) q')))

-- with none, what is kept of a rest is one line, or none
pub closed_one : (x : List ℕ) → Clear x [] → lines (kept_text (kept x)) ≡ alone (kept_text (kept x))
closed_one x q =
    ap lines (sym (append-nil (kept_text (kept x)))) ∙ seam x [] q (no_byte (ends_cr x)) ∙ ap (ahead (kept_text (kept x))) lines_none

-- what comes behind the line that was joined: its whole lines are told where they stand, and its rest is kept
pub going_cut : {L : Type 0} (told : L → ℕ → List ℕ → Bool → L) (r : Stand L) (c : List ℕ)
    → going_on told r (lines c) ≡ holding told (run told r (lines (take (taken_by (whole c)) c))) (drop (taken_by (whole c)) c)
unfolding going_on
going_cut told r c = sym (λ i. holding told (run told r (whole_before c i)) (rest_behind c i))

module _ {L : Type 0} (told : L → ℕ → List ℕ → Bool → L) (same : (d : L) (at : ℕ) (l : List ℕ) (e : Bool) → told d at (short l) e ≡ told d at l e) where
  -- the line by what is kept of it and what goes on with it
  told_join : (d : L) (at : ℕ) (x q : List ℕ) (e : Bool) → told d at (kept_text (added (kept x) q)) e ≡ told d at (kept_text (kept x) ++ q) e
  told_join d at x q e =
      ap (λ (k : Kept). told d at (kept_text k) e) (added_kept x q ∙ sym (kept_text_lem x q)) ∙ told_kept told same d at (kept_text (kept x) ++ q) e

  -- CR LF ended it: it is told by what is kept of it, and what stands behind it comes next
  abbrev Told : Stand L → List ℕ → List ℕ → Join → Type 0
  Told r x s g =
      after told (record { stand = r; held = kept x }) s
      ≡ going_on told (record { desk = told r.desk r.at (kept_text g.line) true; at = r.at + r.over + length (kept_text (kept x)) + g.next; over = 0 }) (lines (drop g.next s))

  ended_lf : (r : Stand L) (x s : List ℕ) → Clear x [] → (t : Bool) → ends_cr x ≡ t → (t && begins s (0x0a ∷ [])) ≡ true
      → Told r x s (record { line = record { text = short (without_cr x); cr = false }; next = 1; ended = true })
  unfolding after going_on run ended_ones open_one kept
  ended_lf r x s q false f e = absurd (false≢true e)
  ended_lf r x s q true f e =
      let p : List ℕ = short (without_cr x) in
      let n : r.at + r.over + (length p + 2) ≡ r.at + r.over + length (kept_text (kept x)) + 1 =
      omega (arith, length-append p (cr_if (ends_cr x)), ap (λ (t : Bool). length (cr_if t)) f) in
      ap (going_on told r) (by_lf x s q true f e)
      ∙ (λ i. going_on told (record { desk = told r.desk r.at (sym (append-nil p) i) true; at = n i; over = 0 }) (lines (drop 1 s)))

  ended_by : (r : Stand L) (x s : List ℕ) → Clear x [] → (ends_cr x && begins s (0x0a ∷ [])) ≡ false → (line_at s 0).ended ≡ true → Told r x s (join_by (kept x) s (line_at s 0))
  unfolding after going_on run ended_ones open_one join_by
  ended_by r x [] q e f = absurd (false≢true (sym none_found ∙ f))
  ended_by r x (b ∷ s) q e f =
      let g : Found = line_at (b ∷ s) 0 in
      let l : List ℕ = take g.end (b ∷ s) in
      let k : List ℕ = kept_text (kept x) in
      let all : lines (b ∷ s) ≡ record { bytes = l; ended = true } ∷ lines (drop g.next (b ∷ s)) =
      first_line (b ∷ s) (omega arith) ∙ ap (λ (t : Bool). record { bytes = l; ended = t } ∷ lines (drop g.next (b ∷ s))) f in
      let next : g.next ≡ g.end + 2 = (is_next (b ∷ s) 0 g refl (omega arith)).follows ∙ ap (λ (t : Bool). g.end + cond t 2 0) f in
      let n : r.at + r.over + (length (k ++ l) + 2) ≡ r.at + r.over + length k + g.next =
      omega (arith, length-append k l, found_part (b ∷ s) g refl) in
      ap (going_on told r) (seam x (b ∷ s) q e ∙ ap (ahead k) all)
      ∙ sym (λ i. going_on told (record { desk = told_join r.desk r.at x l true i; at = sym n i; over = 0 }) (lines (drop g.next (b ∷ s))))

  pub join_ended : (r : Stand L) (x s : List ℕ) → Clear x [] → (join_of (kept x) s).ended ≡ true → Told r x s (join_of (kept x) s)
  unfolding join_of join_by kept
  join_ended r x s q = go (ends_cr x && begins s (0x0a ∷ [])) refl
    where
      go : (t : Bool) → (ends_cr x && begins s (0x0a ∷ [])) ≡ t
          → (cond t (record { line = record { text = short (without_cr x); cr = false }; next = 1; ended = true }) (join_by (kept x) s (line_at s 0))).ended ≡ true
          → Told r x s (cond t (record { line = record { text = short (without_cr x); cr = false }; next = 1; ended = true }) (join_by (kept x) s (line_at s 0)))
      go true e f = ended_lf r x s q (ends_cr x) refl e
      go false e f = ended_by r x s q e f

  open_goes : (r : Stand L) (k s : List ℕ) → (line_at s 0).ended ≡ false → going_on told r (ahead k (lines s)) ≡ holding told r (k ++ s)
  unfolding going_on run ended_ones open_one
  open_goes r k [] e = ap (λ (ls : List Line). going_on told r (ahead k ls)) lines_none ∙ going_alone told r k ∙ ap (holding told r) (sym (append-nil k))
  open_goes r k (b ∷ s) e =
      let l : List ℕ = take (line_at (b ∷ s) 0).end (b ∷ s) in
      ap (λ (ls : List Line). going_on told r (ahead k ls)) (first_line (b ∷ s) (omega arith))
      ∙ ap (λ (t : Bool). going_on told r (record { bytes = k ++ l; ended = t } ∷ lines (drop (line_at (b ∷ s) 0).next (b ∷ s)))) e
      ∙ ap (λ (m : List ℕ). holding told r (k ++ m)) (open_all (b ∷ s) e)

  -- it goes on
  abbrev Open : Stand L → List ℕ → List ℕ → Join → Type 0
  Open r x s g =
      after told (record { stand = r; held = kept x }) s
      ≡ record { stand = record { desk = r.desk; at = r.at; over = r.over + left_out (kept_text (kept x) ++ s) }; held = g.line }

  open_by : (r : Stand L) (x s : List ℕ) → Clear x [] → (ends_cr x && begins s (0x0a ∷ [])) ≡ false → (line_at s 0).ended ≡ false → Open r x s (join_by (kept x) s (line_at s 0))
  unfolding after join_by
  open_by r x s q e f =
      ap (going_on told r) (seam x s q e)
      ∙ open_goes r (kept_text (kept x)) s f
      ∙ ap (λ (k : Kept). record { stand = record { desk = r.desk; at = r.at; over = r.over + left_out (kept_text (kept x) ++ s) }; held = k })
      (kept_text_lem x s ∙ sym (added_kept x s) ∙ ap (added (kept x)) (sym (open_all s f)))

  pub join_open : (r : Stand L) (x s : List ℕ) → Clear x [] → (join_of (kept x) s).ended ≡ false → Open r x s (join_of (kept x) s)
  unfolding join_of join_by kept
  join_open r x s q = go (ends_cr x && begins s (0x0a ∷ [])) refl
    where
      go : (t : Bool) → (ends_cr x && begins s (0x0a ∷ [])) ≡ t
          → (cond t (record { line = record { text = short (without_cr x); cr = false }; next = 1; ended = true }) (join_by (kept x) s (line_at s 0))).ended ≡ false
          → Open r x s (cond t (record { line = record { text = short (without_cr x); cr = false }; next = 1; ended = true }) (join_by (kept x) s (line_at s 0)))
      go true e f = absurd (false≢true (sym f))
      go false e f = open_by r x s q e f
