-- Every cutting of a text gives what the whole gives, for any consumer that cannot tell a line from its short form.
use mathlib.Core.Path.{◌≡◌, refl, sym, ap, ◌∙◌}
use mathlib.Core.Bool.{Bool, true, false, cond}
use mathlib.Core.List.{List, [], ◌∷◌, ◌++◌, append_assoc, append-nil}
use Prim.Native.Nat.{ℕ, ◌+◌, ◌-◌}
use native.Mathlib.Omega.{arith}
use lib.ListN.{length, length-append}
use Rattle.lines.specs.Lines.{Line, lines, taken_by}
use Rattle.lines.proofs.Lines.{lines_none}
use Rattle.joining.specs.Whole.{ended_ones, open_one, whole, rest}
use Rattle.joining.specs.Short.{sign, short_to, short, ends_cr, cr_if, without_cr, Kept, kept, kept_text, left_out}
use Rattle.joining.specs.Portions.{Stand, Reached, fresh, concat, tells, run, holding, going_on, after, after_all, closed}
use Rattle.joining.proofs.Cutting.{First, here, on, first_of, lines_append, Clear, alone, ahead, rest_clear, sizes, ended_append, open_append}
use Rattle.joining.proofs.Short.{short_short, length_short, cr_split, without_same, without_append, rest_lines, kept_lines, kept_short, kept_again, ends_short}

-- how many bytes the short form of p leaves out
abbrev over : List ℕ → ℕ
over p = length p - length (short p)

-- those of a longer text
over_on : (p q : List ℕ) → over (p ++ q) ≡ over p + over (short p ++ q)
over_on p q =
    omega (
      arith,
      length-append p q,
      length-append (short p) q,
      length_short p,
      length_short (p ++ q),
      length_short (short p ++ q),
    )

left_on : (p : List ℕ) (b : ℕ) (q : List ℕ) → left_out (p ++ (b ∷ q)) ≡ over (p ++ without_cr (b ∷ q))
unfolding left_out
left_on p b q = ap over (without_append p b q)

left_short : (p : List ℕ) (b : ℕ) (q : List ℕ) → left_out (p ++ (b ∷ q)) ≡ over p + left_out (short p ++ (b ∷ q))
left_short p b q = left_on p b q ∙ over_on p (without_cr (b ∷ q)) ∙ ap (λ (n : ℕ). over p + n) (sym (left_on (short p) b q))

left_again : (p : List ℕ) → ends_cr p ≡ false → left_out p ≡ over p + left_out (short p)
unfolding left_out
left_again p e = rw (without_same p e, without_same (short p) (ends_short p e)) (omega (arith, length_short p, length_short (short p)))

left_kept : (s : List ℕ) → left_out s + length (kept_text (kept s)) ≡ length s
unfolding left_out kept
left_kept s =
    omega (
      arith,
      length-append (short (without_cr s)) (cr_if (ends_cr s)),
      length_short (without_cr s),
      ap length (cr_split s),
      length-append (without_cr s) (cr_if (ends_cr s)),
    )

bare_ends : (s c : List ℕ) (t : Bool) → ends_cr s ≡ t → cr_if t ++ c ≡ [] → ends_cr (without_cr s) ≡ false
bare_ends s c true e f = absurd (omega (arith, ap length f))
bare_ends s c false e f = ap ends_cr (without_same s e) ∙ e

module _ {L : Type 0} (told : L → ℕ → List ℕ → Bool → L) where
  run_append : (r : Stand L) (ls ms : List Line) → run told r (ls ++ ms) ≡ run told (run told r ls) ms
  unfolding run
  run_append r [] ms = refl
  run_append r (l ∷ ls) ms = run_append (tells told r l) ls ms

  -- the lines that ended are told, and what comes goes onto the rest
  going_append : (r : Stand L) (t c : List ℕ) → going_on told r (lines (t ++ c)) ≡ going_on told (run told r (whole t)) (lines (rest t ++ c))
  unfolding going_on
  going_append r t c =
      ap (going_on told r) (lines_append t c)
      ∙ (λ i. holding told (run told r (ended_append (lines t) (lines (rest t ++ c)) i)) (open_append (lines t) (lines (rest t ++ c)) i))
      ∙ ap (λ (s : Stand L). holding told s (rest (rest t ++ c))) (run_append r (whole t) (whole (rest t ++ c)))

  pub going_alone : (r : Stand L) (p : List ℕ) → going_on told r (alone p) ≡ holding told r p
  unfolding going_on run ended_ones open_one
  going_alone r [] = refl
  going_alone r (b ∷ p) = refl

  -- ---- offsets

  pub run_at : (r : Stand L) (ls : List Line) → (run told r ls).at + (run told r ls).over ≡ r.at + r.over + taken_by ls
  unfolding run taken_by
  run_at r [] = omega arith
  run_at r (l ∷ ls) = omega (arith, run_at (tells told r l) ls)

  -- every byte that came stands before the line to come, is left out of it, or is kept of it
  pub counts : (r : Stand L) (t : List ℕ) → let a = going_on told r (lines t) in a.stand.at + a.stand.over + length (kept_text a.held) ≡ r.at + r.over + length t
  unfolding going_on
  counts r t = omega (arith, run_at r (whole t), left_kept (rest t), sizes t)

  module _ (same : (d : L) (at : ℕ) (l : List ℕ) (e : Bool) → told d at (short l) e ≡ told d at l e) where
    pub told_on : (d : L) (at : ℕ) (p q : List ℕ) (e : Bool) → told d at (short p ++ q) e ≡ told d at (p ++ q) e
    told_on d at p q e = sym (same d at (short p ++ q) e) ∙ ap (λ (l : List ℕ). told d at l e) (short_short p q) ∙ same d at (p ++ q) e

    -- a line by what is kept of it
    pub told_kept : (d : L) (at : ℕ) (r : List ℕ) (e : Bool) → told d at (kept_text (kept r)) e ≡ told d at r e
    unfolding kept
    told_kept d at r e = told_on d at (without_cr r) (cr_if (ends_cr r)) e ∙ ap (λ (l : List ℕ). told d at l e) (cr_split r)

    abbrev more : Stand L → ℕ → Stand L
    more r n = record { desk = r.desk; at = r.at; over = r.over + n }

    tells_on : (r : Stand L) (p q : List ℕ) (e : Bool) → tells told r (record { bytes = p ++ q; ended = e }) ≡ tells told (more r (over p)) (record { bytes = short p ++ q; ended = e })
    tells_on r p q e =
        let n : r.at + r.over + (length (p ++ q) + cond e 2 0) ≡ r.at + (r.over + over p) + (length (short p ++ q) + cond e 2 0) =
        omega (arith, length-append p q, length-append (short p) q, length_short p) in
        λ i. record { desk = sym (told_on r.desk r.at p q e) i; at = n i; over = 0 }

    -- ---- the open line by its short form

    holding_more : (r : Stand L) (m n k : ℕ) (x y : Kept) → m ≡ n + k → x ≡ y
        → ◌≡◌ {A = Reached L} (record { stand = more r m; held = x }) (record { stand = more (more r n) k; held = y })
    holding_more r m n k x y e f = let g : r.over + m ≡ r.over + n + k = omega arith in λ i. record { stand = record { desk = r.desk; at = r.at; over = g i }; held = f i }

    abbrev Alike : Stand L → List ℕ → List Line → Type 0
    Alike r p ls = going_on told r (ahead p ls) ≡ going_on told (more r (over p)) (ahead (short p) ls)

    going_none : (r : Stand L) (p : List ℕ) → ends_cr p ≡ false → Alike r p []
    going_none r p e =
        going_alone r p
        ∙ holding_more r (left_out p) (over p) (left_out (short p)) (kept p) (kept (short p)) (left_again p e) (sym (kept_again p e))
        ∙ sym (going_alone (more r (over p)) (short p))

    going_some : (r : Stand L) (p : List ℕ) (c : ℕ) (ls : List Line) → First c ls → Alike r p ls
    unfolding going_on run ended_ones open_one
    going_some r p c _ (here {ls}) = ap (λ (s : Stand L). holding told (run told s (ended_ones ls)) (open_one ls)) (tells_on r p [] true)
    going_some r p c _ (on {bs} {e = true} {ls}) = ap (λ (s : Stand L). holding told (run told s (ended_ones ls)) (open_one ls)) (tells_on r p (c ∷ bs) true)
    going_some r p c _ (on {bs} {e = false} {ls}) =
        holding_more r (left_out (p ++ (c ∷ bs))) (over p) (left_out (short p ++ (c ∷ bs))) (kept (p ++ (c ∷ bs))) (kept (short p ++ (c ∷ bs))) (left_short p c bs) (sym (kept_short p c bs))

    going : (r : Stand L) (p x : List ℕ) → (x ≡ [] → ends_cr p ≡ false) → Alike r p (lines x)
    going r p [] h = rw lines_none (going_none r p (h refl))
    going r p (c ∷ s) h = going_some r p c (lines (c ∷ s)) (first_of c s)

    -- ---- a rest by what is kept of it

    rest_kept : (r : Stand L) (s c : List ℕ) → Clear s [] → going_on told r (lines (s ++ c)) ≡ going_on told (more r (left_out s)) (lines (kept_text (kept s) ++ c))
    unfolding left_out
    rest_kept r s c q =
        ap (going_on told r) (rest_lines s c q)
        ∙ going r (without_cr s) (cr_if (ends_cr s) ++ c) (bare_ends s c (ends_cr s) refl)
        ∙ ap (going_on told (more r (left_out s))) (sym (kept_lines s c q))

    -- ---- the law of cuttings

    -- a portion, and another one, are the two as one
    pub cut_again : (d : L) (at : ℕ) (t c : List ℕ) → after told (after told (fresh d at) t) c ≡ after told (fresh d at) (t ++ c)
    unfolding after going_on
    cut_again d at t c =
        let r : Stand L = (fresh d at).stand in
        sym (going_append r t c ∙ rest_kept (run told r (whole t)) (rest t) c (rest_clear t))

    all_from : (d : L) (at : ℕ) (t : List ℕ) (ps : List (List ℕ)) → after_all told (after told (fresh d at) t) ps ≡ after told (fresh d at) (t ++ concat ps)
    unfolding after_all concat
    all_from d at t [] = ap (after told (fresh d at)) (sym (append-nil t))
    all_from d at t (p ∷ ps) =
        ap (λ (a : Reached L). after_all told a ps) (cut_again d at t p)
        ∙ all_from d at (t ++ p) ps
        ∙ ap (after told (fresh d at)) (append_assoc t p (concat ps))

    none_yet : (d : L) (at : ℕ) → after told (fresh d at) [] ≡ fresh d at
    unfolding after going_on run lines ended_ones open_one kept left_out short_to sign ends_cr
    none_yet d at = refl

    -- any cutting of a text leaves what the whole leaves
    pub cut_all : (d : L) (at : ℕ) (ps : List (List ℕ)) → after_all told (fresh d at) ps ≡ after told (fresh d at) (concat ps)
    cut_all d at ps = ap (λ (a : Reached L). after_all told a ps) (sym (none_yet d at)) ∙ all_from d at [] ps

    -- ---- closing

    run_alone : (r : Stand L) (p : List ℕ) → run told r (alone p) ≡ run told (more r (over p)) (alone (short p))
    unfolding run short_to sign
    run_alone r [] = let e : r.over ≡ r.over + 0 = omega arith in λ i. record { desk = r.desk; at = r.at; over = e i }
    run_alone r (b ∷ p) =
        let tell : Stand L → List ℕ → Stand L = λ s l. tells told s (record { bytes = l; ended = false }) in
        ap (tell r) (sym (append-nil (b ∷ p))) ∙ tells_on r (b ∷ p) [] false ∙ ap (tell (more r (over (b ∷ p)))) (append-nil (short (b ∷ p)))

    run_ahead : (r : Stand L) (p : List ℕ) (ls : List Line) → run told r (ahead p ls) ≡ run told (more r (over p)) (ahead (short p) ls)
    unfolding run
    run_ahead r p [] = run_alone r p
    run_ahead r p (l ∷ ls) = ap (λ (s : Stand L). run told s ls) (tells_on r p l.bytes l.ended)

    -- closing gives what telling all lines of the whole gives
    pub closing : (d : L) (at : ℕ) (t : List ℕ) → closed told (after told (fresh d at) t) ≡ run told (fresh d at).stand (lines t)
    unfolding closed after going_on left_out
    closing d at t =
        let r : Stand L = (fresh d at).stand in
        let s : List ℕ = rest t in
        let q : Clear s [] = rest_clear t in
        sym
        (ap (λ (l : List ℕ). run told r (lines l)) (sym (append-nil t))
        ∙ ap (run told r) (lines_append t [])
        ∙ run_append r (whole t) (lines (s ++ []))
        ∙ ap (run told (run told r (whole t))) (rest_lines s [] q)
        ∙ run_ahead (run told r (whole t)) (without_cr s) (lines (cr_if (ends_cr s) ++ []))
        ∙ ap (run told (more (run told r (whole t)) (left_out s))) (sym (kept_lines s [] q))
        ∙ ap (λ (l : List ℕ). run told (more (run told r (whole t)) (left_out s)) (lines l)) (append-nil (kept_text (kept s))))
