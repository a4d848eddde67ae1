-- The search for the last CR LF of a text, from the back.
use mathlib.Core.Path.{◌≡◌, refl, sym, ap, subst, ◌∙◌}
use mathlib.Core.Bool.{Bool, true, false, ◌&&◌}
use mathlib.Core.List.{List, [], ◌∷◌, ◌++◌, append_assoc, append-nil}
use Prim.Native.Nat.{ℕ, zero, suc, ◌+◌, ◌-◌, ◌<◌, ◌≤◌}
use native.Mathlib.Omega.{arith}
use lib.ListN.{length, take, drop, get_or, length-drop, take-append-drop}
use lib.Seq.{drop-cons, take-suc}
use borrow.Author.Tests.{eqb-true}
use Rattle.laws.specs.Tests.{is_byte}
use Rattle.laws.proofs.Truth.{and_parts}
use Rattle.lines.specs.Lines.{Line, crlf, onto, lines, taken_by}
use Rattle.lines.proofs.Lines.{lines_none, crlf_short}
use Rattle.lines.proofs.Reading.{crlf_in}
use Rattle.joining.specs.Whole.{ended_ones, open_one, whole, rest}
use Rattle.joining.specs.Short.{ends_cr, cr_if, without_cr}
use Rattle.joining.proofs.Cutting.{Clear, alone, ahead, clear_lines, lines_append, rest_clear, sizes, whole_append, rest_append}
use Rattle.joining.proofs.Short.{rest_lines}

-- a text with no CR LF is all rest
pub open_alone : (p : List ℕ) → open_one (alone p) ≡ p
unfolding open_one
open_alone [] = refl
open_alone (b ∷ p) = refl

pub ended_alone : (p : List ℕ) → ended_ones (alone p) ≡ []
unfolding ended_ones
ended_alone [] = refl
ended_alone (b ∷ p) = refl

clear_rest : (v : List ℕ) → Clear v [] → rest v ≡ v
clear_rest v q =
    ap (λ (l : List ℕ). rest l) (sym (append-nil v)) ∙ ap open_one (clear_lines v [] q) ∙ ap (λ (ls : List Line). open_one (ahead v ls)) lines_none ∙ open_alone v

-- behind CR LF nothing is open
cut_open : (t : Bool) (p : List ℕ) → open_one (ahead p (lines (cr_if t ++ (0x0d ∷ 0x0a ∷ [])))) ≡ []
unfolding open_one lines crlf onto
cut_open true p = refl
cut_open false p = refl

cut_rest : (u : List ℕ) → rest (u ++ (0x0d ∷ 0x0a ∷ [])) ≡ []
cut_rest u = rest_append u (0x0d ∷ 0x0a ∷ []) ∙ ap open_one (rest_lines (rest u) (0x0d ∷ 0x0a ∷ []) (rest_clear u)) ∙ cut_open (ends_cr (rest u)) (without_cr (rest u))

-- a place at which whole lines end, and behind which there is no CR LF
pub record Ends (s : List ℕ) (end : ℕ) : Type 0 where
  pub within : end ≤ length s
  pub front : rest (take end s) ≡ []
  pub behind : Clear (drop end s) []

module _ (s : List ℕ) (end : ℕ) (E : Ends s end) where
  parts : take end s ++ drop end s ≡ s
  parts = take-append-drop end s

  clear_whole : whole (drop end s) ≡ []
  clear_whole = ap (λ (l : List ℕ). whole l) (sym (append-nil (drop end s))) ∙ ap ended_ones (clear_lines (drop end s) [] E.behind) ∙ ap (λ (ls : List Line). ended_ones (ahead (drop end s) ls)) lines_none ∙ ended_alone (drop end s)

  -- the rest stands behind it
  pub ends_rest : drop end s ≡ rest s
  ends_rest =
      sym (clear_rest (drop end s) E.behind) ∙ ap (λ (l : List ℕ). rest (l ++ drop end s)) (sym E.front) ∙ sym (rest_append (take end s) (drop end s)) ∙ ap (λ (l : List ℕ). rest l) parts

  -- the whole lines stand before it
  pub ends_whole : lines (take end s) ≡ whole s
  ends_whole =
      let w : whole s ≡ whole (take end s) =
      ap (λ (l : List ℕ). whole l) (sym parts)
      ∙ whole_append (take end s) (drop end s)
      ∙ ap (λ (l : List ℕ). whole (take end s) ++ whole (l ++ drop end s)) E.front
      ∙ ap (λ (ls : List Line). whole (take end s) ++ ls) clear_whole
      ∙ append-nil (whole (take end s)) in
      ap lines (sym (append-nil (take end s)))
      ∙ lines_append (take end s) []
      ∙ ap (λ (l : List ℕ). whole (take end s) ++ lines (l ++ [])) E.front
      ∙ ap (λ (ls : List Line). whole (take end s) ++ ls) lines_none
      ∙ append-nil (whole (take end s))
      ∙ sym w

  pub ends_size : end ≡ taken_by (whole s)
  ends_size = omega (arith, sizes s, ap length ends_rest, length-drop end s, E.within)

-- ---- the search: no CR LF begins at or behind the byte before `end`

pub record Sought (s : List ℕ) (end : ℕ) : Type 0 where
  pub fits : end ≤ length s
  pub clear : Clear (drop (end - 1) s) []

few : (l : List ℕ) → length l ≤ 1 → Clear l []
few [] h = tt
few (b ∷ []) h = (crlf_short (b ∷ []) (omega arith), tt)
few (b ∷ c ∷ l) h = absurd (omega arith)

pub seek_start : (s : List ℕ) → Sought s (length s)
seek_start s = record { fits = omega arith; clear = few (drop (length s - 1) s) (omega (arith, length-drop (length s - 1) s)) }

clear_cons : (b : ℕ) (l : List ℕ) → crlf (b ∷ l) ≡ false → Clear l [] → Clear (b ∷ l) []
clear_cons b l e q = (rw append-nil e, q)

-- the two bytes before `end` are not CR LF
pub seek_more : (s : List ℕ) (end : ℕ) → Sought s end → 1 < end → (is_byte 0x0d (get_or s (end - 1 - 1) 0) && is_byte 0x0a (get_or s (end - 1) 0)) ≡ false → Sought s (end - 1)
seek_more s end S h e =
    let j : ℕ = end - 1 - 1 in
    let next : suc j ≡ end - 1 = omega arith in
    let two : end - 1 - 1 ≡ j = omega arith in
    let cons : drop j s ≡ get_or s j 0 ∷ drop (end - 1) s = drop-cons s j 0 (omega (arith, S.fits)) ∙ ap (λ (k : ℕ). get_or s j 0 ∷ drop k s) next in
    let one : j + 1 ≡ end - 1 = omega arith in
    let e' : crlf (drop j s) ≡ false =
    crlf_in s j (omega (arith, S.fits)) ∙ ap (λ (k : ℕ). is_byte 0x0d (get_or s j 0) && is_byte 0x0a (get_or s k 0)) one
    ∙ ap (λ (k : ℕ). is_byte 0x0d (get_or s k 0) && is_byte 0x0a (get_or s (end - 1) 0)) (sym two) ∙ e in
    record {
      fits = omega (arith, S.fits);
      clear = subst (λ (l : List ℕ). Clear l []) (sym cons) (clear_cons (get_or s j 0) (drop (end - 1) s) (ap crlf (sym cons) ∙ e') S.clear);
    }

-- they are
hit : (s : List ℕ) (j : ℕ) → suc j < length s → get_or s j 0 ≡ 0x0d → get_or s (suc j) 0 ≡ 0x0a → Clear (drop (suc j) s) [] → Ends s (suc (suc j))
hit s j h e f q =
    let front : take (suc (suc j)) s ≡ take j s ++ (0x0d ∷ 0x0a ∷ []) =
    take-suc s (suc j) 0 h
    ∙ ap (λ (l : List ℕ). l ++ (get_or s (suc j) 0 ∷ [])) (take-suc s j 0 (omega arith))
    ∙ append_assoc (take j s) (get_or s j 0 ∷ []) (get_or s (suc j) 0 ∷ [])
    ∙ (λ i. take j s ++ (e i ∷ f i ∷ [])) in
    record {
      within = omega arith;
      front = ap (λ (l : List ℕ). rest l) front ∙ cut_rest (take j s);
      behind = (subst (λ (l : List ℕ). Clear l []) (drop-cons s (suc j) 0 h) q).1;
    }

hit_at : (s : List ℕ) (end : ℕ) → Sought s end → 1 < end → (is_byte 0x0d (get_or s (end - 1 - 1) 0) && is_byte 0x0a (get_or s (end - 1) 0)) ≡ true → Ends s end
hit_at s end S h e =
    let j : ℕ = end - 1 - 1 in
    let next : end - 1 ≡ suc j = omega arith in
    let both : suc (suc j) ≡ end = omega arith in
    let p = and_parts (is_byte 0x0d (get_or s j 0)) (is_byte 0x0a (get_or s (end - 1) 0)) e in
    subst (Ends s) both
    (hit s j (omega (arith, S.fits)) (eqb-true (get_or s j 0) 0x0d p.0) (ap (λ (k : ℕ). get_or s k 0) (sym next) ∙ eqb-true (get_or s (end - 1) 0) 0x0a p.1)
    (subst (λ (k : ℕ). Clear (drop k s) []) next S.clear))

pub seek_hit : (s : List ℕ) (end : ℕ) → Sought s end → 1 < end → (is_byte 0x0d (get_or s (end - 1 - 1) 0) && is_byte 0x0a (get_or s (end - 1) 0)) ≡ true → end ≡ taken_by (whole s)
seek_hit s end S h e = ends_size s end (hit_at s end S h e)

-- nothing is left to look at
none_at : (s : List ℕ) (end : ℕ) → Sought s end → end ≤ 1 → Ends s 0
unfolding lines open_one
none_at s end S h = let z : end - 1 ≡ 0 = omega arith in record { within = omega arith; front = refl; behind = subst (λ (k : ℕ). Clear (drop k s) []) z S.clear }

pub seek_end : (s : List ℕ) (end : ℕ) → Sought s end → end ≤ 1 → 0 ≡ taken_by (whole s)
seek_end s end S h = ends_size s 0 (none_at s end S h)

-- ---- what the place that is found means

find : (s : List ℕ) (n end : ℕ) → end ≡ n → Sought s end → Ends s (taken_by (whole s))
find s zero end e S = subst (Ends s) (seek_end s end S (omega arith)) (none_at s end S (omega arith))
find s (suc zero) end e S = subst (Ends s) (seek_end s end S (omega arith)) (none_at s end S (omega arith))
find s (suc (suc n)) end e S = go (is_byte 0x0d (get_or s (end - 1 - 1) 0) && is_byte 0x0a (get_or s (end - 1) 0)) refl (λ k f. find s (suc n) k f)
  where
    go : (t : Bool) → (is_byte 0x0d (get_or s (end - 1 - 1) 0) && is_byte 0x0a (get_or s (end - 1) 0)) ≡ t → ((k : ℕ) → k ≡ suc n → Sought s k → Ends s (taken_by (whole s))) → Ends s (taken_by (whole s))
    go true f rec = subst (Ends s) (seek_hit s end S (omega arith) f) (hit_at s end S (omega arith) f)
    go false f rec = rec (end - 1) (omega arith) (seek_more s end S (omega arith) f)

ends : (s : List ℕ) → Ends s (taken_by (whole s))
ends s = find s (length s) (length s) refl (seek_start s)

-- the whole lines of a text are the lines of that many bytes, and the rest stands behind them
pub whole_before : (s : List ℕ) → lines (take (taken_by (whole s)) s) ≡ whole s
whole_before s = ends_whole s (taken_by (whole s)) (ends s)

pub rest_behind : (s : List ℕ) → drop (taken_by (whole s)) s ≡ rest s
rest_behind s = ends_rest s (taken_by (whole s)) (ends s)
