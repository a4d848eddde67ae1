-- Laws of `offset_of`: the lines from there on are those from the line on, and a reader that goes from line to line stands there.
use mathlib.Core.Path.{◌≡◌, refl, sym, ap, ◌∙◌}
use mathlib.Core.List.{List, [], ◌∷◌}
use Prim.Native.Nat.{ℕ, zero, suc, ◌+◌, ◌-◌}
use native.Mathlib.Omega.{arith}
use lib.ListN.{length, take, drop, length-drop}
use lib.Seq.{drop-drop, drop-nil, length-take-le}
use Rattle.lines.specs.declared.Found.{Found}
use Rattle.lines.specs.Lines.{Line, lines, taken, taken_by, offset_of}
use Rattle.lines.specs.Reading.{span, IsNext}
use Rattle.lines.proofs.Lines.{lines_none, Cut, cut}

-- the lines after the first n start where those end
lines_after : (n : ℕ) (s : List ℕ) → lines (drop (taken_by (take n (lines s))) s) ≡ drop n (lines s)
unfolding taken_by
lines_after zero s = refl
lines_after (suc n) [] = ap lines (drop-nil (taken_by (take (suc n) (lines [])))) ∙ lines_none ∙ sym (ap (drop (suc n)) lines_none)
lines_after (suc n) (b ∷ s) =
    let C : Cut (b ∷ s) = cut b s in
    let t : ℕ = taken C.first in
    let rest : List ℕ = drop t (b ∷ s) in
    ap (λ (ls : List Line). lines (drop (taken_by (take (suc n) ls)) (b ∷ s))) C.whole
    ∙ ap (λ (ls : List Line). lines (drop (t + taken_by (take n ls)) (b ∷ s))) (sym C.after)
    ∙ ap lines (sym (drop-drop (taken_by (take n (lines rest))) t (b ∷ s)))
    ∙ lines_after n rest ∙ ap (drop n) C.after ∙ ap (drop (suc n)) (sym C.whole)

-- what stands at a line's offset is that line and those after it
pub offset_lines : (s : List ℕ) (n : ℕ) → lines (drop (offset_of s n) s) ≡ drop (n - 1) (lines s)
unfolding offset_of
offset_lines s n = lines_after (n - 1) s

one_more : (n : ℕ) (ls : List Line) (l : Line) (rest : List Line) → drop n ls ≡ l ∷ rest → taken_by (take (suc n) ls) ≡ taken_by (take n ls) + taken l
unfolding taken_by
one_more zero [] l rest e = absurd (omega (arith, ap length e))
one_more zero (x ∷ ls) l rest e = let k : length (x ∷ ls) ≡ length (l ∷ rest) = ap length e in ap taken_by (ap (take 1) e) ∙ omega arith
one_more (suc n) [] l rest e = absurd (omega (arith, ap length e))
one_more (suc n) (x ∷ ls) l rest e = omega (arith, one_more n ls l rest e)

above : (s : List ℕ) (n : ℕ) → offset_of s (suc n) ≡ taken_by (take n (lines s))
unfolding offset_of
above s n = let e : suc n - 1 ≡ n = omega arith in rw e

-- from a line to the next
pub offset_next : {s : List ℕ} {at : ℕ} {f : Found} → IsNext s at f → (n : ℕ) → offset_of s (suc n) ≡ at → offset_of s (suc (suc n)) ≡ f.next
offset_next {s} {at} {f} N n e =
    let here : taken_by (take n (lines s)) ≡ at = sym (above s n) ∙ e in
    let l : Line = record { bytes = span at f.end s; ended = f.ended } in
    let stands : drop n (lines s) ≡ l ∷ lines (drop f.next s) = sym (lines_after n s) ∙ ap (λ (k : ℕ). lines (drop k s)) here ∙ N.cut in
    let long : length (span at f.end s) ≡ f.end - at = length-take-le (f.end - at) (drop at s) (omega (arith, length-drop at s, N.starts, N.closes, N.within)) in
    above s (suc n) ∙ one_more n (lines s) l (lines (drop f.next s)) stands ∙ omega (arith, N.follows, N.starts)
