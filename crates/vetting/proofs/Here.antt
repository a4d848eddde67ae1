-- The line at a place of a slice, and the file from there on.
use Prim.Native.Nat.{ℕ, suc, ◌≤◌, ◌<◌}
use native.Mathlib.Omega.{arith}
use mathlib.Core.Path.{◌≡◌, refl, sym, ap, ◌∙◌}
use mathlib.Core.Bool.{Bool, true, false, not, ◌&&◌, ◌||◌, true≢false}
use mathlib.Core.List.{List, []}
use lib.Dec.{ltb}
use lib.ListN.{length, drop, length-drop}
use borrow.Author.Tests.{ltb-false, ltb-true}
use Rattle.laws.specs.Lists.{any_of}
use Rattle.text.specs.Characters.{is_inadmissible}
use Rattle.text.proofs.Admissible.{odd_asked}
use Rattle.lines.specs.declared.Found.{Found}
use Rattle.lines.specs.Lines.{Line, lines}
use Rattle.lines.specs.Reading.{line_at, span, IsNext}
use Rattle.lines.proofs.Lines.{lines_past}
use Rattle.lines.proofs.Reading.{is_next}
use Rattle.fields.specs.declared.kinds.Kind.{Kind}
use Rattle.fields.specs.declared.kinds.Kind.TheVariants.{Heading, Continuation, Field, Other}
use Rattle.fields.specs.Kinds.{kind_of}
use Rattle.fields.proofs.LineKinds.{field_is}
use Rattle.rules.specs.Rows.{Row, sorted, sorted_as, rows_from}
use Rattle.rules.specs.Tree.{File, no_lines, tree, ◌▹◌}
use Rattle.item_reader.specs.Slips.{file_from, Headed}
use Rattle.item_reader.proofs.Starts.{kind_told}
use Rattle.vetting.specs.declared.own_line.Judged.{Judged}
use Rattle.vetting.specs.Parts.{judged_at, is_low, low_at}

abbrev pub row_at : List ℕ → ℕ → ℕ → Row
row_at s p n = record { no = n; bytes = span p (line_at s p).end s; ended = (line_at s p).ended }

pub none_here : (s : List ℕ) (p : ℕ) → length s ≤ p → (n : ℕ) → file_from n (drop p s) ≡ no_lines
unfolding rows_from
none_here s p h n = ap (λ (ls : List Line). tree (rows_from n ls)) (lines_past s p h)

module _ (s : List ℕ) (p : ℕ) (h : p < length s) where
  pub here : IsNext s p (line_at s p)
  here = is_next s p (line_at s p) refl h

  kind_here : kind_of (span p (line_at s p).end s) ≡ kind_of (drop p s)
  kind_here = kind_told (drop p s) (record { bytes = span p (line_at s p).end s; ended = (line_at s p).ended }) (lines (drop (line_at s p).next s)) here.cut

  -- the line, and the file below it
  pub file_at : (k : Kind) → kind_of (drop p s) ≡ k → (n : ℕ) → file_from n (drop p s) ≡ sorted_as k (row_at s p n) ▹ file_from (suc n) (drop (line_at s p).next s)
  unfolding rows_from sorted
  file_at k e n =
      ap (λ (ls : List Line). tree (rows_from n ls)) here.cut
      ∙ ap (λ (q : Kind). sorted_as q (row_at s p n) ▹ file_from (suc n) (drop (line_at s p).next s)) (kind_here ∙ e)

  pub kind_told_here : (k : Kind) → kind_of (span p (line_at s p).end s) ≡ k → kind_of (drop p s) ≡ k
  kind_told_here k e = sym kind_here ∙ e

  pub headed_here : kind_of (drop p s) ≡ Heading → Headed s p
  headed_here e = kind_here ∙ e

-- nothing stands between a place and the next heading or field
pub bare : (s : List ℕ) (p : ℕ) → low_at s p ≡ false → (n : ℕ) → (file_from n (drop p s)).top ≡ []
bare s p e n = go (ltb p (length s)) refl
  where
    by_kind : p < length s → (k : Kind) → kind_of (drop p s) ≡ k → is_low k ≡ false → (file_from n (drop p s)).top ≡ []
    by_kind h Heading q w = ap (λ (f : File). f.top) (file_at s p h Heading q n)
    by_kind h Continuation q w = absurd (true≢false w)
    by_kind h (Field i) q w = ap (λ (f : File). f.top) (file_at s p h (Field i) q n)
    by_kind h Other q w = absurd (true≢false w)

    go : (t : Bool) → ltb p (length s) ≡ t → (file_from n (drop p s)).top ≡ []
    go true q = by_kind (ltb-true p (length s) q) (kind_of (drop p s)) refl (ap (λ (t : Bool). t && is_low (kind_of (drop p s))) (sym q) ∙ e)
    go false q = ap (λ (f : File). f.top) (none_here s p (ltb-false p (length s) q) n)

-- .. and it is no field: the fields end there
pub record Ends (s : List ℕ) (p : ℕ) : Type 0 where
  pub headed : p < length s → Headed s p
  pub loose : (n : ℕ) → (file_from n (drop p s)).loose ≡ []

pub ends : (s : List ℕ) (p : ℕ) → low_at s p ≡ false → ((i : ℕ) → kind_of (drop p s) ≡ Field i → ⊥) → Ends s p
ends s p e g = go (ltb p (length s)) refl
  where
    by_kind : p < length s → (k : Kind) → kind_of (drop p s) ≡ k → is_low k ≡ false → Ends s p
    by_kind h Heading q w = record { headed = λ _. headed_here s p h q; loose = λ n. ap (λ (f : File). f.loose) (file_at s p h Heading q n) }
    by_kind h Continuation q w = absurd (true≢false w)
    by_kind h (Field i) q w = absurd (g i q)
    by_kind h Other q w = absurd (true≢false w)

    go : (t : Bool) → ltb p (length s) ≡ t → Ends s p
    go true q = by_kind (ltb-true p (length s) q) (kind_of (drop p s)) refl (ap (λ (t : Bool). t && is_low (kind_of (drop p s))) (sym q) ∙ e)
    go false q =
        let past = ltb-false p (length s) q in
        record { headed = λ h. absurd (omega arith); loose = λ n. ap (λ (f : File). f.loose) (none_here s p past n) }

-- a line is judged: where none of its bytes is odd the table need not be asked
pub judged_is : (s : List ℕ) (at : ℕ) {f : Found} {b : Bool} → f ≡ line_at s at → at < length s → b ≡ (f.odd && any_of is_inadmissible (span at f.end s))
    → ◌≡◌ {A = Judged} (record { end = f.end; next = f.next; bad = b || not f.ended }) (judged_at s at)
judged_is s at {f} {b} e h q =
    let asked : b ≡ any_of is_inadmissible (span at f.end s) = q ∙ ap (λ (t : Bool). t && any_of is_inadmissible (span at f.end s)) (is_next s at f e h).tells ∙ odd_asked (span at f.end s) in
    ap (λ (t : Bool). record { end = f.end; next = f.next; bad = t || not f.ended }) asked
    ∙ ap (λ (g : Found). record { end = g.end; next = g.next; bad = any_of is_inadmissible (span at g.end s) || not g.ended }) e

-- a field has bytes, and a number below 1296
pub field_in : (s : List ℕ) (p i : ℕ) → kind_of (drop p s) ≡ Field i → (p < length s) × (i < 1296)
field_in s p i e = let f = field_is (drop p s) i e in (omega (arith, f.0, length-drop p s), f.2)
