-- The two loops over the lines of a slice: what is done so far, with what is left, is all.
use mathlib.Core.Path.{◌≡◌, refl, sym, ap, ◌∙◌, subst}
use mathlib.Core.Bool.{false, ◌||◌}
use mathlib.Core.List.{List, [], ◌++◌, append_assoc, append-nil}
use Prim.Native.Nat.{ℕ, suc, ◌+◌, ◌≤◌, min}
use native.Mathlib.Nat.{zero-add}
use native.Mathlib.Omega.{arith}
use lib.ListN.{length, drop, length-append}
use Rattle.laws.proofs.Any.{or_left, or_right}
use Rattle.laws.proofs.Put.{put_none}
use Rattle.text.specs.Strings.{Wrote}
use Rattle.text.proofs.Wrote.{then, same_length as as_long}
use Rattle.lines.specs.declared.Found.{Found}
use Rattle.lines.specs.Lines.{lines}
use Rattle.lines.specs.Reading.{span, IsNext}
use Rattle.lines.proofs.Lines.{lines_past}
use Rattle.fields.specs.declared.kinds.Kind.{Kind}
use Rattle.fields.specs.declared.kinds.Kind.TheVariants.{Heading, Continuation, Field, Other}
use Rattle.fields.specs.Kinds.{kind_of}
use Rattle.outgoing_lines.specs.Outgoing.{Orders, items_text}
use Rattle.outgoing_lines.specs.Going.{ending, outcome_in, count_in, line_after, line_underived}
use Rattle.outgoing_lines.proofs.Rows.{left_text, left_underived, left_none, left_text_lem, left_test}

count_le : (x : Kind) (k : ℕ) → count_in x k ≤ suc k
count_le Heading k = omega arith
count_le Continuation k = omega arith
count_le (Field i) k = omega arith
count_le Other k = omega arith

-- ---- the line at a place, and those after it
module _ (q : Orders) (s : List ℕ) (k at : ℕ) {f : Found} {x : Kind} (n : IsNext s at f) (e : x ≡ kind_of (span at f.end s)) where
  text_from : (o : ℕ)
      → left_text q k o (lines (drop at s)) ≡ (line_after q x k o (span at f.end s) ++ ending) ++ left_text q (count_in x k) (outcome_in x q.outcomes k o) (lines (drop f.next s))
  text_from o =
      ap (left_text q k o) n.cut ∙ left_text_lem q k (record { bytes = span at f.end s; ended = f.ended }) (lines (drop f.next s)) x e o

  test_from : left_underived q k (lines (drop at s)) ≡ (line_underived q x k (span at f.end s) || left_underived q (count_in x k) (lines (drop f.next s)))
  test_from =
      ap (left_underived q k) n.cut ∙ left_test q k (record { bytes = span at f.end s; ended = f.ended }) (lines (drop f.next s)) x e

-- at the end nothing is left
none_from : (q : Orders) (s : List ℕ) (k o at : ℕ) → length s ≤ at → left_text q k o (lines (drop at s)) ≡ []
none_from q s k o at h = ap (left_text q k o) (lines_past s at h) ∙ left_none q k o

-- ---- the size
abbrev ordered : List ℕ → List ℕ → ℕ → Orders
ordered os standings start = record { outcomes = os; standings = standings; start = start }

pub record Sizing (s os : List ℕ) (size k o at : ℕ) : Type 0 where
  pub sized : (standings : List ℕ) (start : ℕ)
      → min 4000000001 (size + length (left_text (ordered os standings start) k o (lines (drop at s)))) ≡ min 4000000001 (length (items_text (ordered os standings start) s))
  pub small : size ≤ 4000000001
  pub few : k ≤ at
  pub inside : at ≤ length s

cap_step : (c a b r : ℕ) → min c (min c (a + min c b) + r) ≡ min c (a + (b + r))
cap_step c a b r = omega arith

module _ (s os : List ℕ) where
  pub size_start : Sizing s os 0 0 0 0
  size_start = record { sized = λ standings start. ap (min 4000000001) (zero-add _); small = omega arith; few = omega arith; inside = omega arith }

  module _ {size k o at size' m : ℕ} {f : Found} {x : Kind} (S : Sizing s os size k o at) (n : IsNext s at f) (e : x ≡ kind_of (span at f.end s))
      (l : (q : Orders) (j : ℕ) → min 4000000001 (length (line_after q x j o (span at f.end s) ++ ending)) ≡ m) (g : size' ≡ min 4000000001 (size + m)) where
    size_on : Sizing s os size' (count_in x k) (outcome_in x os k o) f.next
    size_on = record {
      sized = λ standings start.
          let q = ordered os standings start in
          let line = line_after q x k o (span at f.end s) ++ ending in
          let rest = left_text q (count_in x k) (outcome_in x os k o) (lines (drop f.next s)) in
          ap (λ (z : ℕ). min 4000000001 (z + length rest)) (g ∙ ap (λ (z : ℕ). min 4000000001 (size + z)) (sym (l q k)))
          ∙ cap_step 4000000001 size (length line) (length rest)
          ∙ ap (λ (z : ℕ). min 4000000001 (size + z)) (sym (ap length (text_from q s k at n e o) ∙ length-append line rest))
          ∙ S.sized standings start;
      small = omega (arith, g);
      few = omega (arith, count_le x k, S.few, n.moves);
      inside = n.within;
    }

    pub size_more : {k' o' : ℕ} → k' ≡ count_in x k → o' ≡ outcome_in x os k o → Sizing s os size' k' o' f.next
    size_more {k'} {o'} ek eo =
        subst (λ (j : ℕ). Sizing s os size' j o' f.next) (sym ek) (subst (λ (j : ℕ). Sizing s os size' (count_in x k) j f.next) (sym eo) size_on)

  pub size_end : {size k o at : ℕ} → Sizing s os size k o at → length s ≤ at → (standings : List ℕ) (start : ℕ) → min 4000000001 (length (items_text (ordered os standings start) s)) ≡ size
  size_end {size} {k} {o} {at} S h standings start =
      sym (S.sized standings start)
      ∙ ap (λ (t : List ℕ). min 4000000001 (size + length t)) (none_from (ordered os standings start) s k o at h)
      ∙ omega (arith, S.small)

-- ---- the writing
pub record Putting (q : Orders) (s before out : List ℕ) (next k o at : ℕ) : Type 0 where
  pub done : List ℕ
  pub whole : done ++ left_text q k o (lines (drop at s)) ≡ items_text q s
  pub wrote : Wrote before 0 done out next
  pub fine : left_underived q k (lines (drop at s)) ≡ false
  pub few : k ≤ at
  pub inside : at ≤ length s

module _ (q : Orders) (s before : List ℕ) where
  pub put_start : left_underived q 0 (lines s) ≡ false → Putting q s before before 0 0 0 0
  put_start e = record {
    done = [];
    whole = refl;
    wrote = record { room = omega arith; ends = omega arith; holds = sym (put_none before 0) };
    fine = e;
    few = omega arith;
    inside = omega arith;
  }

  module _ {out : List ℕ} {next k o at : ℕ} (P : Putting q s before out next k o at) where
    module _ {f : Found} {x : Kind} (n : IsNext s at f) (e : x ≡ kind_of (span at f.end s)) where
      abbrev line : List ℕ
      line = line_after q x k o (span at f.end s) ++ ending

      abbrev rest : List ℕ
      rest = left_text q (count_in x k) (outcome_in x q.outcomes k o) (lines (drop f.next s))

      split : (P.done ++ line) ++ rest ≡ items_text q s
      split = append_assoc P.done line rest ∙ ap (λ (t : List ℕ). P.done ++ t) (sym (text_from q s k at n e o)) ∙ P.whole

      pub put_fine : line_underived q x k (span at f.end s) ≡ false
      put_fine = or_left _ _ (sym (test_from q s k at n e) ∙ P.fine)

      pub put_room : length (items_text q s) ≤ length before → next + length line ≤ length out
      put_room h =
          omega (arith, ap length split, length-append (P.done ++ line) rest, length-append P.done line, P.wrote.ends, as_long P.wrote)

      put_on : {out' : List ℕ} {next' : ℕ} → Wrote out next line out' next' → Putting q s before out' next' (count_in x k) (outcome_in x q.outcomes k o) f.next
      put_on w = record {
        done = P.done ++ line;
        whole = split;
        wrote = then P.wrote w;
        fine = or_right (line_underived q x k (span at f.end s)) _ (sym (test_from q s k at n e) ∙ P.fine);
        few = omega (arith, count_le x k, P.few, n.moves);
        inside = n.within;
      }

      pub put_more : {out' : List ℕ} {next' k' o' : ℕ} → Wrote out next line out' next' → k' ≡ count_in x k → o' ≡ outcome_in x q.outcomes k o → Putting q s before out' next' k' o' f.next
      put_more {out'} {next'} {k'} {o'} w ek eo =
          subst (λ (j : ℕ). Putting q s before out' next' j o' f.next) (sym ek)
          (subst (λ (j : ℕ). Putting q s before out' next' (count_in x k) j f.next) (sym eo) (put_on w))

    pub put_end : length s ≤ at → Wrote before 0 (items_text q s) out next
    put_end h =
        let all : P.done ≡ items_text q s = sym (append-nil P.done) ∙ ap (λ (t : List ℕ). P.done ++ t) (sym (none_from q s k o at h)) ∙ P.whole in
        subst (λ (t : List ℕ). Wrote before 0 t out next) all P.wrote
