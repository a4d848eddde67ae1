-- Lines written one after the other, and a loop that writes the groups: what was written, with what is left, is all of them.
use mathlib.Core.Path.{◌≡◌, refl, sym, ap, ◌∙◌}
use mathlib.Core.List.{List, [], ◌∷◌, ◌++◌, append_assoc, append-nil}
use Prim.Native.Nat.{ℕ, suc, ◌+◌, ◌≤◌, ◌<◌}
use native.Mathlib.Numerals.{add-one}
use native.Mathlib.Omega.{arith}
use lib.Dec.{eqb}
use borrow.Author.Tests.{eq-eqb}
use lib.ListN.{length, drop, get_or, drop_of_length-le}
use lib.Seq.{drop-cons}
use Rattle.laws.proofs.Truth.{by_test}
use Rattle.laws.specs.Ascii.{ascii}
use Rattle.laws.proofs.Put.{put_none}
use Rattle.text.specs.Decimals.{decimal}
use Rattle.text.specs.Strings.{Wrote}
use Rattle.text.proofs.Wrote.{then}
use Rattle.lines.specs.Texts.{lines_text, ended_lines, rows_text}
use Rattle.closing_lines.specs.Closing.{in_text, sum_text, with_sum, sum_texts_from, closing_texts}

-- nothing written
pub wrote_none : (before : List ℕ) (at : ℕ) → at ≤ length before → Wrote before at [] before at
wrote_none before at h = record { room = omega arith; ends = omega arith; holds = sym (put_none before at) }

-- the same text, in other words
pub same_text : {before text text' after : List ℕ} {at end : ℕ} → text ≡ text' → Wrote before at text after end → Wrote before at text' after end
same_text e w = rw (← e) w

pub no_rows : rows_text [] ≡ []
unfolding lines_text ended_lines
no_rows = refl

pub rows_one : (t : List ℕ) → rows_text (t ∷ []) ≡ t ++ (0x0d ∷ 0x0a ∷ [])
unfolding lines_text ended_lines
rows_one t = append-nil (t ++ (0x0d ∷ 0x0a ∷ []))

-- the two rows as they are written, part by part
pub in_row : (a b : ℕ) → (((ascii "IN:" ++ decimal a) ++ ascii " ") ++ decimal b) ++ ascii "\r\n" ≡ rows_text (in_text a b ∷ [])
in_row a b = sym (rows_one (in_text a b) ∙ simp append_assoc)

pub sum_row : (d n t : ℕ) → (((((ascii "S" ++ decimal d) ++ ascii ":") ++ decimal n) ++ ascii " ") ++ decimal t) ++ ascii "\r\n" ≡ rows_text (sum_text d n t ∷ [])
sum_row d n t = sym (rows_one (sum_text d n t) ∙ simp append_assoc)

-- one row before others
pub rows_cons : (t : List ℕ) (ts : List (List ℕ)) → rows_text (t ∷ ts) ≡ rows_text (t ∷ []) ++ rows_text ts
unfolding lines_text ended_lines
rows_cons t ts = ap (λ (l : List ℕ). l ++ lines_text (ended_lines ts)) (sym (append-nil (t ++ (0x0d ∷ 0x0a ∷ []))))

-- a group before others
with_rows : (d n t : ℕ) (ts : List (List ℕ)) → rows_text (with_sum d n t ts) ≡ rows_text (with_sum d n t []) ++ rows_text ts
unfolding lines_text ended_lines
with_rows d n t ts = by_test (eqb n 0)
    (λ q. rw q)
    (λ q. rw q (rows_cons (sum_text d n t) ts))

-- an empty group is not written
pub group_empty : (d n t : ℕ) → n ≡ 0 → rows_text (with_sum d n t []) ≡ []
group_empty d n t e = rw (eq-eqb n 0 e) no_rows

-- what the groups from d on are written as
abbrev pub left_of : ℕ → List ℕ → List ℕ → List ℕ
left_of d counts sums = rows_text (sum_texts_from d (drop d counts) (drop d sums))

left_more : (d : ℕ) (counts sums : List ℕ) → d < length counts → d < length sums
    → left_of d counts sums ≡ rows_text (with_sum d (get_or counts d 0) (get_or sums d 0) []) ++ left_of (suc d) counts sums
unfolding sum_texts_from
left_more d counts sums h k = rw (drop-cons counts d 0 h, drop-cons sums d 0 k) (with_rows d (get_or counts d 0) (get_or sums d 0) (sum_texts_from (suc d) (drop (suc d) counts) (drop (suc d) sums)))

-- the groups before d are written, and with those that are left they are all
pub record SumsSoFar (before : List ℕ) (at : ℕ) (counts sums : List ℕ) (d : ℕ) (after : List ℕ) (end : ℕ) : Type 0 where
  pub done : List ℕ
  pub wrote : Wrote before at done after end
  pub left : done ++ left_of d counts sums ≡ rows_text (sum_texts_from 0 counts sums)

pub sums_none : (before : List ℕ) (at : ℕ) (counts sums : List ℕ) → at ≤ length before → SumsSoFar before at counts sums 0 before at
sums_none before at counts sums h = record { done = []; wrote = wrote_none before at h; left = refl }

pub sums_more : {before mid after : List ℕ} {at next end : ℕ} (d : ℕ) (counts sums : List ℕ) → d < length counts → d < length sums
    → SumsSoFar before at counts sums d mid next → Wrote mid next (rows_text (with_sum d (get_or counts d 0) (get_or sums d 0) [])) after end
    → SumsSoFar before at counts sums (d + 1) after end
sums_more d counts sums h k v w =
    let t = rows_text (with_sum d (get_or counts d 0) (get_or sums d 0) []) in
    rw (add-one d)
    record {
      done = v.done ++ t;
      wrote = then v.wrote w;
      left = append_assoc v.done t (left_of (suc d) counts sums) ∙ ap (λ (l : List ℕ). v.done ++ l) (sym (left_more d counts sums h k)) ∙ v.left;
    }

pub sums_all : {before after : List ℕ} {at end : ℕ} (d : ℕ) (counts sums : List ℕ) → length counts ≤ d
    → SumsSoFar before at counts sums d after end → Wrote before at (rows_text (sum_texts_from 0 counts sums)) after end
unfolding sum_texts_from lines_text ended_lines
sums_all d counts sums h v = same_text (sym (append-nil v.done) ∙ (rw (drop_of_length-le counts h) at v.left)) v.wrote

-- the IN and then all the groups
pub closing_rows : (a b : ℕ) (counts sums : List ℕ) → rows_text (in_text a b ∷ []) ++ rows_text (sum_texts_from 0 counts sums) ≡ rows_text (closing_texts a b counts sums)
unfolding closing_texts
closing_rows a b counts sums = sym (rows_cons (in_text a b) (sum_texts_from 0 counts sums))
