-- What goes out for some lines, line by line: the first one by its kind. The numbers of lines do not matter.
use mathlib.Core.Path.{◌≡◌, refl, sym, ap, ◌∙◌}
use mathlib.Core.Bool.{Bool, ◌||◌}
use mathlib.Core.List.{List, [], ◌∷◌, ◌++◌}
use Prim.Native.Nat.{ℕ, suc}
use Rattle.lines.specs.Lines.{Line}
use Rattle.lines.specs.Texts.{lines_text, ended_lines, rows_text}
use Rattle.fields.specs.declared.kinds.Kind.{Kind}
use Rattle.fields.specs.declared.kinds.Kind.TheVariants.{Heading, Continuation, Field, Other}
use Rattle.fields.specs.Kinds.{kind_of}
use Rattle.rules.specs.Rows.{Row, Sorted, sorted_as, sorted, rows_from}
use Rattle.outgoing_lines.specs.Outgoing.{Orders, field_after, texts_from, any_underived}
use Rattle.outgoing_lines.specs.Going.{ending, outcome_in, count_in, line_after, line_underived}

abbrev row_of : ℕ → Line → Row
row_of n l = record { no = n; bytes = l.bytes; ended = l.ended }

module _ (q : Orders) where
  -- ---- the first line
  by_kind : (k o : ℕ) (r : Row) (xs : List Sorted) (x : Kind) → texts_from q k o (sorted_as x r ∷ xs) ≡ line_after q x k o r.bytes ∷ texts_from q (count_in x k) (outcome_in x q.outcomes k o) xs
  unfolding texts_from field_after
  by_kind k o r xs Heading = refl
  by_kind k o r xs Continuation = refl
  by_kind k o r xs (Field i) = refl
  by_kind k o r xs Other = refl

  tested : (k : ℕ) (r : Row) (xs : List Sorted) (x : Kind) → any_underived q k (sorted_as x r ∷ xs) ≡ (line_underived q x k r.bytes || any_underived q (count_in x k) xs)
  unfolding any_underived
  tested k r xs Heading = refl
  tested k r xs Continuation = refl
  tested k r xs (Field i) = refl
  tested k r xs Other = refl

  module _ (k n : ℕ) (l : Line) (ls : List Line) where
    first_text : (o : ℕ)
        → texts_from q k o (rows_from n (l ∷ ls))
        ≡ line_after q (kind_of l.bytes) k o l.bytes ∷ texts_from q (count_in (kind_of l.bytes) k) (outcome_in (kind_of l.bytes) q.outcomes k o) (rows_from (suc n) ls)
    unfolding rows_from sorted
    first_text o = by_kind k o (row_of n l) (rows_from (suc n) ls) (kind_of l.bytes)

    first_test : any_underived q k (rows_from n (l ∷ ls)) ≡ (line_underived q (kind_of l.bytes) k l.bytes || any_underived q (count_in (kind_of l.bytes) k) (rows_from (suc n) ls))
    unfolding rows_from sorted
    first_test = tested k (row_of n l) (rows_from (suc n) ls) (kind_of l.bytes)

  -- ---- the number does not matter
  pub text_alike : (ls : List Line) (k o n m : ℕ) → texts_from q k o (rows_from n ls) ≡ texts_from q k o (rows_from m ls)
  text_alike [] k o n m = unfold rows_from in refl
  text_alike (l ∷ ls) k o n m =
      first_text k n l ls o
      ∙ ap (λ (ts : List (List ℕ)). line_after q (kind_of l.bytes) k o l.bytes ∷ ts) (text_alike ls (count_in (kind_of l.bytes) k) (outcome_in (kind_of l.bytes) q.outcomes k o) (suc n) (suc m))
      ∙ sym (first_text k m l ls o)

  pub test_alike : (ls : List Line) (k n m : ℕ) → any_underived q k (rows_from n ls) ≡ any_underived q k (rows_from m ls)
  test_alike [] k n m = unfold rows_from in refl
  test_alike (l ∷ ls) k n m =
      first_test k n l ls
      ∙ ap (λ (t : Bool). line_underived q (kind_of l.bytes) k l.bytes || t) (test_alike ls (count_in (kind_of l.bytes) k) (suc n) (suc m))
      ∙ sym (first_test k m l ls)

  -- ---- what is left of it: k headings stand above these lines, and o is the outcome of the item that they begin in
  abbrev pub left_text : ℕ → ℕ → List Line → List ℕ
  left_text k o ls = rows_text (texts_from q k o (rows_from 1 ls))

  abbrev pub left_underived : ℕ → List Line → Bool
  left_underived k ls = any_underived q k (rows_from 1 ls)

  pub left_none : (k o : ℕ) → left_text k o [] ≡ []
  unfolding rows_from texts_from lines_text ended_lines
  left_none k o = refl

  module _ (k : ℕ) (l : Line) (ls : List Line) (x : Kind) (e : x ≡ kind_of l.bytes) where
    pub left_text_lem : (o : ℕ) → left_text k o (l ∷ ls) ≡ (line_after q x k o l.bytes ++ ending) ++ left_text (count_in x k) (outcome_in x q.outcomes k o) ls
    unfolding lines_text ended_lines
    left_text_lem o =
        ap rows_text (first_text k 1 l ls o)
        ∙ ap (λ (y : Kind). (line_after q y k o l.bytes ++ ending) ++ rows_text (texts_from q (count_in y k) (outcome_in y q.outcomes k o) (rows_from 2 ls))) (sym e)
        ∙ ap (λ (ts : List (List ℕ)). (line_after q x k o l.bytes ++ ending) ++ rows_text ts) (text_alike ls (count_in x k) (outcome_in x q.outcomes k o) 2 1)

    pub left_test : left_underived k (l ∷ ls) ≡ (line_underived q x k l.bytes || left_underived (count_in x k) ls)
    left_test =
        first_test k 1 l ls
        ∙ ap (λ (y : Kind). line_underived q y k l.bytes || any_underived q (count_in y k) (rows_from 2 ls)) (sym e)
        ∙ ap (λ (t : Bool). line_underived q x k l.bytes || t) (test_alike ls (count_in x k) 2 1)
