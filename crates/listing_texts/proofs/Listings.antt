-- Numbers and rows written one after the other, and a text written at the start of lent bytes.
use mathlib.Core.Path.{◌≡◌, ap, sym, ◌∙◌}
use mathlib.Core.List.{List, [], ◌∷◌, ◌++◌, append_assoc, append-nil, zip_with}
use Prim.Native.Nat.{ℕ, zero, suc, ◌+◌, ◌≤◌, ◌<◌}
use native.Mathlib.Nat.{zero-add}
use native.Mathlib.Numerals.{add-one}
use native.Mathlib.Omega.{arith}
use lib.ListN.{length, get_or}
use lib.Seq.{length-take-le}
use Rattle.laws.proofs.Put.{put_is, put_none}
use Rattle.text.specs.Strings.{Wrote}
use Rattle.text.proofs.Wrote.{then, same_length}
use Rattle.rules.specs.Faults.{fault}
use Rattle.ledger.specs.Slices.{held}
use Rattle.listing_texts.specs.Printing.{row_text, row_texts, Begins}

pub rows_none : (before : List ℕ) (at : ℕ) → at ≤ length before → Wrote before at (row_texts []) before at
unfolding row_texts
rows_none before at h = record { room = omega arith; ends = omega arith; holds = sym (put_none before at) }

-- the text of one row more
one_more : (i : ℕ) (ls rs : List ℕ) → i < length ls → i < length rs
    → row_texts (held (suc i) ls rs) ≡ row_texts (held i ls rs) ++ row_text (fault (get_or ls i 0) (get_or rs i 0))
unfolding zip_with row_texts
one_more i [] rs h k = absurd (omega arith)
one_more i (l ∷ ls) [] h k = absurd (omega arith)
one_more zero (l ∷ ls) (r ∷ rs) h k = append-nil (row_text (fault l r))
one_more (suc i) (l ∷ ls) (r ∷ rs) h k =
    ap (λ (t : List ℕ). row_text (fault l r) ++ t) (one_more i ls rs (omega arith) (omega arith))
    ∙ sym (append_assoc (row_text (fault l r)) (row_texts (held i ls rs)) (row_text (fault (get_or ls i 0) (get_or rs i 0))))

pub rows_more : {before mid after : List ℕ} {at next end : ℕ} (i : ℕ) (ls rs : List ℕ) → i < length ls → i < length rs
    → Wrote before at (row_texts (held i ls rs)) mid next → Wrote mid next (row_text (fault (get_or ls i 0) (get_or rs i 0))) after end
    → Wrote before at (row_texts (held (i + 1) ls rs)) after end
rows_more i ls rs h k v w = rw (add-one, one_more i ls rs h k) (then v w)

-- a text at the start
pub at_start : {before text after : List ℕ} {n : ℕ} → Wrote before 0 text after n → Begins before text after n
at_start {before} {text} {after} {n} w =
    let h : n ≤ length after = omega (arith, w.room, w.ends, same_length w) in
    record {
      long = omega (arith, w.ends);
      holds = w.holds ∙ put_is before 0 text ∙ rw zero-add;
      counts = (h, sym (length-take-le n after h));
    }

pub begins_same : {before text text' after : List ℕ} {n : ℕ} → text ≡ text' → Begins before text after n → Begins before text' after n
begins_same e b = rw (← e) b

-- the text determines the answer and the bytes
pub begins_unique : {before text after after' : List ℕ} {n n' : ℕ} → Begins before text after n → Begins before text after' n'
    → (n ≡ n') × (after ≡ after')
begins_unique b b' = (b.long ∙ sym b'.long, b.holds ∙ sym b'.holds)
