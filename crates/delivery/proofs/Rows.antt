-- The closing item and the end mark as they are written, part by part; and the file as the items' lines with them after.
use mathlib.Core.Path.{◌≡◌, refl, sym, ap, ◌∙◌}
use mathlib.Core.List.{List, [], ◌∷◌, ◌++◌, append_assoc}
use Prim.Native.Nat.{ℕ, ◌+◌, ◌-◌, ◌≤◌}
use native.Mathlib.Omega.{arith}
use lib.ListN.{length, take}
use Rattle.laws.proofs.Put.{take_put}
use Rattle.text.specs.Strings.{Wrote}
use Rattle.text.proofs.Wrote.{same_length}
use Rattle.lines.specs.Lines.{lines}
use Rattle.lines.specs.Texts.{lines_text, ended_lines, rows_text, file_of}
use Rattle.rules.specs.Rows.{rows_from}
use Rattle.outgoing_lines.specs.Outgoing.{Orders, texts_from, items_text}
use Rattle.delivery.specs.Model.{closing_rows, sent_file}

pub end_rows : (h : List ℕ) (ts : List (List ℕ)) → ((h ++ (0x0d ∷ 0x0a ∷ [])) ++ rows_text ts) ++ (0x1a ∷ []) ≡ file_of (h ∷ ts)
unfolding lines_text ended_lines file_of
end_rows h ts = refl

rows_append : (ts us : List (List ℕ)) → rows_text (ts ++ us) ≡ rows_text ts ++ rows_text us
unfolding lines_text ended_lines
rows_append [] us = refl
rows_append (t ∷ ts) us =
    ap (λ (l : List ℕ). (t ++ (0x0d ∷ 0x0a ∷ [])) ++ l) (rows_append ts us) ∙ sym (append_assoc (t ++ (0x0d ∷ 0x0a ∷ [])) (rows_text ts) (rows_text us))

pub file_append : (ts us : List (List ℕ)) → rows_text ts ++ file_of us ≡ file_of (ts ++ us)
unfolding file_of
file_append ts us =
    sym (append_assoc (rows_text ts) (rows_text us) (0x1a ∷ [])) ∙ ap (λ (l : List ℕ). l ++ (0x1a ∷ [])) (sym (rows_append ts us))

-- what was written at the start of some bytes is their front
pub front_is : {before text after : List ℕ} {n : ℕ} → Wrote before 0 text after n → take n after ≡ text
front_is {before} {text} {after} {n} w =
    (λ i. take (w.ends i) (w.holds i)) ∙ take_put before 0 text w.room

pub front_fits : {before text after : List ℕ} {n : ℕ} → Wrote before 0 text after n → n ≤ length after
front_fits w = omega (arith, w.ends, w.room, same_length w)

-- the file of some items, from their lines and the end that was written
pub sent_file_lem : (s : List ℕ) (q : Orders) (certis day n to : ℕ) (counts sums : List ℕ) {rest : List ℕ}
    → rest ≡ file_of (closing_rows certis day to q.start (q.start + (n - 1)) counts sums) → items_text q s ++ rest ≡ sent_file s q certis day n to counts sums
unfolding sent_file
sent_file_lem s q certis day n to counts sums e =
    ap (λ (l : List ℕ). items_text q s ++ l) e
    ∙ file_append (texts_from q 0 0 (rows_from 1 (lines s))) (closing_rows certis day to q.start (q.start + (n - 1)) counts sums)
