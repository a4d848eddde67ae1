-- Model of the code, not part of the statement: what the parts of writing an output file promise each other.
use Rattle.std.specs.Prelude.{ℕ, ◌+◌, ◌-◌, ◌≡◌, Bool, cond, ◌||◌, List, [], ◌∷◌, ◌++◌, ltb, eqb, length, drop, Result}
use Rattle.laws.specs.Refusals.{Refusal, ◌if◌}
use Rattle.lines.specs.Lines.{lines}
use Rattle.lines.specs.Texts.{file_of}
use Rattle.heading_writer.specs.Writing.{heading_text}
use Rattle.rules.specs.Rows.{rows_from}
use Rattle.outgoing_lines.specs.Outgoing.{Orders, texts_from}
use Rattle.surveying.specs.Items.{items_of, mixed}
use Rattle.closing_lines.specs.Closing.{closing_texts}
use Rattle.delivery.specs.declared.DeliverError.{DeliverError}
use Rattle.delivery.specs.Delivery.{closing_heading, output_file, not_sent, too_large, delivered_number, delivered_or}

-- an answer by the number of its refusal, and the target after, where a text is written if that is 0
pub record Answers (refusal : ℕ) (text before : List ℕ) (r : Result ℕ DeliverError) (after : List ℕ) : Type 0 where
  pub number : delivered_number r ≡ refusal
  pub written : (old : ℕ) → delivered_or r old ≡ cond (eqb refusal 0) (length text) old
  pub target : after ≡ cond (eqb refusal 0) (text ++ drop (length text) before) before

-- a closing item by what it says
abbrev pub closing_rows : ℕ → ℕ → ℕ → ℕ → ℕ → List ℕ → List ℕ → List (List ℕ)
closing_rows certis day to a b counts sums = heading_text (closing_heading certis day to) ∷ closing_texts a b counts sums

-- the file of n items, by their recipient and their groups
unfoldable pub sent_file : List ℕ → Orders → ℕ → ℕ → ℕ → ℕ → List ℕ → List ℕ → List ℕ
sent_file s q certis day n to counts sums =
    file_of (texts_from q 0 0 (rows_from 1 (lines s)) ++ closing_rows certis day to q.start (q.start + (n - 1)) counts sums)

-- the refusals by what is to be written
abbrev pub lines_refusals : Bool → List ℕ → ℕ → List Refusal
lines_refusals large text room = (33 if (large || ltb 4000000000 (length text))) ∷ (34 if ltb room (length text)) ∷ []

-- those from the items on
abbrev pub items_refusals : List ℕ → Orders → ℕ → ℕ → ℕ → List Refusal
items_refusals s q certis day room =
    (31 if not_sent s q certis day) ∷
    (32 if mixed q (items_of s)) ∷
    (33 if too_large s q certis day) ∷
    (34 if ltb room (length (output_file s q certis day))) ∷ []
