-- Writing an output file (document 02, A7, amended by A12): its refusals in their order, the file, and what the target holds after. Below, s is
-- the slice of items, 'cut as in document 01 but with no end mark'.
use Rattle.std.specs.Prelude.{ℕ, ◌+◌, ◌-◌, ◌^◌, ◌≡◌, Bool, cond, not, ◌||◌, List, [], ◌∷◌, ◌++◌, leb, ltb, eqb, length, drop, Result, Ok, Err}
use Rattle.std.specs.Result.{result_unwrap_or}
use Rattle.laws.specs.Lists.{any_of}
use Rattle.laws.specs.Refusals.{Refusal, ◌if◌, first}
use Rattle.lines.specs.Lines.{lines}
use Rattle.lines.specs.Texts.{file_of}
use Rattle.headings.specs.declared.Heading.{Heading}
use Rattle.heading_writer.specs.Writing.{heading_text}
use Rattle.rules.specs.Terms.{is_code, is_accounting_day, input}
use Rattle.rules.specs.Rows.{rows_from}
use Rattle.rules.specs.Tree.{Item}
use Rattle.rules.specs.Spots.{spots_in}
use Rattle.vetting.specs.Vetting.{any_barred}
use Rattle.outgoing_lines.specs.Outgoing.{Orders, texts_from}
use Rattle.surveying.specs.Items.{items_of, first_to, any_unsent, mixed, counts_out, sums_out}
use Rattle.closing_lines.specs.Closing.{closing_texts}
use Rattle.delivery.specs.declared.DeliverError.{DeliverError}
use Rattle.delivery.specs.declared.DeliverError.TheVariants.{BadCode, BadDay, NotItems, NotSent, Mixed, TooLarge, TooShort}

-- ---- the file
-- 'closed by a 51 with both numbers zero, the accounting day, a given CERTIS code first, the recipient second, zero third'
abbrev pub closing_heading : ℕ → ℕ → ℕ → Heading
closing_heading certis day to =
    record {
      kind = 51;
      day = day;
      first = record { 0 = certis };
      number = record { 0 = 0 };
      second = record { 0 = to };
      output = record { 0 = 0 };
      third = record { 0 = 0 };
    }

-- 'IN over the output numbers, and, ascending, an S line for each group of output types that isn't empty'
abbrev pub closing_item : Orders → ℕ → ℕ → List Item → List (List ℕ)
closing_item q certis day is =
    heading_text (closing_heading certis day (first_to q is)) ∷
    closing_texts q.start (q.start + (length is - 1)) (counts_out q is) (sums_out q is)

-- 'one block, first fields derived, the item's other lines unaltered', its closing item, 'then 1A'
unfoldable pub output_file : List ℕ → Orders → ℕ → ℕ → List ℕ
output_file s q certis day =
    file_of (texts_from q 0 0 (rows_from 1 (lines s)) ++ closing_item q certis day (items_of s))

-- ---- the refusals
-- 'no items, over 30,000, or not one outcome each'; 'with a standing for each item' (A12)
abbrev pub not_items : Orders → List Item → Bool
not_items q is =
    eqb (length is) 0
    || (ltb 30000 (length is) || (not (eqb (length q.outcomes) (length is)) || not (eqb (length q.standings) (length is))))

-- 'a line breaks a rule from 1 to 15 other than 12, or 23 or 24, or an item' is not sent
abbrev pub not_sent : List ℕ → Orders → ℕ → ℕ → Bool
not_sent s q certis day =
    any_barred (spots_in (input certis day) s) || any_unsent q (first_to q (items_of s)) 0 (items_of s)

-- 'a sum of 10^17 or more, or an output file over 4,000,000,000 bytes'
abbrev pub is_large_sum : ℕ → Bool
is_large_sum t = leb (10 ^ 17) t

abbrev pub too_large : List ℕ → Orders → ℕ → ℕ → Bool
too_large s q certis day = any_of is_large_sum (sums_out q (items_of s)) || ltb 4000000000 (length (output_file s q certis day))

unfoldable pub deliver_refusals : List ℕ → Orders → ℕ → ℕ → ℕ → List Refusal
deliver_refusals s q certis day room =
    (1 if not (is_code certis)) ∷
    (2 if not (is_accounting_day day)) ∷
    (30 if not_items q (items_of s)) ∷
    (31 if not_sent s q certis day) ∷
    (32 if mixed q (items_of s)) ∷
    (33 if too_large s q certis day) ∷
    (34 if ltb room (length (output_file s q certis day))) ∷ []

-- ---- the answer
abbrev pub undelivered_number : DeliverError → ℕ
undelivered_number BadCode = 1
undelivered_number BadDay = 2
undelivered_number NotItems = 30
undelivered_number NotSent = 31
undelivered_number Mixed = 32
undelivered_number TooLarge = 33
undelivered_number TooShort = 34

abbrev pub delivered_number : Result ℕ DeliverError → ℕ
delivered_number (Ok n) = 0
delivered_number (Err e) = undelivered_number e

-- how many bytes were written, or another number where none was
abbrev pub delivered_or : Result ℕ DeliverError → ℕ → ℕ
delivered_or r old = result_unwrap_or r old

-- what writing an output file answers, and the target after: the file, then what stood behind it; on a refusal what stood there
pub record Delivers (s : List ℕ) (q : Orders) (certis day : ℕ) (before : List ℕ) (r : Result ℕ DeliverError) (after : List ℕ) : Type 0 where
  pub number : delivered_number r ≡ first (deliver_refusals s q certis day (length before))
  pub written : (old : ℕ) → delivered_or r old ≡ cond (eqb (first (deliver_refusals s q certis day (length before))) 0) (length (output_file s q certis day)) old
  pub target : after ≡ cond (eqb (first (deliver_refusals s q certis day (length before))) 0) (output_file s q certis day ++ drop (length (output_file s q certis day)) before) before
