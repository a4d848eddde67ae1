-- Each way through the items of a slice that begins with a heading.
use Prim.Native.Nat.{ℕ, ◌+◌, ◌-◌, ◌≤◌, ◌<◌}
use native.Mathlib.Omega.{arith}
use mathlib.Core.Path.{◌≡◌, refl, sym, ap, ◌∙◌}
use mathlib.Core.Bool.{Bool, true, false, ◌||◌, or-true}
use mathlib.Core.List.{List, [], ◌∷◌, ◌++◌}
use lib.Dec.{ltb}
use lib.ListN.{length}
use Rattle.laws.specs.Lists.{any_of}
use Rattle.laws.specs.Refusals.{◌if◌, first}
use Rattle.laws.proofs.Any.{or_right}
use Rattle.lines.specs.Lines.{lines}
use Rattle.lines.specs.Texts.{file_of}
use Rattle.heading_writer.specs.Writing.{heading_text}
use Rattle.rules.specs.Terms.{Terms, input}
use Rattle.rules.specs.Rows.{rows_from}
use Rattle.item_reader.specs.Slips.{Headed}
use Rattle.closing_lines.specs.Closing.{closing_texts}
use Rattle.outgoing_lines.specs.Outgoing.{Orders, texts_from, any_underived}
use Rattle.rules.specs.Spots.{spots_in}
use Rattle.vetting.specs.Vetting.{any_barred}
use Rattle.surveying.specs.declared.Lead.{Lead}
use Rattle.surveying.specs.Items.{items_of, first_to, any_unsent, mixed, sums_out}
use Rattle.surveying.specs.Model.{items_barred, Surveys, LeadsIf}
use Rattle.surveying.proofs.Leading.{headed_barred}
use Rattle.std.specs.Prelude.{Result, Err}
use Rattle.delivery.specs.declared.DeliverError.{DeliverError}
use Rattle.delivery.specs.declared.DeliverError.TheVariants.{NotSent, Mixed}
use Rattle.delivery.specs.Delivery.{closing_heading, is_large_sum, output_file, not_sent, too_large}
use Rattle.delivery.specs.Model.{Answers, lines_refusals, items_refusals, sent_file}
use Rattle.delivery.proofs.Answered.{refused, answers_as}
use Rattle.delivery.proofs.Sending.{first_refused, same_to, same_mixed, sent_derived}
use Rattle.delivery.proofs.Groups.{counts_whole, large_same, sums_whole}
use Rattle.std.specs.Prelude.{None, Some}

abbrev by : Bool → Bool → Bool → Bool → ℕ
by a b c d = first ((31 if a) ∷ (32 if b) ∷ (33 if c) ∷ (34 if d) ∷ [])

module _ (s : List ℕ) (q : Orders) (certis day : ℕ) (before : List ℕ) (l : 0 < length s) (h : Headed s 0) (many : 1 ≤ length (items_of s)) where
  abbrev terms : Terms
  terms = input certis day

  abbrev file : List ℕ
  file = output_file s q certis day

  abbrev unsent : Bool
  unsent = not_sent s q certis day

  abbrev mixes : Bool
  mixes = mixed q (items_of s)

  abbrev large : Bool
  large = too_large s q certis day

  abbrev short : Bool
  short = ltb (length before) (length file)

  abbrev refusal : ℕ
  refusal = first (items_refusals s q certis day (length before))

  -- the first is refused by deriving
  pub first_unsent : LeadsIf q (items_of s) None → Answers refusal file before (Err NotSent) before
  first_unsent L =
      let e : unsent ≡ true =
      ap (λ (t : Bool). any_barred (spots_in terms s) || t) (first_refused q (first_to q (items_of s)) (items_of s) many L) ∙ or-true (any_barred (spots_in terms s)) in
      refused (Err NotSent) (sym (ap (λ (a : Bool). by a mixes large short) e)) (omega arith) (λ old. refl)

  module _ (lead : Lead) (L : LeadsIf q (items_of s) (Some lead)) where
    to : lead.to ≡ first_to q (items_of s)
    to = same_to q (items_of s) lead many L

    asked : (items_barred terms (items_of s) || any_unsent q lead.to 0 (items_of s)) ≡ unsent
    asked = λ i. sym (headed_barred s l h terms) i || any_unsent q (to i) 0 (items_of s)

    pub items_unsent : (counts sums : List ℕ) → Surveys q terms lead s None counts sums → Answers refusal file before (Err NotSent) before
    items_unsent counts sums S = refused (Err NotSent) (sym (ap (λ (a : Bool). by a mixes large short) (sym asked ∙ S))) (omega arith) (λ old. refl)

    module _ (counts sums : List ℕ) (other : Bool) (S : Surveys q terms lead s (Some other) counts sums) where
      none : any_unsent q lead.to 0 (items_of s) ≡ false
      none = or_right (items_barred terms (items_of s)) (any_unsent q lead.to 0 (items_of s)) S.0

      pub items_derived : any_underived q 0 (rows_from 1 (lines s)) ≡ false
      items_derived = sent_derived q lead.to s none

      past_31 : refusal ≡ by false mixes large short
      past_31 = ap (λ (a : Bool). by a mixes large short) (sym asked ∙ S.0)

      mixing : other ≡ mixes
      mixing = S.1 ∙ same_mixed q (items_of s) lead L

      pub items_mixed : other ≡ true → Answers refusal file before (Err Mixed) before
      items_mixed e = refused (Err Mixed) (sym (past_31 ∙ ap (λ (b : Bool). by false b large short) (sym mixing ∙ e))) (omega arith) (λ old. refl)

      module _ (e : other ≡ false) (n : ℕ) (k : n ≡ length (items_of s)) (b : n ≤ 30000) where
        past_32 : refusal ≡ by false false large short
        past_32 = past_31 ∙ ap (λ (b : Bool). by false b large short) (sym mixing ∙ e)

        abbrev sent : List ℕ
        sent = sent_file s q certis day n lead.to counts sums

        same_large : any_of is_large_sum sums ≡ any_of is_large_sum (sums_out q (items_of s))
        same_large = ap (any_of is_large_sum) S.3 ∙ large_same q (items_of s)

        same_file : any_of is_large_sum sums ≡ false → sent ≡ file
        unfolding sent_file output_file
        same_file z =
            let cs = S.2 ∙ counts_whole q (items_of s) (omega (arith, k, b)) in
            let ss = S.3 ∙ sums_whole q (items_of s) (sym (ap (any_of is_large_sum) S.3) ∙ z) in
            (λ i. file_of (texts_from q 0 0 (rows_from 1 (lines s)) ++ (heading_text (closing_heading certis day (to i)) ∷ closing_texts q.start (q.start + (k i - 1)) (cs i) (ss i))))

        pub items_sent : {r : Result ℕ DeliverError} {after : List ℕ} → Answers (first (lines_refusals (any_of is_large_sum sums) sent (length before))) sent before r after → Answers refusal file before r after
        items_sent {r} {after} = go (any_of is_large_sum sums) refl
          where
            go : (t : Bool) → any_of is_large_sum sums ≡ t → Answers (first (lines_refusals t sent (length before))) sent before r after → Answers refusal file before r after
            go true z A =
                answers_as (sym (past_32 ∙ ap (λ (c : Bool). by false false (c || ltb 4000000000 (length file)) short) (sym same_large ∙ z))) (λ y. absurd (omega (arith, y))) A
            go false z A =
                answers_as
                ((λ i. first (lines_refusals false (same_file z i) (length before))) ∙ sym (past_32 ∙ ap (λ (c : Bool). by false false (c || ltb 4000000000 (length file)) short) (sym same_large ∙ z)))
                (λ _. same_file z) A
