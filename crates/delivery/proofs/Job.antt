-- Writing an output file, by its tests in order.
use Prim.Native.Nat.{ℕ, ◌≤◌, ◌<◌, min}
use native.Mathlib.Omega.{arith}
use mathlib.Core.Path.{◌≡◌, refl, sym, ap, ◌∙◌}
use mathlib.Core.Bool.{Bool, true, false, not, ◌||◌, or-true, true≢false}
use mathlib.Core.List.{List, [], ◌∷◌}
use lib.Dec.{eqb, ltb}
use lib.ListN.{length}
use borrow.Author.Tests.{eq-eqb, ltb-true, ltb-false, lt-ltb}
use Rattle.laws.proofs.Truth.{by_test}
use Rattle.laws.specs.Ascii.{ascii}
use Rattle.laws.specs.Refusals.{Refusal, ◌if◌, first}
use Rattle.laws.proofs.Any.{or_left, or_right}
use Rattle.text.specs.Strings.{begins}
use Rattle.lines.specs.Lines.{Line}
use Rattle.lines.specs.Reading.{line_at, span}
use Rattle.lines.proofs.Lines.{lines_none}
use Rattle.lines.proofs.Reading.{is_next}
use Rattle.fields.specs.Kinds.{kind_of}
use Rattle.rules.specs.Terms.{is_code, is_accounting_day, input}
use Rattle.rules.specs.Rows.{rows_from}
use Rattle.rules.specs.Tree.{Item, tree}
use Rattle.item_reader.specs.Slips.{Headed}
use Rattle.item_reader.proofs.Starts.{kind_told, heading_told, heading_not}
use Rattle.outgoing_lines.specs.Outgoing.{Orders}
use Rattle.surveying.specs.Items.{items_of, first_to, any_unsent, mixed}
use Rattle.surveying.proofs.Leading.{unheaded_barred}
use Rattle.std.specs.Prelude.{Result, Err}
use Rattle.delivery.specs.declared.DeliverError.{DeliverError}
use Rattle.delivery.specs.declared.DeliverError.TheVariants.{BadCode, BadDay, NotItems, NotSent}
use Rattle.delivery.specs.Delivery.{output_file, not_items, not_sent, too_large, deliver_refusals, Delivers}
use Rattle.delivery.specs.Model.{Answers, items_refusals}
use Rattle.delivery.proofs.Answered.{refused, answers_as}

-- the test of the counts, of a count that stops a step past the most that there may be
abbrev tested : ℕ → ℕ → ℕ → Bool
tested n a b = eqb n 0 || (ltb 30000 n || (not (eqb a n) || not (eqb b n)))

many : (n a b : ℕ) → 30000 < n → tested n a b ≡ true
many n a b h = ap (λ (t : Bool). eqb n 0 || (t || (not (eqb a n) || not (eqb b n)))) (lt-ltb 30000 n h) ∙ or-true (eqb n 0)

same_test : (n k a b : ℕ) → n ≡ min 30001 k → tested n a b ≡ tested k a b
same_test n k a b e = by_test (ltb 30000 k)
    (λ z. let w = ltb-true 30000 k z in many n a b (omega (arith, e, w)) ∙ sym (many k a b w))
    (λ z. let w = ltb-false 30000 k z in ap (λ (m : ℕ). tested m a b) (let p : n ≡ k = omega (arith, e, w) in p))

abbrev by : Bool → Bool → Bool → List Refusal → ℕ
by a b c rs = first ((1 if a) ∷ (2 if b) ∷ (30 if c) ∷ rs)

-- a slice with items has bytes
some_bytes : (s : List ℕ) → 1 ≤ length (items_of s) → 0 < length s
unfolding items_of rows_from
some_bytes [] h = absurd (let e = ap (λ (ls : List Line). length (tree (rows_from 1 ls)).items) lines_none in omega (arith, e, h))
some_bytes (b ∷ s) h = omega arith

first_kind : (s : List ℕ) → 0 < length s → kind_of (span 0 (line_at s 0).end s) ≡ kind_of s
first_kind s l = kind_told s _ _ (is_next s 0 (line_at s 0) refl l).cut

module _ (s : List ℕ) (q : Orders) (certis day : ℕ) (before : List ℕ) where
  abbrev file : List ℕ
  file = output_file s q certis day

  abbrev items : List Item
  items = items_of s

  abbrev refusal : ℕ
  refusal = first (deliver_refusals s q certis day (length before))

  abbrev rest : List Refusal
  rest = items_refusals s q certis day (length before)

  abbrev after_31 : List Refusal
  after_31 =
      (32 if mixed q items) ∷
      (33 if too_large s q certis day) ∷
      (34 if ltb (length before) (length file)) ∷ []

  delivers : {r : Result ℕ DeliverError} {after : List ℕ} → Answers refusal file before r after → Delivers s q certis day before r after
  delivers A = record { number = A.number; written = A.written; target = A.target }

  in_order : refusal ≡ by (not (is_code certis)) (not (is_accounting_day day)) (not_items q items) rest
  unfolding deliver_refusals
  in_order = refl

  pub bad_code : is_code certis ≡ false → Delivers s q certis day before (Err BadCode) before
  bad_code e =
      delivers (refused (Err BadCode) (sym (in_order ∙ ap (λ (t : Bool). by (not t) (not (is_accounting_day day)) (not_items q items) rest) e)) (omega arith) (λ old. refl))

  module _ (c : is_code certis ≡ true) where
    past_1 : refusal ≡ by false (not (is_accounting_day day)) (not_items q items) rest
    past_1 = in_order ∙ ap (λ (t : Bool). by (not t) (not (is_accounting_day day)) (not_items q items) rest) c

    pub bad_day : is_accounting_day day ≡ false → Delivers s q certis day before (Err BadDay) before
    bad_day e = delivers (refused (Err BadDay) (sym (past_1 ∙ ap (λ (t : Bool). by false (not t) (not_items q items) rest) e)) (omega arith) (λ old. refl))

    module _ (d : is_accounting_day day ≡ true) (n : ℕ) (k : n ≡ min 30001 (length items)) where
      past_2 : refusal ≡ by false false (not_items q items) rest
      past_2 = past_1 ∙ ap (λ (t : Bool). by false (not t) (not_items q items) rest) d

      abbrev test : Bool
      test = tested n (length q.outcomes) (length q.standings)

      test_is : test ≡ not_items q items
      test_is = same_test n (length items) (length q.outcomes) (length q.standings) k

      pub no_items : test ≡ true → Delivers s q certis day before (Err NotItems) before
      no_items e = delivers (refused (Err NotItems) (sym (past_2 ∙ ap (λ (t : Bool). by false false t rest) (sym test_is ∙ e))) (omega arith) (λ old. refl))

      module _ (e : test ≡ false) where
        past_30 : refusal ≡ first rest
        past_30 = past_2 ∙ ap (λ (t : Bool). by false false t rest) (sym test_is ∙ e)

        some : n ≡ 0 → ⊥
        some z = true≢false (sym (eq-eqb n 0 z) ∙ or_left (eqb n 0) (ltb 30000 n || (not (eqb (length q.outcomes) n) || not (eqb (length q.standings) n))) e)

        few : n ≤ 30000
        few =
            ltb-false 30000 n
            (or_left (ltb 30000 n) (not (eqb (length q.outcomes) n) || not (eqb (length q.standings) n))
            (or_right (eqb n 0) (ltb 30000 n || (not (eqb (length q.outcomes) n) || not (eqb (length q.standings) n))) e))

        pub counted : (n ≡ length items) × (1 ≤ n) × (n ≤ 30000)
        counted =
            let f = few in
            let g : 1 ≤ n = (let z = some in omega (arith, z)) in
            ((omega (arith, k, f)), g, f)

        bytes : 0 < length s
        bytes = let c = counted in some_bytes s (omega (arith, c.0, c.1))

        pub not_headed : begins s (ascii "HD:") ≡ false → Delivers s q certis day before (Err NotSent) before
        not_headed z =
            let w : not_sent s q certis day ≡ true =
            ap (λ (t : Bool). t || any_unsent q (first_to q items) 0 items) (unheaded_barred s bytes (input certis day) (λ y. heading_not s z (sym (first_kind s bytes) ∙ y))) in
            delivers (refused (Err NotSent) (sym (past_30 ∙ ap (λ (t : Bool). first ((31 if t) ∷ after_31)) w)) (omega arith) (λ old. refl))

        pub headed : begins s (ascii "HD:") ≡ true → Headed s 0 × (0 < length s)
        headed z = (first_kind s bytes ∙ heading_told s z, bytes)

        pub as_items : {r : Result ℕ DeliverError} {after : List ℕ} → Answers (first rest) file before r after → Delivers s q certis day before r after
        as_items A = delivers (answers_as (sym past_30) (λ _. refl) A)
