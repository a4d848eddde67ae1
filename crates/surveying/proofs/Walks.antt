-- The walk over all items, by what is left of them.
use Prim.Native.Nat.{ℕ, suc, ◌+◌, ◌<◌, ◌≤◌}
use native.Mathlib.Omega.{arith}
use native.Mathlib.Numerals.{add-one}
use mathlib.Core.Path.{◌≡◌, refl, sym, ap, subst, ◌∙◌}
use mathlib.Core.Bool.{Bool, true, false, cond, ◌||◌, or-false, or_assoc, or_comm}
use mathlib.Core.List.{List, [], ◌∷◌}
use lib.Dec.{eqb}
use lib.ListN.{length, drop, replicate}
use Rattle.laws.specs.Lists.{sum}
use Rattle.headings.specs.ItemTypes.{group_of}
use Rattle.lines.specs.Lines.{Line}
use Rattle.lines.specs.Reading.{line_at, span}
use Rattle.lines.proofs.Lines.{lines_past}
use Rattle.lines.proofs.Reading.{is_next}
use Rattle.fields.specs.declared.kinds.Kind.{Kind}
use Rattle.rules.specs.Terms.{Terms}
use Rattle.rules.specs.Rows.{Row, sorted, sorted_as, rows_from}
use Rattle.rules.specs.Tree.{Item, item_of, ◌▹◌, tree}
use Rattle.blocks.specs.Model.{count_cap, sum_cap}
use Rattle.item_reader.specs.Slips.{file_from, Headed}
use Rattle.vetting.specs.Vetting.{item_barred}
use Rattle.outgoing_lines.specs.Outgoing.{Orders}
use Rattle.surveying.specs.declared.Lead.{Lead}
use Rattle.std.specs.Prelude.{Some}
use Rattle.surveying.specs.Items.{items_of, out_kind, unsent, any_unsent, any_mixes, amounts_out}
use Rattle.surveying.specs.Model.{StopsAt, GoesOn, items_barred, Surveys}
use Rattle.surveying.proofs.Tallies.{Tally, tally_start, tally_on, tally_end}

or_swap : (a b c d : Bool) → ((a || b) || (c || d)) ≡ ((a || c) || (b || d))
or_swap a b c d = simp or_assoc (rw (← or_assoc b c, or_comm b c, or_assoc c b))

-- a heading begins an item
item_at : (s : List ℕ) (at n : ℕ) → at < length s → Headed s at
    → (file_from n (drop at s)).items ≡ item_of (record { no = n; bytes = span at (line_at s at).end s; ended = (line_at s at).ended }) (file_from (suc n) (drop (line_at s at).next s)) ∷ (file_from (suc n) (drop (line_at s at).next s)).items
unfolding rows_from sorted
item_at s at n l h =
    let row : Row = record { no = n; bytes = span at (line_at s at).end s; ended = (line_at s at).ended } in
    ap (λ (ls : List Line). (tree (rows_from n ls)).items) (is_next s at (line_at s at) refl l).cut
    ∙ ap (λ (k : Kind). (sorted_as k row ▹ file_from (suc n) (drop (line_at s at).next s)).items) h

module _ (q : Orders) (terms : Terms) (lead : Lead) (s : List ℕ) where
  -- the numbers of group d that some items make, k above them
  abbrev count_in : ℕ → List Item → ℕ → ℕ
  count_in k is d = length (amounts_out q d k is)

  abbrev sum_in : ℕ → List Item → ℕ → ℕ
  sum_in k is d = sum (amounts_out q d k is)

  -- k items were seen, and the rest begins at a place; whatever number its first line has
  pub record Walk (at k : ℕ) (other : Bool) (counts sums : List ℕ) : Type 0 where
    pub line : ℕ
    pub left : List Item
    pub rest : (file_from line (drop at s)).items ≡ left
    pub clean : items_barred terms (items_of s) ≡ items_barred terms left
    pub sent : any_unsent q lead.to 0 (items_of s) ≡ any_unsent q lead.to k left
    pub mixing : any_mixes q lead.priority lead.alone 0 (items_of s) ≡ (other || any_mixes q lead.priority lead.alone k left)
    pub many : k + length left ≡ length (items_of s)
    pub counted : Tally count_cap (count_in k left) (count_in 0 (items_of s)) counts
    pub summed : Tally sum_cap (sum_in k left) (sum_in 0 (items_of s)) sums
    pub to : at ≤ length s
    pub headed : at < length s → Headed s at

  pub walk_start : {counts sums : List ℕ} → Headed s 0 → counts ≡ replicate 10 0 → sums ≡ replicate 10 0 → Walk 0 0 false counts sums
  unfolding items_of
  walk_start h c d = record {
    line = 1;
    left = items_of s;
    rest = refl;
    clean = refl;
    sent = refl;
    mixing = refl;
    many = omega arith;
    counted = tally_start c;
    summed = tally_start d;
    to = omega arith;
    headed = λ l. h;
  }

  module _ {at k : ℕ} {other : Bool} {counts sums : List ℕ} (w : Walk at k other counts sums) where
    -- where a heading stands an item is left
    pub some_left : at < length s → k < length (items_of s)
    some_left l = omega (arith, w.many, ap length (sym w.rest ∙ item_at s at w.line l (w.headed l)))

    -- an item is not sent
    pub walk_stops : ((n : ℕ) → StopsAt q terms lead s at k counts sums n) → (items_barred terms (items_of s) || any_unsent q lead.to 0 (items_of s)) ≡ true
    unfolding items_barred any_unsent
    walk_stops f =
        let x = f w.line in
        let e : w.left ≡ x.0 ∷ x.1 = sym w.rest ∙ x.2 in
        let i = x.0 in
        let is = x.1 in
        ap (λ (t : Bool). t || any_unsent q lead.to 0 (items_of s)) (w.clean ∙ ap (items_barred terms) e)
        ∙ ap (λ (t : Bool). (item_barred terms i || items_barred terms is) || t) (w.sent ∙ ap (any_unsent q lead.to k) e)
        ∙ or_swap (item_barred terms i) (items_barred terms is) (unsent q lead.to k i) (any_unsent q lead.to (suc k) is)
        ∙ ap (λ (t : Bool). t || (items_barred terms is || any_unsent q lead.to (suc k) is)) x.3

    -- an item is
    module _ {next : ℕ} {differs : Bool} {counts' sums' : List ℕ} (g : (n : ℕ) → GoesOn q terms lead s at k counts sums next differs counts' sums' n) where
      abbrev on : GoesOn q terms lead s at k counts sums next differs counts' sums' w.line
      on = g w.line

      abbrev after : List Item
      after = (file_from on.place.below (drop next s)).items

      left_is : w.left ≡ on.item ∷ after
      left_is = sym w.rest ∙ on.place.cut

      count_left : (d : ℕ) → count_in k w.left d ≡ cond (eqb (group_of (out_kind q k on.item)) d) (1 + count_in (suc k) after d) (count_in (suc k) after d)
      count_left d = ap (λ (is : List Item). count_in k is d) left_is ∙ ap length (on.paid d after) ∙ go (eqb (group_of (out_kind q k on.item)) d)
        where
          go : (b : Bool) → length (cond b (on.amount ∷ amounts_out q d (suc k) after) (amounts_out q d (suc k) after)) ≡ cond b (1 + count_in (suc k) after d) (count_in (suc k) after d)
          go true = omega arith
          go false = refl

      sum_left : (d : ℕ) → sum_in k w.left d ≡ cond (eqb (group_of (out_kind q k on.item)) d) (on.amount + sum_in (suc k) after d) (sum_in (suc k) after d)
      sum_left d = ap (λ (is : List Item). sum_in k is d) left_is ∙ ap sum (on.paid d after) ∙ go (eqb (group_of (out_kind q k on.item)) d)
        where
          go : (b : Bool) → sum (cond b (on.amount ∷ amounts_out q d (suc k) after) (amounts_out q d (suc k) after)) ≡ cond b (on.amount + sum_in (suc k) after d) (sum_in (suc k) after d)
          go true = refl
          go false = refl

      pub walk_on : next ≤ length s → (next < length s → Headed s next) → Walk next (k + 1) (other || differs) counts' sums'
      unfolding items_barred any_unsent any_mixes
      walk_on l h = subst (λ (j : ℕ). Walk next j (other || differs) counts' sums') (sym (add-one k)) (record {
        line = on.place.below;
        left = after;
        rest = refl;
        clean = w.clean ∙ ap (items_barred terms) left_is ∙ ap (λ (t : Bool). t || items_barred terms after) on.clean;
        sent = w.sent ∙ ap (any_unsent q lead.to k) left_is ∙ ap (λ (t : Bool). t || any_unsent q lead.to (suc k) after) on.sent;
        mixing = w.mixing
            ∙ ap (λ (is : List Item). other || any_mixes q lead.priority lead.alone k is) left_is
            ∙ ap (λ (t : Bool). other || (t || any_mixes q lead.priority lead.alone (suc k) after)) (sym on.mixing)
            ∙ sym (or_assoc other differs (any_mixes q lead.priority lead.alone (suc k) after));
        many = omega (arith, w.many, ap length left_is);
        counted = tally_on (group_of (out_kind q k on.item)) 1 (count_in (suc k) after) w.counted on.counted count_left;
        summed = tally_on (group_of (out_kind q k on.item)) on.amount (sum_in (suc k) after) w.summed on.summed sum_left;
        to = l;
        headed = h;
      })

    -- no item is left
    module _ (end : length s ≤ at) where
      none_left : w.left ≡ []
      unfolding rows_from
      none_left = sym w.rest ∙ ap (λ (ls : List Line). (tree (rows_from w.line ls)).items) (lines_past s at end)

      pub walk_end : Surveys q terms lead s (Some other) counts sums
      unfolding items_barred any_unsent any_mixes amounts_out
      walk_end = (
        ap (λ (t : Bool). t || any_unsent q lead.to 0 (items_of s)) (w.clean ∙ ap (items_barred terms) none_left) ∙ w.sent ∙ ap (any_unsent q lead.to k) none_left,
        sym (or-false other) ∙ sym (ap (λ (is : List Item). other || any_mixes q lead.priority lead.alone k is) none_left) ∙ sym w.mixing,
        tally_end w.counted (λ d. ap (λ (is : List Item). count_in k is d) none_left),
        tally_end w.summed (λ d. ap (λ (is : List Item). sum_in k is d) none_left),
      )
