-- One item: it is not sent, or it counts in the group of its derived type.
use Prim.Native.Nat.{ℕ, suc}
use mathlib.Core.Path.{◌≡◌, sym, ap, ◌∙◌}
use mathlib.Core.Bool.{Bool, true, false, cond, not, ◌||◌, or-true, true≢false}
use mathlib.Core.List.{List}
use lib.Dec.{eqb}
use lib.ListN.{drop}
use Rattle.headings.specs.declared.Heading.{Heading}
use Rattle.headings.specs.Reading.{heading_of}
use Rattle.headings.specs.ItemTypes.{is_priority, group_of}
use Rattle.rules.specs.declared.First.{First}
use Rattle.rules.specs.declared.Payment.{Payment}
use Rattle.rules.specs.Terms.{Terms}
use Rattle.rules.specs.Rows.{Row}
use Rattle.rules.specs.Tree.{Owned, Item}
use Rattle.rules.specs.Said.{continued, head_of}
use Rattle.rules.specs.Blocks.{with_amount}
use Rattle.rules.specs.BlockRules.{unlike}
use Rattle.blocks.specs.Model.{count_cap, sum_cap}
use Rattle.group_sums.specs.Model.{plus_at}
use Rattle.item_reader.specs.Slips.{file_from}
use Rattle.vetting.specs.declared.Taken.{Taken}
use Rattle.vetting.specs.Vetting.{item_barred, Takes}
use Rattle.outgoing_lines.specs.Outgoing.{Orders, as_derived, underived}
use Rattle.turning.specs.Turning.{turned}
use Rattle.surveying.specs.declared.Way.{Way}
use Rattle.surveying.specs.declared.Lead.{Lead}
use Rattle.surveying.specs.Items.{head_text, type_in, in_kind, is_alone, out_kind, goes_to, unsent, amounts_out}
use Rattle.surveying.specs.Model.{way_to, way_of, Asks, strays, StopsAt, GoesOn, Steps}
use Rattle.surveying.proofs.Ways.{way_none, way_some, sent_pays, refused_by, kind_by, to_by}
use Rattle.std.specs.Prelude.{None, Option, Some}

-- a heading that reads reads by its own line
head_text_lem : (g : Owned Row) (h : Heading) → head_of g ≡ Some h → heading_of g.owner.bytes ≡ Some h
unfolding head_of
head_text_lem g h e = go (continued g.below) e
  where
    reading : Option Heading → Bool
    reading (Some h) = true
    reading None = false

    go : (b : Bool) → cond b None (heading_of g.owner.bytes) ≡ Some h → heading_of g.owner.bytes ≡ Some h
    go true w = absurd (true≢false (sym (ap reading w)))
    go false w = w

module _ (q : Orders) (terms : Terms) (lead : Lead) (s : List ℕ) (at k : ℕ) (counts sums : List ℕ) where
  -- a line bars it
  pub step_barred : Takes terms s at None → (n : ℕ) → StopsAt q terms lead s at k counts sums n
  step_barred T n =
      let x = T n in
      (x.0, x.1.0, x.1.1, ap (λ (t : Bool). t || unsent q lead.to k x.0) x.2)

  module _ {o p m : ℕ} (A : Asks q k o p m) (t : Taken) (T : Takes terms s at (Some t)) where
    abbrev h : Heading
    h = t.heading

    not_sent : ((i : Item) → heading_of (head_text i) ≡ Some h → unsent q lead.to k i ≡ true) → (n : ℕ) → StopsAt q terms lead s at k counts sums n
    not_sent f n =
        let x = T.0 n in
        let i = x.0 in
        let u = f i (head_text_lem i.head h x.3) in
        (i, (file_from x.1.below (drop t.next s)).items, x.1.cut, ap (λ (t : Bool). item_barred terms i || t) u ∙ or-true (item_barred terms i))

    -- deriving refuses it
    pub step_refused : way_of h o p m ≡ None → (n : ℕ) → StopsAt q terms lead s at k counts sums n
    step_refused w =
        not_sent (λ i e. ap (λ (t : Bool). t || strays lead.to (goes_to q k i)) (refused_by q k A (head_text i) h e ∙ ap not (way_none h o p m w)))

    module _ (way : Way) (w : way_of h o p m ≡ Some way) where
      abbrev to_turned : way ≡ way_to (turned h (as_derived o))
      to_turned = (way_some h o p m way w).1

      to_is : (i : Item) → heading_of (head_text i) ≡ Some h → way.to ≡ goes_to q k i
      unfolding goes_to
      to_is i e = ap (λ (x : Way). x.to) to_turned ∙ sym (to_by q k A (head_text i) h e)

      kind_is : (i : Item) → heading_of (head_text i) ≡ Some h → way.kind ≡ out_kind q k i
      unfolding out_kind
      kind_is i e = ap (λ (x : Way). x.kind) to_turned ∙ sym (kind_by q k A (head_text i) h e)

      -- it goes to another house, or to none
      pub step_strays : strays lead.to way.to ≡ true → (n : ℕ) → StopsAt q terms lead s at k counts sums n
      step_strays b =
          not_sent (λ i e. ap (λ (t : Bool). underived q k (head_text i) || t) (ap (strays lead.to) (sym (to_is i e)) ∙ b) ∙ or-true (underived q k (head_text i)))

      -- it is sent
      pub step_on : {counts' sums' : List ℕ} → strays lead.to way.to ≡ false → counts' ≡ plus_at count_cap counts (group_of way.kind) 1 → sums' ≡ plus_at sum_cap sums (group_of way.kind) t.amount.0
          → Steps q terms lead s at k counts sums (Some (record { next = t.next; differs = unlike (is_priority h.kind) lead.priority || unlike (is_alone way.kind) lead.alone })) counts' sums'
      unfolding amounts_out
      step_on {counts'} {sums'} b c d = (on, T.1, T.2, T.3)
        where
          on : (n : ℕ) → GoesOn q terms lead s at k counts sums t.next (unlike (is_priority h.kind) lead.priority || unlike (is_alone way.kind) lead.alone) counts' sums' n
          on n =
              let x = T.0 n in
              let i = x.0 in
              let e = head_text_lem i.head h x.3 in
              let g = way_some h o p m way w in
              let y = x.4 (sent_pays h o p m g.0) in
              record {
                item = i;
                place = x.1;
                clean = x.2;
                sent = ap (λ (t : Bool). t || strays lead.to (goes_to q k i)) (refused_by q k A (head_text i) h e ∙ ap not g.0) ∙ ap (strays lead.to) (sym (to_is i e)) ∙ b;
                mixing = ap (λ (r : Option Heading). unlike (is_priority (type_in r)) lead.priority || unlike (is_alone way.kind) lead.alone) (sym e)
                    ∙ ap (λ (j : ℕ). unlike (is_priority (in_kind i)) lead.priority || unlike (is_alone j) lead.alone) (kind_is i e);
                amount = t.amount.0;
                paid = λ r is. ap (λ (kc : First Payment). with_amount kc (eqb (group_of (out_kind q k i)) r) (amounts_out q r (suc k) is)) y.1;
                counted = c ∙ ap (λ (j : ℕ). plus_at count_cap counts (group_of j) 1) (kind_is i e);
                summed = d ∙ ap (λ (j : ℕ). plus_at sum_cap sums (group_of j) t.amount.0) (kind_is i e);
              }
