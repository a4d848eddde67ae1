-- The item: its heading, and its fields.
use Prim.Native.Nat.{ℕ, suc, ◌≤◌, ◌<◌}
use native.Mathlib.Omega.{arith}
use mathlib.Core.Path.{◌≡◌, sym, ap, subst, ◌∙◌}
use mathlib.Core.Bool.{Bool, true, false, ◌&&◌, ◌||◌, true≢false, or-true}
use mathlib.Core.List.{List, [], ◌∷◌}
use lib.ListN.{length, drop}
use Rattle.lines.specs.Lines.{lines}
use Rattle.headings.specs.declared.Heading.{Heading}
use Rattle.headings.specs.declared.Amount.{Amount}
use Rattle.headings.specs.ItemTypes.{is_payment}
use Rattle.rules.specs.declared.First.{First}
use Rattle.rules.specs.declared.First.TheVariants.{Missing, Unread, Says}
use Rattle.rules.specs.declared.Payment.{Payment}
use Rattle.rules.specs.Terms.{Terms}
use Rattle.rules.specs.Rows.{FieldRow}
use Rattle.rules.specs.Tree.{Owned, Item}
use Rattle.rules.specs.HeadingRules.{no_kc, rule15}
use Rattle.rules.specs.Said.{continued, head_of}
use Rattle.item_reader.specs.Slips.{amount_of, kc_among, file_from, Headed}
use Rattle.item_reader.proofs.Passing.{kc_small}
use Rattle.vetting.specs.Vetting.{Takes}
use Rattle.vetting.specs.Parts.{owned, fields_barred, Sure, FieldsAt, HeadAt}
use Rattle.std.specs.Prelude.{None, Some}

-- a payment's first KC is there, and reads
paid : (kc : First Payment) (payment : Bool) (a : Amount) → Sure kc → (payment && no_kc kc) ≡ false → a.0 ≡ amount_of kc → payment ≡ true → (d : ℕ) × (kc ≡ Says (record { amount = a; day = d }))
paid Missing payment a w e q p = absurd (true≢false (sym (ap (λ (t : Bool). t && true) p) ∙ e))
paid Unread payment a w e q p = absurd w
paid (Says said) payment a w e q p = (said.day, λ i. Says (record { amount = record { 0 = sym q i }; day = said.day }))

module _ (terms : Terms) (h : Heading) (s : List ℕ) (at first : ℕ) (H : (n : ℕ) → HeadAt terms h s at n first) where
  abbrev fields_at : ℕ → List (Owned FieldRow)
  fields_at n = (file_from n (drop first s)).loose

  abbrev item_at : ℕ → Item
  item_at n = record { head = owned (H n).row []; fields = fields_at (suc n) }

  -- a line of its fields bars it
  pub barred_below : ((n : ℕ) → fields_barred terms h [] (fields_at n) ≡ true) → Takes terms s at None
  barred_below B n =
      (item_at n, ((file_from (suc n) (drop first s)).items, (H n).cut), (H n).left (fields_at (suc n)) ∙ ap (λ (t : Bool). rule15 h (kc_among (fields_at (suc n))) || t) (B (suc n)) ∙ or-true (rule15 h (kc_among (fields_at (suc n)))))

  module _ (kc : First Payment) (next : ℕ) (F : (n : ℕ) → FieldsAt terms h s first n kc next) where
    -- it has no KC
    pub barred_fifteen : rule15 h kc ≡ true → Takes terms s at None
    barred_fifteen e n =
        (item_at n, ((file_from (suc n) (drop first s)).items, (H n).cut), (H n).left (fields_at (suc n)) ∙ ap (λ (t : Bool). t || fields_barred terms h [] (fields_at (suc n))) (ap (rule15 h) (F (suc n)).states ∙ e))

    -- nothing bars it
    pub taken : Sure kc → rule15 h kc ≡ false → (a : Amount) → a.0 ≡ amount_of kc → at < first → first ≤ next → next ≤ length s → (next < length s → Headed s next)
        → Takes terms s at (Some (record { heading = h; amount = a; next = next }))
    unfolding head_of continued
    taken w e a q l f m g =
        let small : amount_of kc < 1000000000000000 = subst (λ (k : First Payment). amount_of k < 1000000000000000) (F 0).states (kc_small (lines (drop first s)) 0) in (
          λ n. (
            item_at n,
            record { below = (F (suc n)).below; cut = (H n).cut ∙ ap (λ (is : List Item). item_at n ∷ is) (F (suc n)).items },
            (H n).left (fields_at (suc n)) ∙ (λ i. rule15 h ((F (suc n)).states i) || (F (suc n)).sound i) ∙ ap (λ (t : Bool). t || false) e,
            (H n).reads,
            λ p. let d = paid kc (is_payment h.kind) a w e q p in (d.0, (F (suc n)).states ∙ d.1),
          ),
          omega arith,
          m,
          g,
          omega (arith, q, small),
        )
