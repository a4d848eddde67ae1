-- What the first item says of all is what all are asked by; and items that are sent can be derived.
use Prim.Native.Nat.{ℕ, suc, ◌≤◌}
use native.Mathlib.Omega.{arith}
use mathlib.Core.Path.{◌≡◌, refl, ◌∙◌}
use mathlib.Core.Bool.{true, false, not, ◌||◌}
use mathlib.Core.List.{List, [], ◌∷◌}
use lib.Dec.{eqb}
use lib.ListN.{length}
use Rattle.laws.proofs.Any.{or_left, or_right}
use Rattle.lines.specs.Lines.{lines}
use Rattle.rules.specs.Rows.{rows_from}
use Rattle.rules.specs.Tree.{Item}
use Rattle.outgoing_lines.specs.Outgoing.{Orders, underived, any_underived, items_underived}
use Rattle.outgoing_lines.proofs.Items.{any_items}
use Rattle.surveying.specs.declared.Lead.{Lead}
use Rattle.rules.specs.Terms.{is_code}
use Rattle.surveying.specs.Items.{items_of, head_text, goes_to, first_to, unsent, any_unsent, any_mixes, mixed}
use Rattle.surveying.specs.Model.{LeadsIf}
use Rattle.std.specs.Prelude.{None, Some}

module _ (q : Orders) where
  -- the first is refused by deriving: then it is not sent, whoever the others go to
  pub first_refused : (to : ℕ) (is : List Item) → 1 ≤ length is → LeadsIf q is None → any_unsent q to 0 is ≡ true
  unfolding any_unsent
  first_refused to [] h e = absurd (omega arith)
  first_refused to (i ∷ is) h e = rw e

  -- it is not: then the recipient and the class are the first one's
  pub same_to : (is : List Item) (lead : Lead) → 1 ≤ length is → LeadsIf q is (Some lead) → lead.to ≡ first_to q is
  same_to [] lead h L = absurd (omega arith)
  same_to (i ∷ is) lead h L = L.1

  pub same_mixed : (is : List Item) (lead : Lead) → LeadsIf q is (Some lead) → any_mixes q lead.priority lead.alone 0 is ≡ mixed q is
  unfolding any_mixes
  same_mixed [] lead L = refl
  same_mixed (i ∷ is) lead L = (λ j. any_mixes q (L.2 j) (L.3 j) 0 (i ∷ is))

  -- ---- where all are sent, all can be derived
  derived_first : (to k : ℕ) (i : Item) (is : List Item) → any_unsent q to k (i ∷ is) ≡ false → underived q k (head_text i) ≡ false
  unfolding any_unsent
  derived_first to k i is e =
      or_left (underived q k (head_text i)) (not (is_code (goes_to q k i)) || not (eqb (goes_to q k i) to)) (or_left (unsent q to k i) (any_unsent q to (suc k) is) e)

  items_derived : (to k : ℕ) (is : List Item) → any_unsent q to k is ≡ false → items_underived q k is ≡ false
  unfolding any_unsent items_underived
  items_derived to k [] e = refl
  items_derived to k (i ∷ is) e =
      rw (derived_first to k i is e) (items_derived to (suc k) is (or_right (unsent q to k i) (any_unsent q to (suc k) is) e))

  pub sent_derived : (to : ℕ) (s : List ℕ) → any_unsent q to 0 (items_of s) ≡ false → any_underived q 0 (rows_from 1 (lines s)) ≡ false
  unfolding items_of
  sent_derived to s e = any_items q 0 (rows_from 1 (lines s)) ∙ items_derived to 0 (items_of s) e
