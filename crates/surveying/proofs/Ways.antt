-- Where an item goes, by the two steps of deriving.
use Prim.Native.Nat.{ℕ, ◌<◌}
use native.Mathlib.Omega.{arith}
use mathlib.Core.Path.{◌≡◌, refl, ap, ◌∙◌}
use mathlib.Core.Bool.{Bool, true, false, cond, not, ◌&&◌, ◌||◌, and-false, true≢false}
use mathlib.Core.List.{List, ◌∷◌, ◌++◌}
use lib.Dec.{eqb, leb}
use borrow.Author.Tests.{eqb-true, lt-leb}
use Rattle.laws.specs.Refusals.{◌if◌, first}
use Rattle.laws.proofs.Refusals.{none_applies}
use Rattle.headings.specs.declared.Heading.{Heading}
use Rattle.headings.specs.Reading.{heading_of}
use Rattle.headings.specs.ItemTypes.{is_closing, is_input, is_trilateral, is_priority, is_payment}
use Rattle.headings.specs.HeadRules.{rule10, rule13, rule14}
use Rattle.outcome_tables.specs.Outcomes.{in_class}
use Rattle.turning.specs.Turning.{barred, barred_to, is_outcome, is_standing, is_missing, turned, turn_refusals}
use Rattle.outcomes.specs.Deriving.{issue_refusals, tell_refusals, number_refusals, derive_refusals, outgoing_kind, recipient}
use Rattle.outgoing_lines.specs.Outgoing.{Orders, as_derived, outcome_at, underived}
use Rattle.surveying.specs.declared.Way.{Way}
use Rattle.surveying.specs.Model.{refusal_of, way_to, way_of, Asks}
use Rattle.std.specs.Prelude.{None, Option, Some}

-- a number of more than seven digits is in no class
large_class : (kind n : ℕ) → 9999999 < n → in_class kind n ≡ false
unfolding in_class
large_class kind n l = go (eqb kind 44) (is_priority kind)
  where
    past : (a b : ℕ) → b < n → (leb a n && leb n b) ≡ false
    past a b h = ap (λ (t : Bool). leb a n && t) (lt-leb n b h) ∙ and-false (leb a n)

    go : (x y : Bool) → cond x (leb 9000001 n && leb n 9999999) (cond y (leb 5000001 n && leb n 9000000) (leb 1 n && leb n 5000000)) ≡ false
    go true y = past 9000001 9999999 l
    go false true = past 5000001 9000000 (omega arith)
    go false false = past 1 5000000 (omega arith)

module _ (h : Heading) (o p n : ℕ) where
  abbrev steps : Bool → Bool → Bool → ℕ
  steps a b c = first ((12 if a) ∷ (13 if b) ∷ (14 if c) ∷ issue_refusals h.kind (record { 0 = n }) 54)

  -- not in its class: one of the two steps refuses
  pub no_class : in_class h.kind n ≡ false → way_of h o p n ≡ None
  no_class e = go (barred_to p h) (not (is_outcome (as_derived o) && is_standing p)) (is_missing p h.kind (as_derived o))
    where
      go : (a b c : Bool) → cond (eqb (steps a b c) 0) (Some (way_to (turned h (as_derived o)))) None ≡ None
      go true b c = refl
      go false true c = refl
      go false false true = refl
      go false false false = rw e

  pub too_large : 9999999 < n → way_of h o p n ≡ None
  too_large l = no_class (large_class h.kind n l)

-- ---- what an answer says
module _ (h : Heading) (o p n : ℕ) where
  pub way_none : way_of h o p n ≡ None → eqb (refusal_of h o p n) 0 ≡ false
  way_none = go (eqb (refusal_of h o p n) 0)
    where
      go : (b : Bool) → ◌≡◌ {A = Option Way} (cond b (Some (way_to (turned h (as_derived o)))) None) None → b ≡ false
      go true e = absurd (cc)
      go false e = refl

  pub way_some : (way : Way) → way_of h o p n ≡ Some way → (eqb (refusal_of h o p n) 0 ≡ true) × (way ≡ way_to (turned h (as_derived o)))
  way_some way = go (eqb (refusal_of h o p n) 0)
    where
      go : (b : Bool) → ◌≡◌ {A = Option Way} (cond b (Some (way_to (turned h (as_derived o)))) None) (Some way) → (b ≡ true) × (way ≡ way_to (turned h (as_derived o)))
      go true e = (refl, cc)
      go false e = absurd (cc)

  -- what is sent is a payment
  pub sent_pays : eqb (refusal_of h o p n) 0 ≡ true → is_payment h.kind ≡ true
  unfolding barred_to barred rule10 is_payment
  sent_pays e = go (is_closing h.kind) (is_input h.kind) (none_applies (turn_refusals h (as_derived o) p ++ issue_refusals h.kind (record { 0 = n }) 54) tt (eqb-true (refusal_of h o p n) 0 e)).0
    where
      go : (c i : Bool) → ((c || (not i || (rule13 h || rule14 h))) || (eqb p 2 && not (is_trilateral h.kind))) ≡ false → (i && not c) ≡ true
      go true i w = absurd (true≢false w)
      go false true w = refl
      go false false w = absurd (true≢false w)

-- ---- of an item's heading
-- one that does not read is refused
pub unread_refused : (q : Orders) (k : ℕ) (text : List ℕ) → heading_of text ≡ None → underived q k text ≡ true
unfolding underived derive_refusals tell_refusals number_refusals
unread_refused q k text e = rw e

module _ (q : Orders) (k : ℕ) {o p n : ℕ} (A : Asks q k o p n) (text : List ℕ) (h : Heading) (e : heading_of text ≡ Some h) where
  pub refused_by : underived q k text ≡ not (eqb (refusal_of h o p n) 0)
  unfolding underived derive_refusals tell_refusals number_refusals
  refused_by = rw (e, A.outcome, A.standing, A.number)

  pub kind_by : outgoing_kind text (as_derived (outcome_at q k)) ≡ (turned h (as_derived o)).kind
  unfolding outgoing_kind
  kind_by = rw (e, A.outcome)

  pub to_by : recipient text (as_derived (outcome_at q k)) ≡ (turned h (as_derived o)).second.0
  unfolding recipient
  to_by = rw (e, A.outcome)
