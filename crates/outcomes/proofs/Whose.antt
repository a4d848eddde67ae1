-- Whose item it was: a derived heading comes from one input heading only, but for an 01 and a 21 that were both returned as 61 or both
-- as 71, all else being equal.
use mathlib.Core.Path.{◌≡◌, refl, sym, ap, ◌∙◌}
use mathlib.Core.Bool.{Bool, true, false, cond, not, ◌&&◌, ◌||◌, true≢false}
use mathlib.Core.List.{List}
use mathlib.Core.Logic.{◌⊎◌, inl, inr}
use Prim.Native.Nat.{ℕ, ◌≤◌}
use native.Mathlib.Omega.{arith}
use lib.ListN.{length, take}
use lib.Dec.{eqb}
use borrow.Author.Tests.{not-false, eqb-true, eqb-false}
use Rattle.laws.specs.Refusals.{first}
use Rattle.headings.specs.declared.Code.{Code}
use Rattle.headings.specs.declared.ItemNo.{ItemNo}
use Rattle.headings.specs.declared.Heading.{Heading}
use Rattle.headings.specs.ItemTypes.{is_closing, is_input, is_trilateral}
use Rattle.headings.specs.HeadRules.{rule10, rule13, rule14}
use Rattle.headings.specs.Reading.{heading_of}
use Rattle.heading_writer.specs.Writing.{heading_text as headingTextOf}
use Rattle.heading_writer.proofs.RoundTrips.{written_read}
use Rattle.outcome_tables.specs.declared.Codes.{Codes}
use Rattle.outcomes.specs.declared.DeriveError.{DeriveError}
use Rattle.outcome_tables.specs.Outcomes.{outgoing, codes, in_class, returned}
use Rattle.outcomes.specs.Whose.{of_type, Twins, OneItem}
use Rattle.turning.specs.Turning.{barred, barred_to, withheld, turned}
use Rattle.outcomes.specs.Deriving.{numbered, tell_refusals, outgoing_kind, derived_number, derive_refusals, derived_target, Derives}
use Rattle.laws.proofs.Any.{or_left, or_right}
use Rattle.outcome_tables.proofs.Seven.{seven}
use Rattle.turning.proofs.Steps.{one_of_seven}
use Rattle.outcomes.proofs.Granted.{Granted, granted}
use Rattle.outcomes.proofs.Telling.{kind_is}
use Rattle.outcomes.proofs.Sound.{derived_reads}
use Rattle.outcome_tables.proofs.Origins.{one_class, one_origin}
use Rattle.std.specs.Prelude.{None, Option, Some, Result}

-- ---- the codes back again
module _ (x y z x' y' z' : Code) where
  abbrev Back : Bool → ℕ → Type 0
  Back b o = codes b o x y z ≡ codes b o x' y' z' → (x ≡ x') × (y ≡ y') × ((b ≡ false) ⊎ (z ≡ z'))

  back_three : (o : ℕ) → 1 ≤ o → o ≤ 7 → Back true o
  unfolding codes
  back_three = seven (Back true)
      (λ e. (ap (λ (c : Codes). c.first) e, ap (λ (c : Codes). c.third) e, inr (ap (λ (c : Codes). c.second) e)))
      (λ e. (ap (λ (c : Codes). c.first) e, ap (λ (c : Codes). c.third) e, inr (ap (λ (c : Codes). c.second) e)))
      (λ e. (ap (λ (c : Codes). c.first) e, ap (λ (c : Codes). c.second) e, inr (ap (λ (c : Codes). c.third) e)))
      (λ e. (ap (λ (c : Codes). c.first) e, ap (λ (c : Codes). c.second) e, inr (ap (λ (c : Codes). c.third) e)))
      (λ e. (ap (λ (c : Codes). c.second) e, ap (λ (c : Codes). c.first) e, inr (ap (λ (c : Codes). c.third) e)))
      (λ e. (ap (λ (c : Codes). c.second) e, ap (λ (c : Codes). c.first) e, inr (ap (λ (c : Codes). c.third) e)))
      (λ e. (ap (λ (c : Codes). c.second) e, ap (λ (c : Codes). c.first) e, inr (ap (λ (c : Codes). c.third) e)))

  back_two : (o : ℕ) → 1 ≤ o → o ≤ 7 → Back false o
  unfolding codes
  back_two =
      let kept : (codes false 1 x y z ≡ codes false 1 x' y' z') → (x ≡ x') × (y ≡ y') × ((false ≡ false) ⊎ (z ≡ z')) = λ e. (ap (λ (c : Codes). c.first) e, ap (λ (c : Codes). c.second) e, inl refl) in
      let sent : (codes false 6 x y z ≡ codes false 6 x' y' z') → (x ≡ x') × (y ≡ y') × ((false ≡ false) ⊎ (z ≡ z')) = λ e. (ap (λ (c : Codes). c.first) e, ap (λ (c : Codes). c.third) e, inl refl) in
      seven (Back false) kept kept kept kept kept sent sent

  back : (b : Bool) (o : ℕ) → 1 ≤ o → o ≤ 7 → Back b o
  back true o l h = back_three o l h
  back false o l h = back_two o l h

-- ---- what a heading has from which one was derived
record Derivable (h : Heading) (o : ℕ) (n : ItemNo) : Type 0 where
  pub least : 1 ≤ o
  pub most : o ≤ 7
  pub some : outgoing h.kind o ≡ 0 → ⊥
  pub in_class_lem : in_class h.kind n.0 ≡ true
  pub no_output : h.output.0 ≡ 0
  pub no_third : is_trilateral h.kind ≡ false → h.third.0 ≡ 0

no_third_code : (i e t z : Bool) → not i ≡ false → (i && (e || cond t z (not z))) ≡ false → t ≡ false → z ≡ true
no_third_code false e t z q r w = absurd (true≢false q)
no_third_code true true t z q r w = absurd (true≢false r)
no_third_code true false true z q r w = absurd (true≢false w)
no_third_code true false false true q r w = refl
no_third_code true false false false q r w = absurd (true≢false r)

derivable : (h : Heading) (o p : ℕ) (n : ItemNo) → Granted h o p n → Derivable h o n
unfolding barred barred_to rule10 rule13 rule14
derivable h o p n g =
    let v = one_of_seven o g.outcome in
    let b = or_right (is_closing h.kind) (rule10 h || (rule13 h || rule14 h)) (or_left (barred h) (eqb p 2 && not (is_trilateral h.kind)) g.open_to) in
    let d = or_right (rule10 h) (rule13 h || rule14 h) b in
    record {
      least = v.0;
      most = v.1;
      some = eqb-false _ 0 (or_left (eqb (outgoing h.kind o) 0) (withheld p h.kind o) g.entry);
      in_class_lem = g.in_class_lem;
      no_output = eqb-true _ 0 (not-false _ (or_left (rule13 h) (rule14 h) d));
      no_third = λ t.
          eqb-true _ 0
          (no_third_code (is_input h.kind) (eqb h.second.0 0) (is_trilateral h.kind) (eqb h.third.0 0)
          (or_left (rule10 h) (rule13 h || rule14 h) b) (or_right (rule13 h) (rule14 h) d) t);
    }

-- ---- the theorem, of headings
abbrev Whose : Heading → Heading → ℕ → Type 0
Whose h g e = (h ≡ g) ⊎ ((returned e ≡ true) × Twins h g)

bilateral_twin : (k : ℕ) → (k ≡ 01) ⊎ (k ≡ 21) → is_trilateral k ≡ false
unfolding is_trilateral
bilateral_twin k (inl e) = rw e
bilateral_twin k (inr e) = rw e

module _ (h g : Heading) (o p : ℕ) (n m : ItemNo) (H : Derivable h o n) (G : Derivable g p m) (same : numbered (turned h o) n ≡ numbered (turned g p) m) where
  number : n.0 ≡ m.0
  number = ap (λ (x : Heading). x.output.0) same

  origin : (o ≡ p) × ((h.kind ≡ g.kind) ⊎ (returned (outgoing h.kind o) ≡ true) × (((h.kind ≡ 01) × (g.kind ≡ 21)) ⊎ ((h.kind ≡ 21) × (g.kind ≡ 01))))
  unfolding turned
  origin =
      one_origin h.kind o g.kind p H.least H.most G.least G.most H.some (ap (λ (x : Heading). x.kind) same)
      (one_class h.kind g.kind m.0 (rw number at H.in_class_lem) G.in_class_lem)

  like : is_trilateral h.kind ≡ is_trilateral g.kind
  like = go origin.1
    where
      go : ((h.kind ≡ g.kind) ⊎ (returned (outgoing h.kind o) ≡ true) × (((h.kind ≡ 01) × (g.kind ≡ 21)) ⊎ ((h.kind ≡ 21) × (g.kind ≡ 01)))) → is_trilateral h.kind ≡ is_trilateral g.kind
      go (inl e) = ap is_trilateral e
      go (inr (a, inl e)) = bilateral_twin h.kind (inl e.0) ∙ sym (bilateral_twin g.kind (inr e.1))
      go (inr (a, inr e)) = bilateral_twin h.kind (inr e.0) ∙ sym (bilateral_twin g.kind (inl e.1))

  coded_alike : codes (is_trilateral h.kind) o h.first h.second h.third ≡ codes (is_trilateral h.kind) o g.first g.second g.third
  unfolding turned
  coded_alike =
      (λ i. record { first = (same i).first; second = (same i).second; third = (same i).third })
      ∙ sym (λ i. codes (like i) (origin.0 i) g.first g.second g.third)

  parts : (h.first ≡ g.first) × (h.second ≡ g.second) × (h.third ≡ g.third)
  parts =
      let b = back h.first h.second h.third g.first g.second g.third (is_trilateral h.kind) o H.least H.most coded_alike in
      (b.0, b.1, go b.2)
    where
      go : ((is_trilateral h.kind ≡ false) ⊎ (h.third ≡ g.third)) → h.third ≡ g.third
      go (inl t) = λ i. record { 0 = (H.no_third t ∙ sym (G.no_third (sym like ∙ t))) i }
      go (inr e) = e

  but_type : (k j : ℕ) → k ≡ j → of_type k h ≡ of_type j g
  unfolding turned
  but_type k j e = λ i. record {
    kind = e i;
    day = (same i).day;
    first = parts.0 i;
    number = (same i).number;
    second = parts.1 i;
    output = record { 0 = (H.no_output ∙ sym G.no_output) i };
    third = parts.2 i;
  }

  -- one heading, or the two of the exception
  whose_heading : Whose h g (outgoing h.kind o)
  whose_heading = go origin.1
    where
      go : ((h.kind ≡ g.kind) ⊎ (returned (outgoing h.kind o) ≡ true) × (((h.kind ≡ 01) × (g.kind ≡ 21)) ⊎ ((h.kind ≡ 21) × (g.kind ≡ 01)))) → Whose h g (outgoing h.kind o)
      go (inl e) = inl (but_type h.kind g.kind e)
      go (inr (a, inl e)) = inr (a, inl (e.0, sym (but_type 21 g.kind (sym e.1))))
      go (inr (a, inr e)) = inr (a, inr (e.1, but_type h.kind 21 e.0))

-- ---- the theorem, of deriving
-- two texts that read, under any outcomes, standings and output numbers, with the same 54 bytes derived
module _ (s s' : List ℕ) (o o' p p' : ℕ) (n n' : ItemNo) (t t' : List ℕ) (z : first (derive_refusals s o p n (length t)) ≡ 0)
    (z' : first (derive_refusals s' o' p' n' (length t')) ≡ 0) (same : take 54 (derived_target s o p n t) ≡ take 54 (derived_target s' o' p' n' t')) where
  module _ (h g : Heading) (r : heading_of s ≡ Some h) (r' : heading_of s' ≡ Some g) where
    heading_alike : numbered (turned h o) n ≡ numbered (turned g o') n'
    heading_alike =
        let e : Some (numbered (turned h o) n) ≡ Some (numbered (turned g o') n') =
        sym (derived_reads s o p n t h r z) ∙ ap heading_of same ∙ derived_reads s' o' p' n' t' g r' z' in
        cc

    kind_told : outgoing h.kind o ≡ outgoing_kind s o
    unfolding turned
    kind_told = sym (kind_is s o p h r)

    one_item : OneItem s s' (outgoing_kind s o)
    one_item =
        let a = derivable h o p n (granted s o p n (length t) h r z) in
        let b = derivable g o' p' n' (granted s' o' p' n' (length t') g r' z') in
        go (whose_heading h g o o' n n' a b heading_alike)
      where
        go : Whose h g (outgoing h.kind o) → OneItem s s' (outgoing_kind s o)
        go (inl e) = inl (sym (written_read s h r) ∙ (λ i. headingTextOf (e i)) ∙ written_read s' g r')
        go (inr e) = inr record { one = h; other = g; reads = r; other_reads = r'; was_returned = rw (← kind_told) e.0; twins = e.1 }

  of_texts : OneItem s s' (outgoing_kind s o)
  unfolding derive_refusals tell_refusals
  of_texts = go (heading_of s) (heading_of s') refl refl
    where
      go : (x y : Option Heading) → heading_of s ≡ x → heading_of s' ≡ y → OneItem s s' (outgoing_kind s o)
      go None y e e' = absurd (let f : 11 ≡ 0 = rw e at z in omega (arith, f))
      go (Some h) None e e' = absurd (let f : 11 ≡ 0 = rw e' at z' in omega (arith, f))
      go (Some h) (Some g) e e' = one_item h g e e'

-- two answers of deriving that refuse nothing and leave the same 54 bytes
pub whose : {s s' : List ℕ} {o o' p p' : ℕ} {n n' : ItemNo} {t₀ t₀' t t' : List ℕ} {d d' : Result (Unit {0}) DeriveError} → Derives s o p n t₀ d t → Derives s' o' p' n' t₀' d' t'
    → derived_number d ≡ 0 → derived_number d' ≡ 0 → take 54 t ≡ take 54 t' → OneItem s s' (outgoing_kind s o)
whose {s} {s'} {o} {o'} {p} {p'} {n} {n'} {t₀} {t₀'} D E z z' same =
    of_texts s s' o o' p p' n n' t₀ t₀' (sym D.number ∙ z) (sym E.number ∙ z')
    (sym (ap (take 54) D.target) ∙ same ∙ ap (take 54) E.target)
