-- The fields of an item one after the other, with the stamps of their identifiers.
use Prim.Native.Nat.{ℕ, ◌+◌, ◌<◌}
use native.Mathlib.Omega.{arith}
use mathlib.Core.Path.{◌≡◌, refl, sym, ap, ◌∙◌}
use mathlib.Core.Bool.{Bool, true, false, ◌||◌}
use mathlib.Core.List.{List, [], ◌∷◌}
use lib.Dec.{eqb}
use lib.ListN.{length, drop, get_or, set, replicate, length-set, length-replicate, get_or-replicate}
use lib.Seq.{get_or-set_same, get_or-set_other}
use borrow.Author.Tests.{eq-eqb, ne_eqb, eqb-true, eqb-false}
use Rattle.headings.specs.declared.Heading.{Heading}
use Rattle.rules.specs.declared.First.{First}
use Rattle.rules.specs.declared.First.TheVariants.{Missing, Unread, Says}
use Rattle.rules.specs.declared.Payment.{Payment}
use Rattle.rules.specs.Terms.{Terms}
use Rattle.rules.specs.Rows.{FieldRow}
use Rattle.rules.specs.Tree.{Owned}
use Rattle.rules.specs.Said.{stands, first_said}
use Rattle.items.specs.Claims.{first_of}
use Rattle.item_reader.specs.Slips.{kc_among, file_from}
use Rattle.vetting.specs.Vetting.{Stamped}
use Rattle.vetting.specs.Parts.{fields_barred, Sure, FieldAt, FieldsAt}
use Rattle.vetting.proofs.Here.{Ends}

-- ---- the first KC
kept_none : (k : First Payment) → first_of k Missing ≡ k
kept_none Missing = refl
kept_none Unread = refl
kept_none (Says p) = refl

kept_assoc : (a b c : First Payment) → first_of a (first_of b c) ≡ first_of (first_of a b) c
kept_assoc Missing b c = refl
kept_assoc Unread b c = refl
kept_assoc (Says p) b c = refl

kept_sure : (a b : First Payment) → Sure a → Sure b → Sure (first_of a b)
kept_sure Missing b p q = q
kept_sure Unread b p q = p
kept_sure (Says said) b p q = p

-- ---- stamps
abbrev pub StampedIn : List ℕ → ℕ → List (Owned FieldRow) → Type 0
StampedIn stood stamp above = (i : ℕ) → i < 1296 → eqb (get_or stood i 0) stamp ≡ stands i above

stamped_start : (stood : List ℕ) (stamp : ℕ) → Stamped stood stamp → StampedIn stood stamp []
unfolding stands
stamped_start stood stamp S i h = ne_eqb (get_or stood i 0) stamp (λ e. omega (arith, S.1 i h))

stamped_more : (stood : List ℕ) (stamp ident : ℕ) (above : List (Owned FieldRow)) (g : Owned FieldRow) → ident < length stood → g.owner.ident ≡ ident → StampedIn stood stamp above → StampedIn (set stood ident stamp) stamp (g ∷ above)
unfolding stands
stamped_more stood stamp ident above g h e S i l = go (eqb ident i) refl ∙ ap (λ (j : ℕ). eqb j i || stands i above) (sym e)
  where
    go : (t : Bool) → eqb ident i ≡ t → eqb (get_or (set stood ident stamp) i 0) stamp ≡ (t || stands i above)
    go true q =
        let z = eqb-true ident i q in
        eq-eqb (get_or (set stood ident stamp) i 0) stamp (ap (λ (j : ℕ). get_or (set stood ident stamp) j 0) (sym z) ∙ get_or-set_same stood ident stamp 0 h)
    go false q = ap (λ (v : ℕ). eqb v stamp) (get_or-set_other stood ident i stamp 0 (λ w. eqb-false ident i q (sym w))) ∙ S i l

-- every stamp is that of this item, or of one before
pub stamped_after : (stood : List ℕ) (stamp : ℕ) → Stamped stood stamp → Stamped stood (stamp + 1)
stamped_after stood stamp S = (S.0, λ i h. omega (arith, S.1 i h))

pub stamped_set : (stood : List ℕ) (stamp ident : ℕ) → ident < 1296 → Stamped stood (stamp + 1) → Stamped (set stood ident stamp) (stamp + 1)
stamped_set stood stamp ident h S = (length-set stood ident stamp ∙ S.0, λ i l. go i l (eqb ident i) refl)
  where
    go : (i : ℕ) → i < 1296 → (t : Bool) → eqb ident i ≡ t → get_or (set stood ident stamp) i 0 < stamp + 1
    go i l true q =
        let z = ap (λ (j : ℕ). get_or (set stood ident stamp) j 0) (sym (eqb-true ident i q)) ∙ get_or-set_same stood ident stamp 0 (omega (arith, S.0)) in
        omega (arith, z)
    go i l false q =
        let z = get_or-set_other stood ident i stamp 0 (λ w. eqb-false ident i q (sym w)) in
        omega (arith, z, S.1 i l)

-- before the first item
pub stamped_none : Stamped (replicate 1296 0) 1
stamped_none = (length-replicate {A = ℕ} 1296 0, λ i l. let z : ◌≡◌ {A = ℕ} (get_or (replicate 1296 0) i 0) 0 = get_or-replicate 1296 i 0 0 l in omega (arith, z))

-- ---- what is known at a place below some fields, nearest first
pub record Fielding (terms : Terms) (h : Heading) (s : List ℕ) (at n stamp : ℕ) (stood : List ℕ) (kc : First Payment) (p : ℕ) : Type 0 where
  pub below : ℕ
  pub above : List (Owned FieldRow)
  pub items : (file_from n (drop at s)).items ≡ (file_from below (drop p s)).items
  pub left : fields_barred terms h [] (file_from n (drop at s)).loose ≡ fields_barred terms h above (file_from below (drop p s)).loose
  pub states : kc_among (file_from n (drop at s)).loose ≡ first_of kc (kc_among (file_from below (drop p s)).loose)
  pub stamped : StampedIn stood stamp above
  pub known : Sure kc

pub fields_start : (terms : Terms) (h : Heading) (s : List ℕ) (at n stamp : ℕ) (stood : List ℕ) → Stamped stood stamp → Fielding terms h s at n stamp stood Missing at
fields_start terms h s at n stamp stood S = record {
  below = n;
  above = [];
  items = refl;
  left = refl;
  states = refl;
  stamped = stamped_start stood stamp S;
  known = tt;
}

module _ {terms : Terms} {h : Heading} {s : List ℕ} {at n stamp : ℕ} {stood : List ℕ} {kc : First Payment} {p : ℕ} (F : Fielding terms h s at n stamp stood kc p) where
  -- a field that breaks nothing
  pub fields_more : {ident : ℕ} {again : Bool} {own : First Payment} {next : ℕ} → ident < 1296 → ident < length stood → again ≡ eqb (get_or stood ident 0) stamp
      → FieldAt terms h s p F.below ident again own next → Sure own → Fielding terms h s at n stamp (set stood ident stamp) (first_of kc own) next
  unfolding fields_barred
  fields_more {ident} {again} {own} {next} l k e A w = record {
    below = A.below;
    above = A.field ∷ F.above;
    items = F.items ∙ A.items;
    left =
        F.left ∙ ap (fields_barred terms h F.above) A.loose
        ∙ ap (λ (t : Bool). t || fields_barred terms h (A.field ∷ F.above) (file_from A.below (drop next s)).loose) (A.sound F.above (sym (F.stamped ident l) ∙ sym e));
    states = F.states ∙ ap (first_of kc) (ap kc_among A.loose ∙ A.states (file_from A.below (drop next s)).loose) ∙ kept_assoc kc own (kc_among (file_from A.below (drop next s)).loose);
    stamped = stamped_more stood stamp ident F.above A.field k A.ident_is F.stamped;
    known = kept_sure kc own F.known w;
  }

  -- one that bars
  pub fields_bar : {ident : ℕ} {again : Bool} → ident < 1296 → again ≡ eqb (get_or stood ident 0) stamp
      → ((m : ℕ) (above : List (Owned FieldRow)) → stands ident above ≡ again → fields_barred terms h above (file_from m (drop p s)).loose ≡ true)
      → fields_barred terms h [] (file_from n (drop at s)).loose ≡ true
  fields_bar {ident} l e B = F.left ∙ B F.below F.above (sym (F.stamped ident l) ∙ sym e)

  -- the last one
  pub fields_end : Ends s p → FieldsAt terms h s at n kc p
  unfolding fields_barred first_said
  fields_end E = record {
    below = F.below;
    items = F.items;
    sound = F.left ∙ ap (fields_barred terms h F.above) (E.loose F.below);
    states = F.states ∙ ap (λ (gs : List (Owned FieldRow)). first_of kc (kc_among gs)) (E.loose F.below) ∙ kept_none kc;
  }
