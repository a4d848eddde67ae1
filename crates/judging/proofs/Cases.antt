-- The marks of a field above 5, by the tests in the order in which the code asks them.
use mathlib.Core.Path.{◌≡◌, refl, sym, ap, ◌∙◌}
use mathlib.Core.Bool.{Bool, true, false, ◌&&◌, true≢false}
use Prim.Native.Nat.{ℕ, ◌+◌}
use native.Mathlib.Nat.{zero-add}
use native.Mathlib.Omega.{arith}
use lib.Dec.{eqb}
use borrow.Author.Tests.{eqb-true}
use Rattle.laws.specs.Tests.{mark}
use Rattle.headings.specs.declared.Heading.{Heading}
use Rattle.headings.specs.declared.Amount.{Amount}
use Rattle.headings.specs.declared.ItemNo.{ItemNo}
use Rattle.figures.specs.declared.parts.Halves.{Halves}
use Rattle.fields.specs.declared.readings.Reading.{Reading}
use Rattle.fields.specs.declared.readings.Reading.TheVariants.{Broken, Plain, Paid, Span, Stated, Party}
use Rattle.fields.specs.Kinds.{place, named}
use Rattle.fields.specs.Classes.{class_of}
use Rattle.fields.specs.Codes.{code_of, claims}
use Rattle.rules.specs.declared.First.{First}
use Rattle.rules.specs.declared.Payment.{Payment}
use Rattle.rules.specs.HeadingRules.{no_kc}
use Rattle.rules.specs.FieldRules.{rule9}
use Rattle.own_rules.specs.declared.Basis.{Basis}
use Rattle.own_rules.specs.Model.{breaks8}
use Rattle.judging.specs.declared.opening.Open.{Open}
use Rattle.judging.specs.Opening.{read_as, halves_marks, plain_marks, said_marks, kc_marks, open_own}
use Rattle.std.specs.Prelude.{None, Option, Some}

-- ---- 6 to 9, 23 and 24 by what a field's own line says
module _ (j : Basis) where
  pub marks_broken : (first : Bool) (r : Option Heading) → ◌≡◌ {A = ℕ} 64 (said_marks j first r Broken)
  unfolding kc_marks said_marks
  marks_broken true (Some h) = refl
  marks_broken true None = refl
  marks_broken false (Some h) = refl
  marks_broken false None = refl

  marks_plain : (first : Bool) (r : Option Heading) → ◌≡◌ {A = ℕ} 0 (said_marks j first r Plain)
  unfolding kc_marks said_marks
  marks_plain true (Some h) = refl
  marks_plain true None = refl
  marks_plain false (Some h) = refl
  marks_plain false None = refl

  marks_span : (a b : ItemNo) (first : Bool) (r : Option Heading) → ◌≡◌ {A = ℕ} 0 (said_marks j first r (Span a b))
  unfolding kc_marks said_marks
  marks_span a b true (Some h) = refl
  marks_span a b true None = refl
  marks_span a b false (Some h) = refl
  marks_span a b false None = refl

  marks_stated : (n : ℕ) (a : Amount) (first : Bool) (r : Option Heading) → ◌≡◌ {A = ℕ} 0 (said_marks j first r (Stated n a))
  unfolding kc_marks said_marks
  marks_stated n a true (Some h) = refl
  marks_stated n a true None = refl
  marks_stated n a false (Some h) = refl
  marks_stated n a false None = refl

  pub marks_party : (halves : Halves) (first : Bool) (r : Option Heading) → halves_marks halves ≡ said_marks j first r (Party halves)
  unfolding kc_marks said_marks
  marks_party halves true (Some h) = omega arith
  marks_party halves true None = omega arith
  marks_party halves false (Some h) = omega arith
  marks_party halves false None = omega arith

  pub marks_paid : (h : Heading) (a : Amount) (d : ℕ) (first reads : Bool)
      → mark 8 ((first && reads) && breaks8 j h.kind d) + mark 9 ((first && reads) && rule9 h.kind a.0) ≡ said_marks j first (read_as reads h) (Paid a d)
  unfolding kc_marks said_marks
  marks_paid h a d true true = sym (zero-add _)
  marks_paid h a d true false = refl
  marks_paid h a d false true = refl
  marks_paid h a d false false = refl

  pub marks_other : (first : Bool) (r : Option Heading) (said : Reading) → (said ≡ Broken → ⊥) → ((a : Amount) (d : ℕ) → said ≡ Paid a d → ⊥) → ((halves : Halves) → said ≡ Party halves → ⊥)
      → ◌≡◌ {A = ℕ} 0 (said_marks j first r said)
  marks_other first r Broken p q t = absurd (p refl)
  marks_other first r Plain p q t = marks_plain first r
  marks_other first r (Paid a d) p q t = absurd (q a d refl)
  marks_other first r (Span a b) p q t = marks_span a b first r
  marks_other first r (Stated n a) p q t = marks_stated n a first r
  marks_other first r (Party halves) p q t = absurd (t halves refl)

-- ---- a field that claims nothing is no KC, so 8 and 9 are not asked of it
kc_claims : claims (code_of (named "KC")) ≡ true
unfolding code_of class_of place
kc_claims = refl

pub not_kc : (i : ℕ) → claims (code_of i) ≡ false → eqb i (named "KC") ≡ false
not_kc i m = go (eqb i (named "KC")) refl
  where
    go : (t : Bool) → eqb i (named "KC") ≡ t → t ≡ false
    go true e = absurd (true≢false (sym kc_claims ∙ ap (λ (j : ℕ). claims (code_of j)) (sym (eqb-true i (named "KC") e)) ∙ m))
    go false e = refl

plain_said : (j : Basis) (kc : First Payment) (h : Option Heading) (i : ℕ) (said : Reading) → claims (code_of i) ≡ false → plain_marks said ≡ said_marks j (eqb i (named "KC") && no_kc kc) h said
unfolding said_marks kc_marks
plain_said j kc h i said m = rw (not_kc i m) (omega arith)

-- so the field opens as any field would
pub plain_opens : (j : Basis) (kc : First Payment) (h : Option Heading) (n own i : ℕ) (again : Bool) (said : Reading) {class f m : ℕ} → class ≡ code_of i → claims class ≡ false
    → f ≡ mark 5 again → m ≡ plain_marks said → ◌≡◌ {A = Open} (record { no = n; marks = own + f + m; class = class; tail = 0 }) (open_own j kc h n own again i said)
plain_opens j kc h n own i again said e c p q = rw (e, p, q, plain_said j kc h i said (rw e at c))
