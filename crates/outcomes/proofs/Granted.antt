-- What is granted where deriving refuses nothing: no condition of a refusal holds.
use mathlib.Core.Path.{◌≡◌, refl}
use mathlib.Core.Bool.{Bool, true, false, not, ◌&&◌}
use mathlib.Core.List.{List, [], ◌∷◌}
use Prim.Native.Nat.{ℕ}
use native.Mathlib.Omega.{arith}
use lib.Dec.{ltb}
use borrow.Author.Tests.{not-false}
use Rattle.laws.specs.Refusals.{◌if◌, first}
use Rattle.laws.proofs.Truth.{and_parts}
use Rattle.headings.specs.declared.ItemNo.{ItemNo}
use Rattle.headings.specs.declared.Heading.{Heading}
use Rattle.headings.specs.Reading.{heading_of}
use Rattle.outcome_tables.specs.Outcomes.{in_class}
use Rattle.turning.specs.Turning.{barred_to, is_outcome, is_standing, is_missing}
use Rattle.outcomes.specs.Deriving.{tell_refusals, number_refusals, derive_refusals}
use Rattle.std.specs.Prelude.{Some}

pub record Granted (h : Heading) (o p : ℕ) (n : ItemNo) : Type 0 where
  pub open_to : barred_to p h ≡ false
  pub outcome : is_outcome o ≡ true
  pub standing : is_standing p ≡ true
  pub entry : is_missing p h.kind o ≡ false
  pub in_class_lem : in_class h.kind n.0 ≡ true

none_holds : (a b c d e : Bool) → first ((12 if a) ∷ (13 if b) ∷ (14 if c) ∷ (15 if d) ∷ (16 if e) ∷ []) ≡ 0
    → (a ≡ false) × (b ≡ false) × (c ≡ false) × (d ≡ false)
none_holds true b c d e z = absurd (omega arith)
none_holds false true c d e z = absurd (omega arith)
none_holds false false true d e z = absurd (omega arith)
none_holds false false false true e z = absurd (omega arith)
none_holds false false false false true z = absurd (omega arith)
none_holds false false false false false z = (refl, refl, refl, refl)

pub granted : (s : List ℕ) (o p : ℕ) (n : ItemNo) (room : ℕ) (h : Heading) → heading_of s ≡ Some h → first (derive_refusals s o p n room) ≡ 0
    → Granted h o p n
unfolding tell_refusals number_refusals derive_refusals
granted s o p n room h r z =
    let a = none_holds (barred_to p h) (not (is_outcome o && is_standing p)) (is_missing p h.kind o) (not (in_class h.kind n.0)) (ltb room 54) (rw r at z) in
    let b = and_parts (is_outcome o) (is_standing p) (not-false _ a.1) in
    record { open_to = a.0; outcome = b.0; standing = b.1; entry = a.2; in_class_lem = not-false _ a.3 }
