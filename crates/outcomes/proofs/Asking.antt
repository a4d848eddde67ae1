-- Asking first: what telling and deriving answer for one text, outcome and standing belongs together, whatever number and target
-- deriving is given afterwards.
use mathlib.Core.Path.{◌≡◌, refl, sym, ap, ◌∙◌}
use mathlib.Core.List.{List}
use Prim.Native.Nat.{ℕ}
use native.Mathlib.Omega.{arith}
use lib.ListN.{length, take}
use Rattle.laws.specs.Refusals.{first}
use Rattle.headings.specs.declared.ItemNo.{ItemNo}
use Rattle.headings.specs.Reading.{heading_of}
use Rattle.outcomes.specs.declared.Going.{Going}
use Rattle.outcomes.specs.declared.TellError.{TellError}
use Rattle.outcomes.specs.declared.DeriveError.{DeriveError}
use Rattle.turning.specs.Turning.{turned}
use Rattle.outcomes.specs.Deriving.{numbered, tell_refusals, Tells, derive_refusals, Derives}
use Rattle.outcomes.specs.Asking.{Foretold, Together}
use Rattle.outcomes.proofs.Granted.{granted}
use Rattle.turning.proofs.Steps.{some}
use Rattle.outcomes.proofs.Joined.{joins}
use Rattle.outcomes.proofs.Telling.{goes}
use Rattle.outcomes.proofs.Sound.{derived_reads}
use Rattle.outcomes.proofs.Unique.{tell_unique}
use Rattle.headings.specs.declared.Heading.{Heading}
use Rattle.std.specs.Prelude.{None, Option, Some, Result}

module _ (s : List ℕ) (o p : ℕ) (n : ItemNo) (t₀ : List ℕ) (r : Result Going TellError) (d : Result (Unit {0}) DeriveError) (t : List ℕ) (T : Tells s o p r) (D : Derives s o p n t₀ d t) where
  foretold : first (derive_refusals s o p n (length t₀)) ≡ 0 → Foretold r t
  unfolding derive_refusals tell_refusals
  foretold z = go (heading_of s) refl
    where
      go : (x : Option Heading) → heading_of s ≡ x → Foretold r t
      go None e = absurd (let f : 11 ≡ 0 = rw e at z in omega (arith, f))
      go (Some h) e =
          let g = granted s o p n (length t₀) h e z in
          record {
            heading = numbered (turned h o) n;
            reads = ap (λ (x : List ℕ). heading_of (take 54 x)) D.target ∙ derived_reads s o p n t₀ h e z;
            told = tell_unique T (goes s o p h e (turned h o) (rw e (some h o p g.open_to g.outcome g.standing g.entry)) refl);
          }

  pub tell_derive : Together s n t₀ r d t
  tell_derive = record {
    refusal = rw T.number (D.number ∙ joins s o p n (length t₀));
    heading = λ z. foretold (sym D.number ∙ z);
  }
