-- Telling is the first step of deriving, of a text.
use mathlib.Core.Path.{◌≡◌, refl, sym, ap}
use mathlib.Core.Bool.{false}
use mathlib.Core.List.{List}
use Prim.Native.Nat.{ℕ}
use lib.Dec.{eqb}
use Rattle.std.specs.Prelude.{Some, Ok, Err}
use Rattle.laws.specs.Refusals.{first}
use Rattle.headings.specs.declared.Heading.{Heading}
use Rattle.headings.specs.Reading.{heading_of}
use Rattle.turning.specs.declared.TurnError.TheVariants.{Barred, NotOutcome, Nowhere}
use Rattle.turning.specs.Turning.{turned}
use Rattle.outcomes.specs.declared.TellError.{TellError}
use Rattle.outcomes.specs.declared.TellError.TheVariants.{NoHeading, Turn}
use Rattle.outcomes.specs.Deriving.{untold_number, tell_refusals, outgoing_kind, recipient, Tells}

-- no refusal has the number 0
pub numbered_untold : (e : TellError) → eqb (untold_number e) 0 ≡ false
numbered_untold NoHeading = refl
numbered_untold (Turn Barred) = refl
numbered_untold (Turn NotOutcome) = refl
numbered_untold (Turn Nowhere) = refl

module _ (s : List ℕ) (o p : ℕ) where
  pub refused : (e : TellError) → untold_number e ≡ first (tell_refusals s o p) → Tells s o p (Err e)
  refused e q =
      let w = rw q at (numbered_untold e) in
      record { number = q; kind = λ old. rw w; code = λ old. rw w }

  module _ (h : Heading) (r : heading_of s ≡ Some h) where
    pub kind_is : outgoing_kind s o ≡ (turned h o).kind
    unfolding outgoing_kind
    kind_is = rw r

    pub recipient_is : recipient s o ≡ (turned h o).second.0
    unfolding recipient
    recipient_is = rw r

    pub goes : (g : Heading) → 0 ≡ first (tell_refusals s o p) → g ≡ turned h o → Tells s o p (Ok (record { kind = g.kind; recipient = g.second }))
    goes g e f = record {
      number = e;
      kind = λ old. rw (sym e, kind_is) (ap (λ (x : Heading). x.kind) f);
      code = λ old. rw (sym e, recipient_is) (ap (λ (x : Heading). x.second.0) f);
    }
