-- The statements of telling and of deriving determine the answer and the target after it: two that meet one are equal.
use mathlib.Core.Path.{◌≡◌, refl, sym, ◌∙◌}
use mathlib.Core.List.{List, [], ◌∷◌}
use Prim.Native.Nat.{ℕ, ◌-◌}
use lib.ListN.{get_or}
use Rattle.headings.specs.declared.Code.{Code}
use Rattle.headings.specs.declared.ItemNo.{ItemNo}
use Rattle.heading_writer.proofs.Unique.{same}
use Rattle.std.specs.Prelude.{Result, Ok, Err}
use Rattle.turning.specs.declared.TurnError.TheVariants.{Barred, NotOutcome, Nowhere}
use Rattle.outcomes.specs.declared.Going.{Going}
use Rattle.outcomes.specs.declared.TellError.{TellError}
use Rattle.outcomes.specs.declared.TellError.TheVariants.{NoHeading, Turn}
use Rattle.outcomes.specs.declared.DeriveError.{DeriveError}
use Rattle.outcomes.specs.declared.DeriveError.TheVariants.{Tell, NotInClass, TooShort}
use Rattle.outcomes.specs.Deriving.{told_number, told_kind, told_recipient, Tells, derived_number, Derives}

abbrev code_of : ℕ → Code
code_of n = record { 0 = n }

-- an answer by its number, its type and its code
abbrev told_by : ℕ → ℕ → ℕ → Result Going TellError
told_by k kind code =
    get_or (Ok (record { kind = kind; recipient = code_of code }) ∷ Err NoHeading ∷ Err (Turn Barred) ∷ Err (Turn NotOutcome) ∷ Err (Turn Nowhere) ∷ [])
    (k - 10) (Err NoHeading)

told_back : (r : Result Going TellError) → told_by (told_number r) (told_kind r 0) (told_recipient r 0) ≡ r
told_back (Ok going) = refl
told_back (Err NoHeading) = refl
told_back (Err (Turn Barred)) = refl
told_back (Err (Turn NotOutcome)) = refl
told_back (Err (Turn Nowhere)) = refl

pub tell_unique : {s : List ℕ} {o p : ℕ} {r r' : Result Going TellError} → Tells s o p r → Tells s o p r' → r ≡ r'
tell_unique {r} {r'} C D =
    sym (told_back r)
    ∙ (λ i. told_by ((C.number ∙ sym D.number) i) ((C.kind 0 ∙ sym (D.kind 0)) i) ((C.code 0 ∙ sym (D.code 0)) i))
    ∙ told_back r'

abbrev derived_by : ℕ → Result (Unit {0}) DeriveError
derived_by k =
    get_or (Ok tt ∷ Err (Tell NoHeading) ∷ Err (Tell (Turn Barred)) ∷ Err (Tell (Turn NotOutcome)) ∷ Err (Tell (Turn Nowhere)) ∷ Err NotInClass ∷ Err TooShort ∷ [])
    (k - 10) (Ok tt)

derived_back : (d : Result (Unit {0}) DeriveError) → d ≡ derived_by (derived_number d)
derived_back (Ok done) = refl
derived_back (Err (Tell NoHeading)) = refl
derived_back (Err (Tell (Turn Barred))) = refl
derived_back (Err (Tell (Turn NotOutcome))) = refl
derived_back (Err (Tell (Turn Nowhere))) = refl
derived_back (Err NotInClass) = refl
derived_back (Err TooShort) = refl

pub derive_unique : {s : List ℕ} {o p : ℕ} {n : ItemNo} {t₀ : List ℕ} {d d' : Result (Unit {0}) DeriveError} {t t' : List ℕ} → Derives s o p n t₀ d t → Derives s o p n t₀ d' t'
    → (d ≡ d') × (t ≡ t')
derive_unique {d} {d'} C D = (same derived_number derived_by derived_back d d' (C.number ∙ sym D.number), C.target ∙ sym D.target)
