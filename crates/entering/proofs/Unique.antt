-- Two answers that meet the statement of a job are equal, and so are the targets that they leave.
use Prim.Native.Nat.{ℕ}
use mathlib.Core.Path.{◌≡◌, refl, sym, ap, ◌∙◌}
use mathlib.Core.Bool.{cond}
use mathlib.Core.List.{List}
use lib.Dec.{eqb}
use Rattle.listing.specs.declared.checking.Unchecked.TheVariants.{BadCode, BadDay, TooLong, UnequalRooms, NoMark, Leftovers, StartsWithMark}
use Rattle.listing.proofs.Unique.{refusal_of}
use Rattle.std.specs.Prelude.{⊤, Result, Ok, Err}
use Rattle.adding.specs.declared.EnterError.{EnterError}
use Rattle.adding.specs.declared.EnterError.TheVariants.{Refused, NotRegister, OtherCode, DayBefore, HasFaults, UsedAlready, TooMany, TooShort}
use Rattle.entering.specs.declared.blanking.BlankError.{BlankError}
use Rattle.entering.specs.declared.blanking.BlankError.TheVariants.{BadCode as BadBlank, TooShort as TooShortBlank}
use Rattle.adding.specs.Answers.{entered_number, written_or}
use Rattle.entering.specs.Jobs.{Enters, blanked_number, Blanks}

-- an answer by its number and its length
abbrev entered_of : ℕ → ℕ → Result ℕ EnterError
entered_of k n =
    cond (eqb k 0) (Ok n) (Err (cond (eqb k 23) NotRegister (cond (eqb k 24) OtherCode (cond (eqb k 25) DayBefore
    (cond (eqb k 26) HasFaults (cond (eqb k 27) UsedAlready (cond (eqb k 28) TooMany (cond (eqb k 29) TooShort (Refused (refusal_of k))))))))))

entered_told : (r : Result ℕ EnterError) → entered_of (entered_number r) (written_or r 0) ≡ r
entered_told (Ok n) = refl
entered_told (Err (Refused BadCode)) = refl
entered_told (Err (Refused BadDay)) = refl
entered_told (Err (Refused TooLong)) = refl
entered_told (Err (Refused UnequalRooms)) = refl
entered_told (Err (Refused NoMark)) = refl
entered_told (Err (Refused Leftovers)) = refl
entered_told (Err (Refused StartsWithMark)) = refl
entered_told (Err NotRegister) = refl
entered_told (Err OtherCode) = refl
entered_told (Err DayBefore) = refl
entered_told (Err HasFaults) = refl
entered_told (Err UsedAlready) = refl
entered_told (Err TooMany) = refl
entered_told (Err TooShort) = refl

abbrev blanked_of : ℕ → Result ⊤ BlankError
blanked_of k = cond (eqb k 0) (Ok tt) (Err (cond (eqb k 1) BadBlank TooShortBlank))

blanked_told : (r : Result ⊤ BlankError) → blanked_of (blanked_number r) ≡ r
blanked_told (Ok done) = refl
blanked_told (Err BadBlank) = refl
blanked_told (Err TooShortBlank) = refl

pub enter_unique : (register file : List ℕ) (code day : ℕ) (before : List ℕ) {r r' : Result ℕ EnterError} {after after' : List ℕ} → Enters register file code day before r after → Enters register file code day before r' after'
    → (r ≡ r') × (after ≡ after')
enter_unique register file code day before {r} {r'} C D = (
  sym (entered_told r) ∙ (λ i. entered_of ((C.number ∙ sym D.number) i) ((C.written 0 ∙ sym (D.written 0)) i)) ∙ entered_told r',
  C.target ∙ sym D.target,
)

pub blank_unique : {code : ℕ} {before : List ℕ} {r r' : Result ⊤ BlankError} {after after' : List ℕ} → Blanks code before r after → Blanks code before r' after' → (r ≡ r') × (after ≡ after')
blank_unique {r} {r'} C D = (sym (blanked_told r) ∙ ap blanked_of (C.number ∙ sym D.number) ∙ blanked_told r', C.target ∙ sym D.target)
