-- Two answers that meet the statement are equal, and so are the targets that they leave.
use Prim.Native.Nat.{ℕ}
use mathlib.Core.Path.{◌≡◌, refl, sym, ◌∙◌}
use mathlib.Core.Bool.{cond}
use mathlib.Core.List.{List}
use lib.Dec.{eqb}
use Rattle.outgoing_lines.specs.Outgoing.{Orders}
use Rattle.std.specs.Prelude.{Result, Ok, Err}
use Rattle.delivery.specs.declared.DeliverError.{DeliverError}
use Rattle.delivery.specs.declared.DeliverError.TheVariants.{BadCode, BadDay, NotItems, NotSent, Mixed, TooLarge, TooShort}
use Rattle.delivery.specs.Delivery.{delivered_number, delivered_or, Delivers}

-- an answer by its number and its length
abbrev delivered_of : ℕ → ℕ → Result ℕ DeliverError
delivered_of k n =
    cond (eqb k 0) (Ok n) (Err (cond (eqb k 1) BadCode (cond (eqb k 2) BadDay (cond (eqb k 30) NotItems
    (cond (eqb k 31) NotSent (cond (eqb k 32) Mixed (cond (eqb k 33) TooLarge TooShort)))))))

delivered_told : (r : Result ℕ DeliverError) → delivered_of (delivered_number r) (delivered_or r 0) ≡ r
delivered_told (Ok n) = refl
delivered_told (Err BadCode) = refl
delivered_told (Err BadDay) = refl
delivered_told (Err NotItems) = refl
delivered_told (Err NotSent) = refl
delivered_told (Err Mixed) = refl
delivered_told (Err TooLarge) = refl
delivered_told (Err TooShort) = refl

pub deliver_unique : (s : List ℕ) (q : Orders) (certis day : ℕ) (before : List ℕ) {r r' : Result ℕ DeliverError} {after after' : List ℕ} → Delivers s q certis day before r after → Delivers s q certis day before r' after'
    → (r ≡ r') × (after ≡ after')
deliver_unique s q certis day before {r} {r'} C D = (
  sym (delivered_told r) ∙ (λ i. delivered_of ((C.number ∙ sym D.number) i) ((C.written 0 ∙ sym (D.written 0)) i)) ∙ delivered_told r',
  C.target ∙ sym D.target,
)
