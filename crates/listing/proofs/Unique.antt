-- Two answers of checking that meet its statement are equal, the lent slices included.
use Prim.Native.Nat.{ℕ, ◌≤◌}
use native.Mathlib.Omega.{arith}
use mathlib.Core.Path.{◌≡◌, refl, sym, ap, ◌∙◌}
use mathlib.Core.Bool.{Bool, cond}
use mathlib.Core.List.{List}
use lib.Dec.{eqb}
use borrow.Author.Tests.{ne_eqb}
use Rattle.rules.specs.Terms.{Terms}
use Rattle.std.specs.Prelude.{Result, Ok, Err}
use Rattle.listing.specs.declared.checking.Unchecked.{Unchecked}
use Rattle.listing.specs.declared.checking.Unchecked.TheVariants.{BadCode, BadDay, TooLong, UnequalRooms, NoMark, Leftovers, StartsWithMark}
use Rattle.listing.specs.Checking.{unchecked_number, checked_number, checked_or, Checks, Totals}

-- a refusal by its number
abbrev pub refusal_of : ℕ → Unchecked
refusal_of k = cond (eqb k 1) BadCode (cond (eqb k 2) BadDay (cond (eqb k 3) TooLong (cond (eqb k 4) UnequalRooms (cond (eqb k 5) NoMark (cond (eqb k 9) Leftovers StartsWithMark)))))

pub refusal_told : (u : Unchecked) → refusal_of (unchecked_number u) ≡ u
refusal_told BadCode = refl
refusal_told BadDay = refl
refusal_told TooLong = refl
refusal_told UnequalRooms = refl
refusal_told NoMark = refl
refusal_told Leftovers = refl
refusal_told StartsWithMark = refl

-- no refusal has the number 0
pub some_number : (u : Unchecked) → 1 ≤ unchecked_number u
some_number BadCode = omega arith
some_number BadDay = omega arith
some_number TooLong = omega arith
some_number UnequalRooms = omega arith
some_number NoMark = omega arith
some_number Leftovers = omega arith
some_number StartsWithMark = omega arith

-- an answer by its number and its total
abbrev answer_of : ℕ → ℕ → Result ℕ Unchecked
answer_of k t = cond (eqb k 0) (Ok t) (Err (refusal_of k))

told : (r : Result ℕ Unchecked) → answer_of (checked_number r) (checked_or r 0) ≡ r
told (Ok t) = refl
told (Err u) =
    ap (λ (b : Bool). cond b (Ok 0) (Err (refusal_of (unchecked_number u)))) (ne_eqb (unchecked_number u) 0 (λ e. omega (arith, e, some_number u)))
    ∙ ap Err (refusal_told u)

pub check_unique : {file : List ℕ} {terms : Terms} {ls₀ rs₀ ps₀ : List ℕ} {r r' : Result ℕ Unchecked} {ls ls' rs rs' ps ps' : List ℕ} → Checks file terms ls₀ rs₀ ps₀ r ls rs ps
    → Checks file terms ls₀ rs₀ ps₀ r' ls' rs' ps' → (r ≡ r') × (ls ≡ ls') × (rs ≡ rs') × (ps ≡ ps')
check_unique {r} {r'} C D = (
  sym (told r) ∙ (λ i. answer_of ((C.number ∙ sym D.number) i) ((C.total 0 ∙ sym (D.total 0)) i)) ∙ told r',
  C.lines ∙ sym D.lines,
  C.rules ∙ sym D.rules,
  C.offsets ∙ sym D.offsets,
)

-- .. with no slices lent
pub totals_unique : {file : List ℕ} {terms : Terms} {r r' : Result ℕ Unchecked} → Totals file terms r → Totals file terms r' → r ≡ r'
totals_unique {r} {r'} C D = sym (told r) ∙ (λ i. answer_of ((C.number ∙ sym D.number) i) ((C.total 0 ∙ sym (D.total 0)) i)) ∙ told r'
