-- Opening a file that arrives slowly (document 02, A5): what it answers, and the state that it leaves. 'Refusals: 1 and 2 at opening'
use Rattle.std.specs.Prelude.{ℕ, ◌≡◌, true, false, cond, not, List, [], ◌∷◌, eqb, replicate, Result, Ok, Err, IfOk}
use Rattle.laws.specs.Refusals.{Refusal, ◌if◌, first}
use Rattle.rules.specs.Terms.{is_code, is_accounting_day}
use Rattle.going.specs.Reached.{Begun}
use Rattle.portions.specs.declared.Portions.{Portions}
use Rattle.portions.specs.States.{Rooms, Holds}
use Rattle.portions_opening.specs.declared.OpenError.{OpenError}
use Rattle.portions_opening.specs.declared.OpenError.TheVariants.{BadCode as WrongCode, BadDay as WrongDay}

abbrev pub open_refusals : ℕ → ℕ → List Refusal
open_refusals code day = (1 if not (is_code code)) ∷ (2 if not (is_accounting_day day)) ∷ []

abbrev pub unopened_number : OpenError → ℕ
unopened_number WrongCode = 1
unopened_number WrongDay = 2

abbrev pub opening_number : Result Portions OpenError → ℕ
opening_number (Ok p) = 0
opening_number (Err e) = unopened_number e

-- nothing has come
pub record BegunAs (code day : ℕ) (p : Portions) : Type 0 where
  pub going : Begun p.going
  pub terms : (p.code ≡ code) × (p.day ≡ day)
  pub bytes : p.bytes ≡ 0
  pub seen : p.seen ≡ false
  pub takes : p.takes ≡ true

-- the answer; where nothing is refused, a state that holds the empty file, in any three arrays of 256
pub record Opens (code day : ℕ) (stood : List ℕ) (r : Result Portions OpenError) (stood' : List ℕ) : Type 0 where
  pub number : opening_number r ≡ first (open_refusals code day)
  pub stood_after : stood' ≡ cond (eqb (first (open_refusals code day)) 0) (replicate 1296 0) stood
  pub holds : IfOk r (λ p. (ls rs ps : List ℕ) → Rooms ls rs ps → Holds code day [] p ls rs ps stood')
