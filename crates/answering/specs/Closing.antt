-- Closing a file that came in portions (document 02, A5): what is answered, and what is left.
use Rattle.std.specs.Prelude.{ℕ, ◌+◌, ◌≡◌, cond, not, List, [], ◌∷◌, ltb, eqb, Result, Ok, Err}
use Rattle.std.specs.Result.{result_unwrap_or}
use Rattle.laws.specs.Refusals.{Refusal, ◌if◌, first}
use Rattle.lines.specs.Lines.{body, offset_of}
use Rattle.rules.specs.Terms.{input}
use Rattle.rules.specs.Faults.{faults_in}
use Rattle.ledger.specs.declared.Ledger.{Ledger}
use Rattle.ledger.specs.Slices.{Listed}
use Rattle.listing.specs.declared.checking.Unchecked.{Unchecked}
use Rattle.listing.specs.declared.checking.Unchecked.TheVariants.{BadCode}
use Rattle.listing.specs.Checking.{unchecked_number, checked_number, Checks}
use Rattle.portions.specs.declared.Portions.{Portions}
use Rattle.answering.specs.declared.CloseError.{CloseError}
use Rattle.answering.specs.declared.CloseError.TheVariants.{Refused, Late}
use Rattle.answering.specs.declared.Closed.{Closed}
use Rattle.portions.specs.Usable.{is_open}
use Rattle.portions.specs.States.{Rooms, Holds, shut_of}

-- ---- closing: '3, 5 and 6 at closing; 18, .. a second closing call after closing', and A10's 9

-- by what was counted of the file
abbrev pub file_refusals : Portions → List Refusal
file_refusals p =
    (3 if ltb 10000000 p.bytes) ∷
    (5 if not p.seen) ∷
    (9 if ltb (p.going.came + 1) p.bytes) ∷
    (6 if eqb p.going.came 0) ∷ []

abbrev pub close_refusals : Portions → List ℕ → List ℕ → List ℕ → List Refusal
close_refusals p ls rs ps = (18 if not (is_open p ls rs ps)) ∷ file_refusals p

abbrev pub unclosed_number : CloseError → ℕ
unclosed_number (Refused u) = unchecked_number u
unclosed_number Late = 18

abbrev pub closing_number : Result ℕ CloseError → ℕ
closing_number (Ok t) = 0
closing_number (Err e) = unclosed_number e

-- its total, or another number where there is none
abbrev pub closing_or : Result ℕ CloseError → ℕ → ℕ
closing_or r old = result_unwrap_or r old

-- checking's answer in it. There is none in 18, which a state that holds a file never gets
abbrev pub checked_in : Result ℕ CloseError → Result ℕ Unchecked
checked_in (Ok t) = Ok t
checked_in (Err (Refused u)) = Err u
checked_in (Err Late) = Err BadCode

-- 'after the closing call its pairs, total or refusal equal those of checking the whole with room for 256'. Refused or not it closes, and
-- a refusal changes nothing else
pub record Closes (p : Portions) (ls rs ps stood os₀ qs₀ ts₀ : List ℕ) (r : Closed) (ls' rs' ps' stood' os qs ts : List ℕ) : Type 0 where
  pub number : closing_number r.answer ≡ first (close_refusals p ls rs ps)
  pub state : r.state ≡ cond (is_open p ls rs ps) (shut_of p) p
  pub kept : (first (close_refusals p ls rs ps) ≡ 0 → ⊥) → (ls' ≡ ls) × (rs' ≡ rs) × (ps' ≡ ps) × (stood' ≡ stood) × (os ≡ os₀) × (qs ≡ qs₀) × (ts ≡ ts₀)
  pub checks : (code day : ℕ) (file : List ℕ) → Holds code day file p ls rs ps stood → Rooms os₀ qs₀ ts₀ → Checks file (input code day) os₀ qs₀ ts₀ (checked_in r.answer) os qs ts

-- ---- the steps of closing

-- an open state is answered for
pub record Settles (p : Portions) (ls rs ps stood os₀ qs₀ ts₀ : List ℕ) (c : Result ℕ Unchecked) (ls' rs' ps' stood' os qs ts : List ℕ) : Type 0 where
  pub number : checked_number c ≡ first (file_refusals p)
  pub kept : (first (file_refusals p) ≡ 0 → ⊥) → (ls' ≡ ls) × (rs' ≡ rs) × (ps' ≡ ps) × (stood' ≡ stood) × (os ≡ os₀) × (qs ≡ qs₀) × (ts ≡ ts₀)
  pub checks : (code day : ℕ) (file : List ℕ) → Holds code day file p ls rs ps stood → Rooms os₀ qs₀ ts₀ → Checks file (input code day) os₀ qs₀ ts₀ c os qs ts

-- the faults of the file that it holds are handed out
abbrev pub HandsOut : Portions → List ℕ → List ℕ → List ℕ → List ℕ → List ℕ → List ℕ → List ℕ → Ledger → List ℕ → List ℕ → List ℕ → Type 0
HandsOut p ls rs ps stood os₀ qs₀ ts₀ g os qs ts =
    (code day : ℕ) (file : List ℕ) → Holds code day file p ls rs ps stood → Rooms os₀ qs₀ ts₀
    → Listed (offset_of (body file)) (faults_in (input code day) (body file)) os₀ qs₀ ts₀ g os qs ts
