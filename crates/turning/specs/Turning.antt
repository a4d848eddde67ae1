-- The first step of deriving (document 01, amended by A12): its refusals in their order, and the outgoing type and codes. Below, o is an
-- outcome, p the sender's standing (1 direct, 2 third party).
use Rattle.std.specs.Prelude.{ℕ, Bool, not, ◌&&◌, ◌||◌, List, [], ◌∷◌, leb, eqb, Result, Ok, Err}
use Rattle.laws.specs.Refusals.{Refusal, ◌if◌}
use Rattle.headings.specs.declared.Heading.{Heading}
use Rattle.headings.specs.ItemTypes.{is_closing, is_trilateral}
use Rattle.headings.specs.HeadRules.{rule10, rule13, rule14}
use Rattle.outcome_tables.specs.declared.Codes.{Codes}
use Rattle.outcome_tables.specs.Outcomes.{outgoing, codes}
use Rattle.turning.specs.declared.TurnError.{TurnError}
use Rattle.turning.specs.declared.TurnError.TheVariants.{Barred, NotOutcome, Nowhere}

-- '12: a 51, or breaks rule 10, 13 or 14'
unfoldable pub barred : Heading → Bool
barred h = is_closing h.kind || (rule10 h || (rule13 h || rule14 h))

-- or not this sender's: 'A third party may send only 35, 37 and 45; its other headings are refused with 12'
unfoldable pub barred_to : ℕ → Heading → Bool
barred_to p h = barred h || (eqb p 2 && not (is_trilateral h.kind))

-- '13: outcome not 1 to 7'
abbrev pub is_outcome : ℕ → Bool
is_outcome o = leb 1 o && leb o 7

-- 'the sender's standing, 1 direct or 2 third party (13 otherwise)'
abbrev pub is_standing : ℕ → Bool
is_standing p = eqb p 1 || eqb p 2

-- 'For a direct sender of a 45, outcomes 5 and 6 are refused with 14'
abbrev pub withheld : ℕ → ℕ → ℕ → Bool
withheld p kind o = eqb p 1 && (eqb kind 45 && (eqb o 5 || eqb o 6))

-- '14: the table has no entry', or the entry isn't for this sender
abbrev pub is_missing : ℕ → ℕ → ℕ → Bool
is_missing p kind o = eqb (outgoing kind o) 0 || withheld p kind o

-- a heading with another type and other codes; 'day and input number stay'
abbrev pub coded : ℕ → Codes → Heading → Heading
coded kind cs h =
    record { kind = kind; day = h.day; first = cs.first; number = h.number; second = cs.second; output = h.output; third = cs.third }

-- the outgoing type and codes in a heading's place
unfoldable pub turned : Heading → ℕ → Heading
turned h o = coded (outgoing h.kind o) (codes (is_trilateral h.kind) o h.first h.second h.third) h

-- the first step: which outgoing type and which codes, of a heading, an outcome and a standing
abbrev pub turn_refusals : Heading → ℕ → ℕ → List Refusal
turn_refusals h o p = (12 if barred_to p h) ∷ (13 if not (is_outcome o && is_standing p)) ∷ (14 if is_missing p h.kind o) ∷ []

-- document 01's number for each refusal of the first step
abbrev pub refusal_number : TurnError → ℕ
refusal_number Barred = 12
refusal_number NotOutcome = 13
refusal_number Nowhere = 14

-- and for each answer
abbrev pub turn_number : Result Heading TurnError → ℕ
turn_number (Ok g) = 0
turn_number (Err e) = refusal_number e

-- the heading that an answer of the first step carries, or the one given where it carries none
abbrev pub turn_heading : Result Heading TurnError → Heading → Heading
turn_heading (Ok g) h = g
turn_heading (Err e) h = h
