-- Deriving (document 01, amended by A12): the refusals in their order, the heading that goes out, what telling answers of it, and what
-- the target holds after. Below, s is a heading's text, o an outcome, p the sender's standing (1 direct, 2 third party), n an output
-- number, t₀ and t a target before and after.
use Rattle.std.specs.Prelude.{ℕ, ◌≡◌, true, cond, not, List, [], ◌∷◌, ◌++◌, length, ltb, eqb, None, Option, Some, Result, Ok, Err}
use Rattle.laws.specs.Refusals.{Refusal, ◌if◌, first}
use Rattle.headings.specs.declared.ItemNo.{ItemNo}
use Rattle.headings.specs.declared.Heading.{Heading}
use Rattle.headings.specs.Reading.{heading_of}
use Rattle.heading_writer.specs.Writing.{heading_text, target_after}
use Rattle.outcome_tables.specs.Outcomes.{in_class}
use Rattle.turning.specs.Turning.{turned, turn_refusals, refusal_number}
use Rattle.outcomes.specs.declared.Going.{Going}
use Rattle.outcomes.specs.declared.TellError.{TellError}
use Rattle.outcomes.specs.declared.TellError.TheVariants.{NoHeading, Turn}
use Rattle.outcomes.specs.declared.DeriveError.{DeriveError}
use Rattle.outcomes.specs.declared.DeriveError.TheVariants.{Tell, NotInClass, TooShort}

-- the output number in its place
abbrev pub numbered : Heading → ItemNo → Heading
numbered h n =
    record { kind = h.kind; day = h.day; first = h.first; number = h.number; second = h.second; output = n; third = h.third }

-- the second step: the output number and the bytes. '15: output number not in its class', '16: target under 54 bytes'
abbrev pub issue_refusals : ℕ → ItemNo → ℕ → List Refusal
issue_refusals kind n room = (15 if not (in_class kind n.0)) ∷ (16 if ltb room 54) ∷ []

unfoldable pub issued_target : ℕ → Heading → ItemNo → List ℕ → List ℕ
issued_target kind g n target = target_after (first (issue_refusals kind n (length target))) (heading_text (numbered g n)) target

-- ---- telling
-- document 01's number for each refusal
abbrev pub untold_number : TellError → ℕ
untold_number NoHeading = 11
untold_number (Turn e) = refusal_number e

-- and for each answer
abbrev pub told_number : {T : Type 0} → Result T TellError → ℕ
told_number (Ok x) = 0
told_number (Err e) = untold_number e

-- its outgoing type, or another number where it is a refusal
abbrev pub told_kind : Result Going TellError → ℕ → ℕ
told_kind (Ok going) old = going.kind
told_kind (Err e) old = old

-- its recipient's code, or another number where it is a refusal
abbrev pub told_recipient : Result Going TellError → ℕ → ℕ
told_recipient (Ok going) old = going.recipient.0
told_recipient (Err e) old = old

-- '11: not 54 bytes in the heading layout'; then the refusals of the first step
abbrev pub turn_refusals_of : Option Heading → ℕ → ℕ → List Refusal
turn_refusals_of None o p = (11 if true) ∷ []
turn_refusals_of (Some h) o p = turn_refusals h o p

-- of a heading text, an outcome and a standing
unfoldable pub tell_refusals : List ℕ → ℕ → ℕ → List Refusal
tell_refusals s o p = turn_refusals_of (heading_of s) o p

abbrev pub kind_told : Option Heading → ℕ → ℕ
kind_told None o = 0
kind_told (Some h) o = (turned h o).kind

-- 'the recipient': the second code of the outgoing heading
abbrev pub recipient_of : Option Heading → ℕ → ℕ
recipient_of None o = 0
recipient_of (Some h) o = (turned h o).second.0

-- the outgoing type and the recipient of a heading text and an outcome
unfoldable pub outgoing_kind : List ℕ → ℕ → ℕ
outgoing_kind s o = kind_told (heading_of s) o

unfoldable pub recipient : List ℕ → ℕ → ℕ
recipient s o = recipient_of (heading_of s) o

-- a number where nothing is refused, and on a refusal what stood there
abbrev pub granted : ℕ → ℕ → ℕ → ℕ
granted refusal new old = cond (eqb refusal 0) new old

-- what telling answers
pub record Tells (s : List ℕ) (o p : ℕ) (r : Result Going TellError) : Type 0 where
  pub number : told_number r ≡ first (tell_refusals s o p)
  pub kind : (old : ℕ) → told_kind r old ≡ granted (first (tell_refusals s o p)) (outgoing_kind s o) old
  pub code : (old : ℕ) → told_recipient r old ≡ granted (first (tell_refusals s o p)) (recipient s o) old

-- ---- deriving
-- document 01's number for each refusal
abbrev pub underived_number : DeriveError → ℕ
underived_number (Tell e) = untold_number e
underived_number NotInClass = 15
underived_number TooShort = 16

-- and for each answer
abbrev pub derived_number : Result (Unit {0}) DeriveError → ℕ
derived_number (Ok done) = 0
derived_number (Err e) = underived_number e

-- the refusals of the second step
abbrev pub issue_refusals_of : Option Heading → ItemNo → ℕ → List Refusal
issue_refusals_of None n room = []
issue_refusals_of (Some h) n room = issue_refusals h.kind n room

-- of a heading text, an output number and a target's length
unfoldable pub number_refusals : List ℕ → ItemNo → ℕ → List Refusal
number_refusals s n room = issue_refusals_of (heading_of s) n room

-- '.. with refusals 11 to 14; the other takes the number and writes, with 11 to 16': telling's, and then those of the number
unfoldable pub derive_refusals : List ℕ → ℕ → ℕ → ItemNo → ℕ → List Refusal
derive_refusals s o p n room = tell_refusals s o p ++ number_refusals s n room

abbrev pub outgoing_text : Option Heading → ℕ → ItemNo → List ℕ
outgoing_text None o n = []
outgoing_text (Some h) o n = heading_text (numbered (turned h o) n)

-- the target after deriving
unfoldable pub derived_target : List ℕ → ℕ → ℕ → ItemNo → List ℕ → List ℕ
derived_target s o p n target =
    target_after (first (derive_refusals s o p n (length target))) (outgoing_text (heading_of s) o n) target

-- what deriving answers, and the target after
pub record Derives (s : List ℕ) (o p : ℕ) (n : ItemNo) (t₀ : List ℕ) (r : Result (Unit {0}) DeriveError) (t : List ℕ) : Type 0 where
  pub number : derived_number r ≡ first (derive_refusals s o p n (length t₀))
  pub target : t ≡ derived_target s o p n t₀
