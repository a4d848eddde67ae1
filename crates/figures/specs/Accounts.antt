-- The account check (document 01, 'Account check'; 002, 3.2; decree 169/2011; document 02, A4), and the open job.
use Rattle.std.specs.Prelude.{◌≡◌, ℕ, ◌+◌, ◌-◌, ◌*◌, ◌%◌, ◌^◌, Bool, cond, not, ◌&&◌, List, [], ◌∷◌, length, ◌==◌, Option, Some, None, Result, Ok, Err}
use Rattle.laws.specs.Refusals.{Refusal, ◌if◌, first}
use Rattle.text.specs.Digits.{value}
use Rattle.figures.specs.declared.accounts.AccountError.{AccountError}
use Rattle.figures.specs.declared.accounts.AccountError.TheVariants.{NotDigits}
use Rattle.figures.specs.declared.parts.PartRead.{PartRead}
use Rattle.figures.specs.declared.parts.Number.{Number}
use Rattle.figures.specs.declared.parts.Number.TheVariants.{Good, Failing, Zero}
use Rattle.figures.specs.declared.parts.Halves.{Halves}
use Rattle.figures.specs.Layouts.{num, fits}

-- the weight of a digit that k others follow (document 02, A6: 'powers of two by remainder of 11'); `as_listed` (proofs/Weights.antt)
-- computes that for 0 to 9 they are document 01's 1, 2, 4, 8, 5, 10, 9, 7, 3, 6
unfoldable pub weight : ℕ → ℕ
weight k = 2 ^ k % 11

-- the sum of the digits of a part, each times its weight
unfoldable pub weighed : List ℕ → ℕ
weighed [] = 0
weighed (b ∷ bs) = weight (length bs) * (b - 48) + weighed bs

-- 'the sum divides by 11'; that of an empty part is 0
unfoldable pub passes : List ℕ → Bool
passes bs = weighed bs % 11 == 0

-- 'number good, failing or zero', and at zero 'the sum isn't judged'
abbrev pub number_by : Bool → Bool → Number
number_by zero passes = cond zero Zero (cond passes Good Failing)

-- what is answered 'for each half': 'prefix good or failing', and the number
unfoldable pub halves_of : List ℕ → List ℕ → Halves
halves_of prefix number = record { prefix = passes prefix; number = number_by (value number == 0) (passes number) }

-- what is told of a part of at most so many digits
unfoldable pub part_of : ℕ → List ℕ → Option PartRead
part_of most bs = cond (fits (num 0 most ∷ []) bs) (Some (record { some = not (value bs == 0); passes = passes bs })) None

-- a first part of 0 to 6 digits and a second of 1 to 10
abbrev pub are_digits : List ℕ → List ℕ → Bool
are_digits prefix number = fits (num 0 6 ∷ []) prefix && fits (num 1 10 ∷ []) number

abbrev pub Account : Type 0
Account = Result Halves AccountError

abbrev pub account_by : Bool → Halves → Account
account_by digits halves = cond digits (Ok halves) (Err NotDigits)

-- the answer of the open job
unfoldable pub account_of : List ℕ → List ℕ → Account
account_of prefix number = account_by (are_digits prefix number) (halves_of prefix number)

-- its one refusal
abbrev pub account_refusals : List ℕ → List ℕ → List Refusal
account_refusals prefix number = (10 if not (are_digits prefix number)) ∷ []

-- document 01's number of each answer, 0 where nothing is refused
abbrev pub account_number : Account → ℕ
account_number (Ok h) = 0
account_number (Err NotDigits) = 10

-- the two halves as numbers: 0 good, 1 failing, 2 zero
abbrev pub prefix_answer : Bool → ℕ
prefix_answer good = cond good 0 1

abbrev pub number_answer : Number → ℕ
number_answer Good = 0
number_answer Failing = 1
number_answer Zero = 2

-- and those of each answer; on a refusal what stood there before
abbrev pub prefix_value : Account → ℕ → ℕ
prefix_value (Ok h) old = prefix_answer h.prefix
prefix_value (Err e) old = old

abbrev pub number_value : Account → ℕ → ℕ
number_value (Ok h) old = number_answer h.number
number_value (Err e) old = old

-- what the open job promises of its answer: document 01's number for it, and what it says of the two halves
abbrev pub Judges : List ℕ → List ℕ → Account → Type 0
Judges prefix number r = (account_number r ≡ first (account_refusals prefix number)) × (r ≡ account_of prefix number)
