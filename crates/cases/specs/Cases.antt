-- Document 01's cases marked P ('Both sides of the mark'), those of A12 and A13, and the file of 'The listing program', in one table; of
-- accounts and of that file as document 02, A4, has them.
-- What a rule says of a heading or a KC is said by all the faults of a whole file: a case that stands has none.
use Rattle.std.specs.Prelude.{ℕ, Bool, not, ◌&&◌, List, [], ◌∷◌, ◌++◌, map, length, replicate, eqb}
use Prim.Native.String.{String, ◌++◌ as ◌++ˢ◌}
use Rattle.laws.specs.Ascii.{ascii}
use Rattle.laws.specs.Refusals.{first}
use Rattle.text.specs.Characters.{is_admissible}
use Rattle.text.specs.Strings.{begins}
use Rattle.days.specs.Days.{is_real}
use Rattle.outcomes.specs.Deriving.{tell_refusals, outgoing_kind, recipient, derive_refusals, derived_target}
use Rattle.figures.specs.Accounts.{weighed, account_of, prefix_value, number_value}
use Rattle.rules.specs.Terms.{input}
use Rattle.rules.specs.Faults.{Fault, fault, faults}

pub data Case : Type 0 where
  -- a byte may stand in a text, or may not
  admissible inadmissible : ℕ → Case
  -- a part of an account, and the sum of its digits times their weights
  weighs : String → ℕ → Case
  -- the two parts of an account: what the open check answers for each, 0 good, 1 failing, 2 zero
  account : String → String → ℕ → ℕ → Case
  -- a day that is not real
  unreal : ℕ → Case
  -- the submitter's code, the accounting day, a file: these are its faults, and there is no other
  faulty : ℕ → ℕ → List String → List Fault → Case
  -- a heading text, an outcome, a standing, an output number: the heading that goes out, or the refusal
  derives : String → ℕ → ℕ → ℕ → String → Case
  refuses : String → ℕ → ℕ → ℕ → ℕ → Case
  -- a heading text, an outcome, a standing: the outgoing type and the recipient, or the refusal
  tells : String → ℕ → ℕ → ℕ → ℕ → Case
  untold : String → ℕ → ℕ → ℕ → Case

abbrev pub same : List ℕ → List ℕ → Bool
same xs ys = begins xs ys && eqb (length xs) (length ys)

abbrev pub line_of : Fault → ℕ
line_of f = f.line

abbrev pub rule_of : Fault → ℕ
rule_of f = f.rule

abbrev pub same_faults : List Fault → List Fault → Bool
same_faults xs ys = same (map line_of xs) (map line_of ys) && same (map rule_of xs) (map rule_of ys)

-- the bytes of a file: CR LF after each line, then 1A
abbrev pub bytes_of : List String → List ℕ
bytes_of [] = 0x1A ∷ []
bytes_of (l ∷ ls) = ascii l ++ (ascii "\r\n" ++ bytes_of ls)

-- a target of 54 bytes
abbrev pub blank : List ℕ
blank = replicate 54 0

-- the open check's answers are asked for over a 9, so that a refusal is none of them
abbrev pub holds : Case → Bool
holds (admissible b) = is_admissible b
holds (inadmissible b) = not (is_admissible b)
holds (weighs part sum) = eqb (weighed (ascii part)) sum
holds (account prefix number first second) =
    eqb (prefix_value (account_of (ascii prefix) (ascii number)) 9) first && eqb (number_value (account_of (ascii prefix) (ascii number)) 9) second
holds (unreal day) = not (is_real day)
holds (faulty code today file fs) = same_faults (faults (input code today) (bytes_of file)) fs
holds (derives text outcome standing number out) = same (derived_target (ascii text) outcome standing (record { 0 = number }) blank) (ascii out)
holds (refuses text outcome standing number k) = eqb (first (derive_refusals (ascii text) outcome standing (record { 0 = number }) (length blank))) k
holds (tells text outcome standing kind code) =
    eqb (first (tell_refusals (ascii text) outcome standing)) 0
    && (eqb (outgoing_kind (ascii text) outcome) kind && eqb (recipient (ascii text) outcome) code)
holds (untold text outcome standing k) = eqb (first (tell_refusals (ascii text) outcome standing)) k

-- a heading day, an amount and its day: a 32 and the 51 that closes its block
abbrev pub block : String → String → String → List String
block day amount due =
    ("HD:32 " ++ˢ day ++ˢ " 0000300 0000001 0000710 0000000 0000000") ∷
    ("KC:" ++ˢ amount ++ˢ " " ++ˢ due) ∷
    ("HD:51 " ++ˢ day ++ˢ " 0000300 0000000 0000999 0000000 0000000") ∷
    "IN:1 1" ∷
    ("S3:1 " ++ˢ amount) ∷ []

abbrev pub example : List String
example =
    "HD:11 20240304 0000301 0000001 0000710 0000000 0000000" ∷
    "KC:12500 20240304" ∷
    "UD: 2000145398" ∷
    "HD:51 20240304 0000300 0000000 0000999 0000000 0000000" ∷
    "IN:1 1" ∷
    "S1:1 12600" ∷ []

-- the headings of the cases of deriving: an 11, a 12, a 35 and a 45
abbrev pub eleven : String
eleven = "HD:11 20240304 0000300 0000017 0000710 0000000 0000000"

abbrev pub twelve : String
twelve = "HD:12 20240304 0000300 0000017 0000710 0000000 0000000"

abbrev pub thirty_five : String
thirty_five = "HD:35 20240304 0000990 0000001 0000300 0000000 0000710"

abbrev pub forty_five : String
forty_five = "HD:45 20240304 0000990 0000001 0000300 0000000 0000710"

abbrev pub marked : List Case
marked =
    -- 'DE admissible, DF not'
    admissible 0xDE ∷
    inadmissible 0xDF ∷
    -- '2000145399 passes (sum 121), 2000145398 fails (120); number 0 fails'
    account "" "2000145399" 0 0 ∷ weighs "2000145399" 121 ∷
    account "" "2000145398" 0 1 ∷ weighs "2000145398" 120 ∷
    account "" "0" 0 2 ∷
    -- 'accounting day 20240304: heading day 20240223 stands, 20240222 breaks 11. 20230229 isn't real'
    faulty 300 20240304 (block "20240223" "12500" "20240304") [] ∷
    faulty 300 20240304 (block "20240222" "12500" "20240304") (fault 1 11 ∷ fault 3 11 ∷ []) ∷
    unreal 20230229 ∷
    -- '32 with day 20240403 stands, 20240404 breaks 8; amount 100000000000 stands, one more breaks 9'
    faulty 300 20240304 (block "20240304" "12500" "20240403") [] ∷
    faulty 300 20240304 (block "20240304" "12500" "20240404") (fault 2 8 ∷ []) ∷
    faulty 300 20240304 (block "20240304" "100000000000" "20240304") [] ∷
    faulty 300 20240304 (block "20240304" "100000000001" "20240304") (fault 2 9 ∷ []) ∷
    -- the two headings, and outcome 5 for the second; the first is a direct sender's, the second either's
    derives twelve 6 1 42 "HD:62 20240304 0000300 0000017 0000300 0000042 0000710" ∷
    derives thirty_five 1 1 7 "HD:16 20240304 0000990 0000001 0000710 0000007 0000300" ∷
    derives thirty_five 1 2 7 "HD:16 20240304 0000990 0000001 0000710 0000007 0000300" ∷
    refuses thirty_five 5 1 7 14 ∷
    refuses thirty_five 5 2 7 14 ∷
    -- A12: told before a number is spent
    tells twelve 6 1 62 300 ∷
    tells thirty_five 1 2 16 710 ∷
    -- 'A third party may send only 35, 37 and 45; its other headings are refused with 12', also before 13
    untold twelve 6 2 12 ∷
    refuses twelve 6 2 42 12 ∷
    refuses eleven 9 2 1 12 ∷
    -- '1 direct or 2 third party (13 otherwise)', also before 14
    untold eleven 1 0 13 ∷
    untold eleven 1 3 13 ∷
    refuses eleven 2 3 0 13 ∷
    -- 'For a direct sender of a 45, outcomes 5 and 6 are refused with 14', also before 15
    tells forty_five 4 1 65 300 ∷
    untold forty_five 5 1 14 ∷
    untold forty_five 6 1 14 ∷
    refuses forty_five 5 1 0 14 ∷
    tells forty_five 5 2 05 990 ∷
    tells forty_five 6 2 69 990 ∷
    tells forty_five 7 1 75 990 ∷
    derives forty_five 5 2 5000001 "HD:05 20240304 0000300 0000001 0000990 5000001 0000710" ∷
    -- A13's exception is real: an 01 and a 21 returned as 61 under one number
    derives "HD:01 20240304 0000300 0000017 0000710 0000000 0000000" 6 1 5000001 "HD:61 20240304 0000300 0000017 0000300 5000001 0000710" ∷
    derives "HD:21 20240304 0000300 0000017 0000710 0000000 0000000" 6 1 5000001 "HD:61 20240304 0000300 0000017 0000300 5000001 0000710" ∷
    -- the file of 'The listing program'; A4: 'document 01's listing then has `line 3 rule 23`', its number being what fails
    faulty 300 20240304 example (fault 1 12 ∷ fault 3 23 ∷ fault 4 31 ∷ []) ∷ []
