-- Cases of document 02's requests on checking, deriving and the account check, for the submitter 300 and the accounting day 4 March 2024: a
-- file's bytes and the number of the refusal, 0 for none; a file and all its faults; a heading and what deriving answers; an account;
-- where a line starts.
use Rattle.std.specs.Prelude.{ℕ, Bool, List, [], ◌∷◌, ◌++◌, map, eqb}
use Prim.Native.String.{String, ◌++◌ as ◌++ˢ◌}
use Rattle.laws.specs.Ascii.{ascii}
use Rattle.laws.specs.Refusals.{first}
use Rattle.laws.specs.Tests.{every}
use Rattle.rules.specs.Terms.{input}
use Rattle.rules.specs.Faults.{Fault, fault}
use Rattle.listing.specs.Checking.{check_refusals, offset_at}
use Rattle.cases.specs.Cases.{account, faulty, refuses, untold, holds, bytes_of, example}
use Rattle.cases.specs.EachRule.{with}

-- the third line of a file that has no other fault, with what goes on below it: the rules broken there
abbrev breaks : List String → List ℕ → Bool
breaks field rules = holds (faulty 300 20240304 (with field) (map (fault 3) rules))

-- a file's bytes, and the number of the refusal, 0 for none
abbrev answers : ℕ → List ℕ → Bool
answers k file = eqb (first (check_refusals file (input 300 20240304) 0 0 0)) k

-- .. with slices of these lengths lent
abbrev lent : ℕ → ℕ → ℕ → ℕ → Bool
lent k m n o = eqb (first (check_refusals (bytes_of example) (input 300 20240304) m n o)) k

-- what stands beside a fault at a line
abbrev starts : List ℕ → ℕ → ℕ → Bool
starts file line k = eqb (offset_at file (fault line 1)) k

abbrev mark : List ℕ
mark = 0x1A ∷ []

abbrev has : List String → List Fault → Bool
has file fs = holds (faulty 300 20240304 file fs)

-- ---- A3: items of types 96, 97 and 98
abbrev headed : (kind number third : String) → String
headed kind number third = "HD:" ++ˢ kind ++ˢ " 20240304 0000300 " ++ˢ number ++ˢ " 0000710 0000000 " ++ˢ third

-- the 51 of a block with the numbers 1 to n, with some fields more
abbrev closing : String → List String → List String
closing n fields = headed "51" "0000000" "0000000" ∷ ("IN:1 " ++ˢ n) ∷ fields

-- one item of 12500, with its day and the fields of its 51
abbrev alone : (kind due : String) → List String → List String
alone kind due fields = headed kind "0000001" "0000000" ∷ ("KC:12500 " ++ˢ due) ∷ closing "1" fields

abbrev paid : (kind number : String) → List String → List String
paid kind number file = headed kind number "0000000" ∷ "KC:12500 20240304" ∷ file

-- a direct sender's heading of this type has no entry under any outcome
abbrev no_entry : String → Bool
no_entry kind = every (map (λ (o : ℕ). holds (untold (headed kind "0000017" "0000000") o 1 14)) (1 ∷ 2 ∷ 3 ∷ 4 ∷ 5 ∷ 6 ∷ 7 ∷ []))

abbrev pub requested : List Bool
requested =
    -- A4: 'Rule 7 now means the prefix; 23 is a number that fails; 24 is a number of zero, where the sum isn't judged'
    breaks ("UD: 2000145398" ∷ []) (23 ∷ []) ∷
    breaks ("UD:20 2000145399" ∷ []) (7 ∷ []) ∷
    breaks ("UD:19 0000000000" ∷ []) (24 ∷ []) ∷
    breaks ("UK:000000 2000145399" ∷ []) [] ∷
    -- 'A field can break 7 together with 23 or 24'
    breaks ("UD:20 2000145398" ∷ []) (7 ∷ 23 ∷ []) ∷
    breaks ("UK:20 0" ∷ []) (7 ∷ 24 ∷ []) ∷
    -- one that doesn't read breaks none of them
    breaks ("UD:0000019 19" ∷ []) (6 ∷ []) ∷
    breaks ("UD:20 0" ∷ "   goes on" ∷ []) (6 ∷ []) ∷
    -- 'The account check shall answer for each half'
    holds (account "" "0" 0 2) ∷
    holds (account "20" "19" 1 0) ∷
    holds (account "20" "20" 1 1) ∷
    -- A10: '9, after 5 and before 6'
    answers 9 (ascii "x" ++ (mark ++ ascii "y")) ∷
    answers 9 (bytes_of example ++ ascii "\n") ∷
    answers 9 (mark ++ mark) ∷
    answers 6 mark ∷
    answers 5 (ascii "x") ∷
    answers 0 (bytes_of example) ∷
    -- A3: 'they are input types .. with a KC whose day need only be real'; the types beside them are not
    has (alone "96" "20991231" ("S9:1 12500" ∷ [])) [] ∷
    has (alone "98" "00010101" ("S9:1 12500" ∷ [])) [] ∷
    has (alone "97" "20230229" ("S9:1 12500" ∷ [])) (fault 2 8 ∷ []) ∷
    has (alone "95" "20240304" []) (fault 1 10 ∷ []) ∷
    has (alone "99" "20240304" []) (fault 1 10 ∷ []) ∷
    has (headed "96" "0000001" "0000000" ∷ closing "1" []) (fault 1 15 ∷ []) ∷
    -- 'bilateral in rule 14', 'non-priority'
    has (headed "96" "0000001" "0000990" ∷ "KC:1 20240304" ∷ closing "1" ("S9:1 1" ∷ [])) (fault 1 14 ∷ []) ∷
    has (paid "96" "0000001" (paid "11" "0000002" (closing "2" ("S1:1 12500" ∷ "S9:1 12500" ∷ [])))) [] ∷
    has (paid "21" "0000001" (paid "96" "0000002" (closing "2" ("S2:1 12500" ∷ "S9:1 12500" ∷ [])))) (fault 3 20 ∷ []) ∷
    -- 'group 9 joins as rule 39': all three together, and an absent S9 means 0 and 0
    has (paid "96" "0000001" (paid "97" "0000002" (paid "98" "0000003" (closing "3" ("S9:3 37500" ∷ []))))) [] ∷
    has (alone "96" "20991231" ("S9:1 12600" ∷ [])) (fault 3 39 ∷ []) ∷
    has (alone "96" "20991231" []) (fault 3 39 ∷ []) ∷
    has (alone "11" "20240304" ("S1:1 12500" ∷ "S9:0 0" ∷ [])) [] ∷
    -- 'S9 reads as S0 does', in every item
    has (alone "96" "20991231" ("S9:x" ∷ [])) (fault 5 6 ∷ []) ∷
    has (headed "11" "0000001" "0000000" ∷ "KC:1 20240304" ∷ "S9:any text" ∷ closing "1" ("S1:1 1" ∷ [])) (fault 3 6 ∷ []) ∷
    -- 'Deriving answers 14 for them', after 12 and 13
    no_entry "96" ∷
    no_entry "97" ∷
    no_entry "98" ∷
    holds (refuses (headed "97" "0000017" "0000000") 1 1 7 14) ∷
    holds (refuses (headed "97" "0000017" "0000000") 9 1 7 13) ∷
    holds (refuses (headed "96" "0000017" "0000000") 1 2 7 12) ∷
    holds (refuses (headed "98" "0000017" "0000990") 1 1 7 12) ∷
    -- A11: 'the offset of the line's first byte', of the lines of the example's faults, and of two empty lines and a rest
    starts (bytes_of example) 1 0 ∷
    starts (bytes_of example) 3 75 ∷
    starts (bytes_of example) 4 91 ∷
    starts (ascii "\r\n\r\nx" ++ mark) 1 0 ∷
    starts (ascii "\r\n\r\nx" ++ mark) 2 2 ∷
    starts (ascii "\r\n\r\nx" ++ mark) 3 4 ∷
    -- 'Refusal 4 now covers three slices'
    lent 4 1 1 0 ∷
    lent 4 1 0 1 ∷
    lent 4 0 1 1 ∷
    lent 0 1 1 1 ∷ []
