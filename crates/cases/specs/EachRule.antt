-- A file for each rule of documents 01 and 02, with all its faults: the rule is broken, and no other is. In each the submitter is 300, and the
-- accounting day 4 March 2024.
use Rattle.std.specs.Prelude.{ℕ, List, [], ◌∷◌, ◌++◌}
use Prim.Native.String.{String, ◌++◌ as ◌++ˢ◌}
use Rattle.rules.specs.Faults.{fault}
use Rattle.cases.specs.Cases.{Case, faulty}

abbrev only : List String → (line rule : ℕ) → Case
only file line rule = faulty 300 20240304 file (fault line rule ∷ [])

-- a heading of a type, a day and a number
abbrev head : (kind day number : String) → String
head kind day number = "HD:" ++ˢ kind ++ˢ " " ++ˢ day ++ˢ " 0000300 " ++ˢ number ++ˢ " 0000710 0000000 0000000"

-- an item of 12500, on the accounting day
abbrev item : (kind number : String) → List String
item kind number = head kind "20240304" number ∷ "KC:12500 20240304" ∷ []

abbrev one : List String
one = item "11" "0000001"

-- a 51 with its fields, and that of a block with the one item
abbrev closing : List String → List String
closing fields = head "51" "20240304" "0000000" ∷ fields

abbrev closed : List String
closed = closing ("IN:1 1" ∷ "S1:1 12500" ∷ [])

-- the one item with some lines more, in a closed block
abbrev pub with : List String → List String
with more = one ++ (more ++ closed)

-- the one item under a heading of its own
abbrev under : String → List String
under heading = heading ∷ "KC:12500 20240304" ∷ closed

abbrev pub each_rule : List Case
each_rule =
    only (with ("AV:a\rb" ∷ [])) 3 1 ∷
    only (with ("of no kind" ∷ [])) 3 2 ∷
    only ("AV:above" ∷ with []) 1 3 ∷
    only (with [] ++ ("AV:last\u{1a}" ∷ [])) 6 4 ∷
    only (with ("AV:a" ∷ "AV:b" ∷ [])) 4 5 ∷
    only (with ("EC:" ∷ [])) 3 6 ∷
    only (with ("HD:11" ∷ [])) 3 6 ∷
    only (with ("UD:20 2000145399" ∷ [])) 3 7 ∷
    only (head "11" "20240304" "0000001" ∷ "KC:12500 20240305" ∷ closed) 2 8 ∷
    only (head "32" "20240304" "0000001" ∷ "KC:100000000001 20240304" ∷ closing ("IN:1 1" ∷ "S3:1 100000000001" ∷ [])) 2 9 ∷
    only (one ++ (head "99" "20240304" "0000002" ∷ closing ("IN:1 2" ∷ "S1:1 12500" ∷ []))) 3 10 ∷
    faulty 300 20240304 (head "11" "20240222" "0000001" ∷ "KC:12500 20240304" ∷ head "51" "20240222" "0000000" ∷ "IN:1 1" ∷ "S1:1 12500" ∷ [])
    (fault 1 11 ∷ fault 3 11 ∷ []) ∷
    only (under "HD:11 20240304 0000301 0000001 0000710 0000000 0000000") 1 12 ∷
    only (under "HD:11 20240304 0000300 0000001 0000710 0000001 0000000") 1 13 ∷
    only (under "HD:11 20240304 0000300 0000001 0000000 0000000 0000000") 1 14 ∷
    only (head "11" "20240304" "0000001" ∷ closing ("IN:1 1" ∷ [])) 1 15 ∷
    only one 1 16 ∷
    only (closing ("IN:1 1" ∷ [])) 1 17 ∷
    only (one ++ (head "11" "20240303" "0000002" ∷ "KC:1 20240304" ∷ closing ("IN:1 2" ∷ "S1:2 12501" ∷ []))) 3 18 ∷
    only (one ++ (item "11" "0000003" ++ closing ("IN:1 3" ∷ "S1:2 25000" ∷ []))) 3 19 ∷
    only (one ++ (item "21" "0000002" ++ closing ("IN:1 2" ∷ "S1:1 12500" ∷ "S2:1 12500" ∷ []))) 3 20 ∷
    only (one ++ closing ("IN:1 2" ∷ "S1:1 12500" ∷ [])) 3 21 ∷
    only (with ("UD: 2000145398" ∷ [])) 3 23 ∷
    only (with ("UK:19 0000000000" ∷ [])) 3 24 ∷
    only (one ++ (closed ++ ("S0:1 1" ∷ []))) 3 30 ∷
    only (one ++ closing ("IN:1 1" ∷ "S1:1 12501" ∷ [])) 3 31 ∷
    only (one ++ (closed ++ ("S2:1 1" ∷ []))) 3 32 ∷
    only (one ++ (closed ++ ("S3:1 1" ∷ []))) 3 33 ∷
    only (one ++ (closed ++ ("S4:1 1" ∷ []))) 3 34 ∷
    only (one ++ (closed ++ ("S5:1 1" ∷ []))) 3 35 ∷
    only (one ++ (closed ++ ("S6:1 1" ∷ []))) 3 36 ∷
    only (one ++ (closed ++ ("S7:1 1" ∷ []))) 3 37 ∷
    only (one ++ (closed ++ ("S8:1 1" ∷ []))) 3 38 ∷
    only (one ++ (closed ++ ("S9:1 1" ∷ []))) 3 39 ∷ []
