-- Cases of writing an output file (document 02, A7, amended by A12): items, what goes with them, and the file; or the number of the refusal. The
-- CERTIS code is 999 and the accounting day 4 March 2024, where a case does not say another.
use Rattle.std.specs.Prelude.{ℕ, ◌-◌, Bool, List, [], ◌∷◌, ◌++◌, eqb, length, take}
use Prim.Native.String.{String, ◌++◌ as ◌++ˢ◌}
use Rattle.laws.specs.Ascii.{ascii}
use Rattle.laws.specs.Refusals.{first}
use Rattle.outgoing_lines.specs.Outgoing.{Orders}
use Rattle.delivery.specs.Delivery.{output_file, deliver_refusals}
use Rattle.cases.specs.Cases.{same, bytes_of}

-- the bytes of a slice: CR LF after each line, and no mark
abbrev slice_of : List String → List ℕ
slice_of [] = []
slice_of (l ∷ ls) = ascii l ++ (ascii "\r\n" ++ slice_of ls)

-- outcomes, standings, and the first output number
abbrev orders : List ℕ → List ℕ → ℕ → Orders
orders outcomes standings start = record { outcomes = outcomes; standings = standings; start = start }

abbrev writes : List String → Orders → List String → Bool
writes items q file = same (output_file (slice_of items) q 999 20240304) (bytes_of file)

-- with so many bytes lent
abbrev refuses_by : ℕ → List ℕ → Orders → ℕ → Bool
refuses_by k items q room = eqb (first (deliver_refusals items q 999 20240304 room)) k

-- .. more than any of these files takes
abbrev refuses : ℕ → List String → Orders → Bool
refuses k items q = refuses_by k (slice_of items) q 10000

-- an item of 300's to 710, of a type, by its number
abbrev sent : String → String → List String → List String
sent kind number items = ("HD:" ++ˢ kind ++ˢ " 20240304 0000300 " ++ˢ number ++ˢ " 0000710 0000000 0000000") ∷ "KC:12500 20240304" ∷ items

-- two items for 300: one that the checklist refuses, and one of 990's
abbrev two : List String
two =
    "HD:12 20240304 0000300 0000017 0000710 0000000 0000000" ∷
    "KC:12500 20240304" ∷
    "EC:5" ∷
    "AV:x" ∷
    "   y" ∷
    "HD:35 20240304 0000990 0000009 0000820 0000000 0000300" ∷
    "KC:7 20240304" ∷ []

abbrev two_out : List String
two_out =
    "HD:62 20240304 0000300 0000017 0000300 0000042 0000710" ∷
    "KC:12500 20240304" ∷
    "EC:9999999999" ∷
    "AV:x" ∷
    "   y" ∷
    "HD:16 20240304 0000990 0000009 0000300 0000043 0000820" ∷
    "KC:7 20240304" ∷
    "HD:51 20240304 0000999 0000000 0000300 0000000 0000000" ∷
    "IN:42 43" ∷
    "S1:1 7" ∷
    "S6:1 12500" ∷ []

abbrev both : Orders
both = orders (8 ∷ 1 ∷ []) (1 ∷ 2 ∷ []) 42

abbrev pub deliveries : List Bool
deliveries =
    writes two both two_out ∷
    refuses_by 0 (slice_of two) both (length (bytes_of two_out)) ∷
    -- '34, target too short'
    refuses_by 34 (slice_of two) both (length (bytes_of two_out) - 1) ∷
    -- '1' and '2' come first
    eqb (first (deliver_refusals [] (orders [] [] 1) 0 20240230 0)) 1 ∷
    eqb (first (deliver_refusals [] (orders [] [] 1) 10000 20240304 0)) 1 ∷
    eqb (first (deliver_refusals [] (orders [] [] 1) 999 20240230 0)) 2 ∷
    -- '30, no items .. or not one outcome each'; 'with a standing for each item'
    refuses 30 [] (orders [] [] 1) ∷
    refuses 30 ("ZZ:" ∷ []) (orders [] [] 1) ∷
    refuses 30 two (orders (8 ∷ []) (1 ∷ 2 ∷ []) 42) ∷
    refuses 30 two (orders (8 ∷ 1 ∷ []) (1 ∷ 2 ∷ 1 ∷ []) 42) ∷
    -- '31, a line breaks a rule': the last has no CR LF; a line stands before the first heading. 12, which
    -- all these items break, bars nothing
    refuses_by 31 (take (length (slice_of two) - 2) (slice_of two)) both 10000 ∷
    refuses 31 ("AV:x" ∷ two) both ∷
    -- .. or 'an item is refused by deriving', here for its number; 'its recipient .. isn't the first one's'
    refuses 31 (sent "11" "0000001" (sent "01" "0000002" [])) (orders (1 ∷ 1 ∷ []) (1 ∷ 1 ∷ []) 4999999) ∷
    refuses 31 two (orders (1 ∷ 1 ∷ []) (1 ∷ 2 ∷ []) 42) ∷
    -- '32, priority classes .. mixed with others'
    refuses 32 (sent "11" "0000001" (sent "01" "0000002" [])) (orders (1 ∷ 1 ∷ []) (1 ∷ 1 ∷ []) 5000000) ∷
    refuses 0 (sent "11" "0000001" (sent "12" "0000002" [])) (orders (1 ∷ 1 ∷ []) (1 ∷ 1 ∷ []) 1) ∷ []
