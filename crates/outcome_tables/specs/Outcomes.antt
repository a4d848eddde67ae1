-- Outcomes and outgoing headings (document 01; 000, 4 and 5): the table of types, the codes, the classes of output numbers.
-- Outcomes: 1 beneficiary made, 2 beneficiary no funds, 3 payer made, 4 payer no funds, 5 sender made, 6 sender no funds, 7 formal error.
use Rattle.std.specs.Prelude.{ℕ, ◌-◌, Bool, cond, ◌&&◌, List, [], ◌∷◌, get_or, leb, eqb}
use Rattle.laws.specs.Tests.{among}
use Rattle.headings.specs.declared.Code.{Code}
use Rattle.headings.specs.ItemTypes.{is_priority}
use Rattle.outcome_tables.specs.declared.Codes.{Codes}

-- a row: the input type, and the outgoing types for outcomes 1 to 7; 00 where document 01 has a dash. 96, 97 and 98 have no row:
-- 'Deriving answers 14 for them' (document 02, A3)
pub data TypeRow : Type 0 where
  row : ℕ → List ℕ → TypeRow

abbrev pub table : List TypeRow
table =
    row 01 (01 ∷ 00 ∷ 00 ∷ 00 ∷ 00 ∷ 61 ∷ 71 ∷ []) ∷
    row 11 (11 ∷ 00 ∷ 00 ∷ 00 ∷ 00 ∷ 61 ∷ 71 ∷ []) ∷
    row 21 (21 ∷ 00 ∷ 00 ∷ 00 ∷ 00 ∷ 61 ∷ 71 ∷ []) ∷
    row 12 (12 ∷ 00 ∷ 00 ∷ 00 ∷ 00 ∷ 62 ∷ 72 ∷ []) ∷
    row 13 (13 ∷ 00 ∷ 00 ∷ 00 ∷ 00 ∷ 63 ∷ 73 ∷ []) ∷
    row 14 (14 ∷ 00 ∷ 00 ∷ 00 ∷ 00 ∷ 64 ∷ 74 ∷ []) ∷
    row 32 (32 ∷ 00 ∷ 00 ∷ 00 ∷ 00 ∷ 00 ∷ 82 ∷ []) ∷
    row 33 (33 ∷ 00 ∷ 00 ∷ 00 ∷ 00 ∷ 00 ∷ 83 ∷ []) ∷
    row 55 (55 ∷ 00 ∷ 00 ∷ 00 ∷ 00 ∷ 00 ∷ 85 ∷ []) ∷
    row 44 (44 ∷ 00 ∷ 00 ∷ 00 ∷ 00 ∷ 00 ∷ 84 ∷ []) ∷
    row 35 (16 ∷ 66 ∷ 15 ∷ 65 ∷ 00 ∷ 00 ∷ 75 ∷ []) ∷
    row 37 (18 ∷ 68 ∷ 17 ∷ 67 ∷ 00 ∷ 00 ∷ 77 ∷ []) ∷
    row 45 (26 ∷ 66 ∷ 25 ∷ 65 ∷ 05 ∷ 69 ∷ 75 ∷ []) ∷ []

-- the outgoing types of an input type; none where the table has no row
abbrev pub entries : List TypeRow → ℕ → List ℕ
entries [] kind = []
entries (row k es ∷ rs) kind = cond (eqb kind k) es (entries rs kind)

-- the outgoing type of an input type and an outcome from 1 to 7; 0 where the table has no entry
unfoldable pub outgoing : ℕ → ℕ → ℕ
outgoing kind outcome = get_or (entries table kind) (outcome - 1) 0

abbrev pub three : Code → Code → Code → Codes
three first second third = record { first = first; second = second; third = third }

abbrev pub no_code : Code
no_code = record { 0 = 0 }

-- 'from bilateral A B 0: outcome 1 keeps them, 6 and 7 give A A B'; for 2 to 5 the table has no entry, and nothing is asked
abbrev pub bilateral_codes : Code → Code → List Codes
bilateral_codes a b =
    three a b no_code ∷
    three a b no_code ∷
    three a b no_code ∷
    three a b no_code ∷
    three a b no_code ∷
    three a a b ∷
    three a a b ∷ []

-- 'From T A B: 3, 4 keep; 1, 2 give T B A; 5, 6, 7 give A T B'
abbrev pub trilateral_codes : Code → Code → Code → List Codes
trilateral_codes t a b =
    three t b a ∷
    three t b a ∷
    three t a b ∷
    three t a b ∷
    three a t b ∷
    three a t b ∷
    three a t b ∷ []

-- the three codes for an outcome from 1 to 7, from those of a trilateral or a bilateral heading
unfoldable pub codes : Bool → ℕ → Code → Code → Code → Codes
codes trilateral outcome x y z =
    get_or (cond trilateral (trilateral_codes x y z) (bilateral_codes x y)) (outcome - 1) (three no_code no_code no_code)

abbrev within : ℕ → ℕ → ℕ → Bool
within least greatest n = leb least n && leb n greatest

-- 'Output number classes, by input type: non-priority 1–5,000,000, priority except 44 5,000,001–9,000,000, 44 9,000,001–9,999,999'
unfoldable pub in_class : ℕ → ℕ → Bool
in_class kind n =
    cond (eqb kind 44) (within 9000001 9999999 n)
    (cond (is_priority kind) (within 5000001 9000000 n) (within 1 5000000 n))

-- 'both were returned as 61 or both as 71'
abbrev pub returned : ℕ → Bool
returned e = among e (61 ∷ 71 ∷ [])
