-- The types of items that documents 01 and 02 name, each set one list.
use Rattle.std.specs.Prelude.{ℕ, ◌/◌, Bool, not, ◌&&◌, List, [], ◌∷◌, eqb}
use Rattle.laws.specs.Tests.{among}

-- the input types (rule 10); 96, 97 and 98 by document 02, A3
abbrev pub input_types : List ℕ
input_types = 01 ∷ 11 ∷ 12 ∷ 13 ∷ 14 ∷ 21 ∷ 32 ∷ 33 ∷ 35 ∷ 37 ∷ 44 ∷ 45 ∷ 51 ∷ 55 ∷ 96 ∷ 97 ∷ 98 ∷ []

-- those with a third code (rule 14)
abbrev pub trilateral_types : List ℕ
trilateral_types = 35 ∷ 37 ∷ 45 ∷ []

-- 'priority is 01, 21, 44, 45' (rule 20)
abbrev pub priority_types : List ℕ
priority_types = 01 ∷ 21 ∷ 44 ∷ 45 ∷ []

-- the type that closes a block
abbrev pub is_closing : ℕ → Bool
is_closing kind = eqb kind 51

unfoldable pub is_input : ℕ → Bool
is_input kind = among kind input_types

unfoldable pub is_trilateral : ℕ → Bool
is_trilateral kind = among kind trilateral_types

unfoldable pub is_priority : ℕ → Bool
is_priority kind = among kind priority_types

-- an input type other than 51
unfoldable pub is_payment : ℕ → Bool
is_payment kind = is_input kind && not (is_closing kind)

-- the group of a type: its tens digit (rules 30 to 39)
abbrev pub group_of : ℕ → ℕ
group_of kind = kind / 10
