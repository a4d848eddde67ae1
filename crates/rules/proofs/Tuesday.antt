-- The Tuesday error, by computation: 'every amount is added as it stands, a 13 or 37 isn't subtracted'. A block with an 11 of 12500
-- and a 13 of 2500 has two items and 15000 in group 1.
use Prim.Native.Nat.{ℕ}
use mathlib.Core.Path.{◌≡◌, refl}
use mathlib.Core.List.{List, [], ◌∷◌, ◌++◌}
use Rattle.days.specs.Days.{is_real, is_leap, row, month_length, day_number}
use Rattle.headings.specs.ItemTypes.{is_input, is_payment, is_priority, is_trilateral}
use Rattle.headings.specs.HeadRules.{rule10, rule13, rule14}
use Rattle.rules.specs.declared.First.{First}
use Rattle.rules.specs.declared.First.TheVariants.{Missing, Says}
use Rattle.rules.specs.declared.Payment.{Payment}
use Rattle.rules.specs.declared.Range.{Range}
use Rattle.rules.specs.declared.Sum.{Sum}
use Rattle.rules.specs.declared.Digest.{Digest}
use Rattle.rules.specs.Terms.{input}
use Rattle.rules.specs.Tests.{broken_of}
use Rattle.rules.specs.Spots.{own_tests, block_tests}
use Rattle.std.specs.Prelude.{Some}

abbrev no_sum : Sum
no_sum = record { stated = Missing }

-- an item of 300, for 710, on 4 March 2024; S1 states c and s
abbrev item : (kind number : ℕ) → First Payment → First Range → (c s : ℕ) → Digest
item kind number kc span c s =
    record {
      head = Some (record {
        kind = kind;
        day = 20240304;
        first = record { 0 = 300 };
        number = record { 0 = number };
        second = record { 0 = 710 };
        output = record { 0 = 0 };
        third = record { 0 = 0 };
      });
      kc = kc;
      span = span;
      sums = record { groups = no_sum ∷ record { stated = Says (record { count = c; sum = record { 0 = s } }) } ∷ no_sum ∷ no_sum ∷ no_sum ∷ no_sum ∷ no_sum ∷ no_sum ∷ no_sum ∷ no_sum ∷ [] };
    }

abbrev payment : (kind number amount : ℕ) → Digest
payment kind number amount = item kind number (Says (record { amount = record { 0 = amount }; day = 20240304 })) Missing 0 0

abbrev block : List Digest
block = payment 13 2 2500 ∷ payment 11 1 12500 ∷ []

abbrev closing : (c s : ℕ) → Digest
closing c s = item 51 0 Missing (Says (record { first = record { 0 = 1 }; last = record { 0 = 2 } })) c s

-- the rules that are broken at its heading, 16 left aside
abbrev broken : List Digest → Digest → List ℕ
broken above it = broken_of (own_tests (input 300 20240304) it it.head ++ block_tests above it it.head)

-- a 51 that adds both as they stand has no fault
pub added : broken block (closing 2 15000) ≡ []
unfolding own_tests block_tests rule10 rule13 rule14 is_input is_payment is_priority is_trilateral is_real is_leap row month_length day_number
added = refl

-- a 51 that takes the 13 off breaks 31
pub subtracted : broken block (closing 2 10000) ≡ 31 ∷ []
unfolding own_tests block_tests rule10 rule13 rule14 is_input is_payment is_priority is_trilateral is_real is_leap row month_length day_number
subtracted = refl
