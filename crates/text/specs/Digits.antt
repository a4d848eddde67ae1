-- Numbers as digits, at every width.
use Rattle.std.specs.Prelude.{ℕ, zero, suc, ◌+◌, ◌-◌, ◌*◌, ◌/◌, ◌%◌, ◌^◌, Bool, true, ◌&&◌, List, [], ◌∷◌, leb}

abbrev pub is_digit : ℕ → Bool
is_digit b = leb 48 b && leb b 57

unfoldable pub all_are_digits : List ℕ → Bool
all_are_digits [] = true
all_are_digits (b ∷ bs) = is_digit b && all_are_digits bs

-- the number that digits stand for, where those before them stand for v
unfoldable pub value_after : ℕ → List ℕ → ℕ
value_after v [] = v
value_after v (b ∷ bs) = value_after (v * 10 + (b - 48)) bs

-- the number that digits stand for
abbrev pub value : List ℕ → ℕ
value bs = value_after 0 bs

-- the last n digits of v
unfoldable pub digits : ℕ → ℕ → List ℕ
digits zero v = []
digits (suc n) v = (48 + v / 10 ^ n % 10) ∷ digits n v
