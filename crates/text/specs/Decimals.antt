-- Numbers in decimal digits without zeros in front.
use Rattle.std.specs.Prelude.{ℕ, cond, List, [], ◌∷◌, eqb}
use Rattle.text.specs.Digits.{digits}

-- digits without the zeros in front; the last digit stays
unfoldable pub bare : List ℕ → List ℕ
bare [] = []
bare (b ∷ []) = b ∷ []
bare (b ∷ d ∷ bs) = cond (eqb b 48) (bare (d ∷ bs)) (b ∷ d ∷ bs)

-- a number without zeros in front, 0 as one digit: every number of 64 bits has 20 digits or fewer
unfoldable pub decimal : ℕ → List ℕ
decimal v = bare (digits 20 v)
