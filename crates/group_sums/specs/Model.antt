-- Model of the code, not part of the statement: a row of ten groups with an amount more in one of them.
use Rattle.std.specs.Prelude.{ℕ, ◌+◌, min, cond, List, ltb, get_or, set}

-- a more in group d, up to the cap; where there is no such group nothing changes
unfoldable pub plus_at : ℕ → List ℕ → ℕ → ℕ → List ℕ
plus_at cap xs d a = cond (ltb d 10) (set xs d (min cap (get_or xs d 0 + a))) xs
