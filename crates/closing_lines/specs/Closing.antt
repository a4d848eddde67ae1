-- The lines of a closing item but its heading: an IN, and an S line for each group that isn't empty (document 02, A7 and A14). The counts and
-- the sums are listed by group, from 0 on.
use Rattle.std.specs.Prelude.{ℕ, suc, cond, List, [], ◌∷◌, ◌++◌, eqb}
use Rattle.laws.specs.Ascii.{ascii}
use Rattle.text.specs.Decimals.{decimal}

-- the first and the last number, 'without leading zeros'
abbrev pub in_text : ℕ → ℕ → List ℕ
in_text a b = ascii "IN:" ++ (decimal a ++ (ascii " " ++ decimal b))

-- a group, its count and its sum, 'without leading zeros'
abbrev pub sum_text : ℕ → ℕ → ℕ → List ℕ
sum_text d n t = ascii "S" ++ (decimal d ++ (ascii ":" ++ (decimal n ++ (ascii " " ++ decimal t))))

-- one text more where a group isn't empty
abbrev pub with_sum : ℕ → ℕ → ℕ → List (List ℕ) → List (List ℕ)
with_sum d n t ts = cond (eqb n 0) ts (sum_text d n t ∷ ts)

-- 'ascending, an S line for each group': of group d and those after it
unfoldable pub sum_texts_from : ℕ → List ℕ → List ℕ → List (List ℕ)
sum_texts_from d [] ts = []
sum_texts_from d (n ∷ ns) [] = []
sum_texts_from d (n ∷ ns) (t ∷ ts) = with_sum d n t (sum_texts_from (suc d) ns ts)

unfoldable pub closing_texts : ℕ → ℕ → List ℕ → List ℕ → List (List ℕ)
closing_texts a b counts sums = in_text a b ∷ sum_texts_from 0 counts sums
