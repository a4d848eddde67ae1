-- Words on lists that the libraries lack.
use Rattle.std.specs.Prelude.{ℕ, zero, suc, ◌+◌, Bool, false, ◌||◌, List, [], ◌∷◌, ◌++◌, length, take, drop}

-- some element passes a test
unfoldable pub any_of : (ℕ → Bool) → List ℕ → Bool
any_of f [] = false
any_of f (x ∷ xs) = f x || any_of f xs

-- all of them together
abbrev pub sum : List ℕ → ℕ
sum [] = 0
sum (x ∷ xs) = x + sum xs

-- what a test answers at i, i + 1, .., n answers in all
abbrev pub tabulate : (ℕ → Bool) → ℕ → ℕ → List Bool
tabulate g i zero = []
tabulate g i (suc n) = g i ∷ tabulate g (suc i) n

-- xs with ys written over it from a place on
unfoldable pub put : List ℕ → ℕ → List ℕ → List ℕ
put xs at ys = take at xs ++ (ys ++ drop (at + length ys) xs)
