-- Tests on numbers and lists, as the specifications of all crates say them.
use Rattle.std.specs.Prelude.{ℕ, ◌^◌, Bool, true, false, cond, ◌&&◌, ◌||◌, List, [], ◌∷◌, eqb}

-- x is the byte b
abbrev pub is_byte : ℕ → ℕ → Bool
is_byte b x = eqb x b

-- a rule that is a list of tests holds where every one of them does
abbrev pub every : List Bool → Bool
every [] = true
every (b ∷ bs) = b && every bs

-- a number stands in a list
abbrev pub among : ℕ → List ℕ → Bool
among x [] = false
among x (y ∷ ys) = eqb x y || among x ys

-- a rule's mark: bit r of a set of marks, where rule r is broken
abbrev pub mark : ℕ → Bool → ℕ
mark r broken = cond broken (2 ^ r) 0
