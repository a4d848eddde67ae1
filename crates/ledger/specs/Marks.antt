-- Model of the code, not part of the statement: how the list is kept. 'The rules broken at one line form one set of marks' (document 01), one
-- number, bit r for rule r; and faults put in at their places.
use Rattle.std.specs.Prelude.{ℕ, zero, suc, ◌+◌, ◌*◌, ◌/◌, ◌%◌, Bool, true, cond, ◌&&◌, List, [], ◌∷◌, ◌++◌, map, leb, ltb}
use Rattle.std.specs.Int.Count.{ones}
use Rattle.laws.specs.Tests.{mark}
use Rattle.rules.specs.Faults.{Fault, fault}
use Rattle.rules.specs.Tests.{Test, Spot}

-- ---- a set of marks
-- a rule is in the set where its binary digit is set
abbrev pub digit : ℕ → ℕ → List ℕ → List ℕ
digit zero r rs = rs
digit (suc b) r rs = r ∷ rs

-- the rules of a set, ascending, of the d rules from r on: the lowest digit of m is r's
unfoldable pub rules_from : ℕ → ℕ → ℕ → List ℕ
rules_from zero r m = []
rules_from (suc d) r m = digit (m % 2) r (rules_from d (suc r) (m / 2))

-- the rules of a set of marks, ascending
abbrev pub rules_of : ℕ → List ℕ
rules_of m = rules_from 64 0 m

-- the set of the broken rules: the sum of their marks
abbrev pub set_of : List Test → ℕ
set_of [] = 0
set_of (t ∷ ts) = mark t.rule t.broken + set_of ts

-- the rules ascend, from k on, and are below 64
abbrev pub ascending : ℕ → List Test → Bool
ascending k [] = true
ascending k (t ∷ ts) = leb k t.rule && (ltb t.rule 64 && ascending (suc t.rule) ts)

-- the faults of one line, ascending
abbrev pub marked : ℕ → ℕ → List Fault
marked line marks = map (fault line) (rules_of marks)

-- the faults of several lines, each with its set of marks
unfoldable pub marked_of : List Spot → List Fault
marked_of [] = []
marked_of (s ∷ ss) = marked s.line (set_of s.tests) ++ marked_of ss

-- the sum of the sizes of their sets: a set's size is its count of ones
abbrev pub set_sizes : List Spot → ℕ
set_sizes [] = 0
set_sizes (s ∷ ss) = ones (set_of s.tests) + set_sizes ss

-- ---- faults put in
-- the order as one number, since rules are below 64
abbrev pub key : Fault → ℕ
key f = 64 * f.line + f.rule

-- a fault put in at its place: after all that come before it
unfoldable pub insert : Fault → List Fault → List Fault
insert x [] = x ∷ []
insert x (y ∷ ys) = cond (ltb (key y) (key x)) (y ∷ insert x ys) (x ∷ y ∷ ys)

-- several, one after the other
unfoldable pub insert_all : List Fault → List Fault → List Fault
insert_all [] ys = ys
insert_all (x ∷ xs) ys = insert_all xs (insert x ys)
