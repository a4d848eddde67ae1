-- What is demanded of the list: it 'holds each pair of a line and a rule broken there, once, and no other pair, by line and then by rule'
-- (the mission, demand 3). The theorems are `proofs/Demand.antt`.
use Rattle.std.specs.Prelude.{ℕ, zero, suc, ◌+◌, ◌<◌, ◌≡◌, true, ◌⊎◌, length}
use mathlib.Core.List.{List, [], ◌∷◌, Memᴰ}
use Rattle.lines.specs.Lines.{body}
use Rattle.rules.specs.Terms.{Terms}
use Rattle.rules.specs.Tests.{◌if◌, broken_of, Spot}
use Rattle.rules.specs.Spots.{spots_in}
use Rattle.rules.specs.Faults.{Fault}

-- a rule is broken at a spot: it is tested there, and the test says so
abbrev pub BrokenAt : ℕ → Spot → Type 0
BrokenAt rule s = Memᴰ (rule if true) s.tests

-- one of the spots has the fault's line, and its rule is broken there
abbrev pub FaultAmong : Fault → List Spot → Type 0
FaultAmong f ss = (s : Spot) × Memᴰ s ss × (f.line ≡ s.line) × BrokenAt f.rule s

-- n, n + 1, .., k in all
abbrev pub count_from : ℕ → ℕ → List ℕ
count_from n zero = []
count_from n (suc k) = n ∷ count_from (suc n) k

-- the lines of a file with their tests
abbrev pub spots_of : Terms → List ℕ → List Spot
spots_of terms file = spots_in terms (body file)

-- the fault's rule is broken at its line of the file
abbrev pub FaultIn : Terms → List ℕ → Fault → Type 0
FaultIn terms file f = FaultAmong f (spots_of terms file)

-- 'the total is the sum of their sizes'
abbrev pub sizes : List Spot → ℕ
sizes [] = 0
sizes (s ∷ ss) = length (broken_of s.tests) + sizes ss

-- by line, and at one line by rule
abbrev pub Before : Fault → Fault → Type 0
Before f g = (f.line < g.line) ⊎ ((f.line ≡ g.line) × (f.rule < g.rule))

-- before each of them
abbrev pub BeforeAll : Fault → List Fault → Type 0
BeforeAll f [] = Unit {0}
BeforeAll f (g ∷ gs) = Before f g × BeforeAll f gs

-- each fault stands before all that follow it: so none stands twice
abbrev pub Ascending : List Fault → Type 0
Ascending [] = Unit {0}
Ascending (f ∷ fs) = BeforeAll f fs × Ascending fs
