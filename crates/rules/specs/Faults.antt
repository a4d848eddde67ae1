-- The faults of a file: the broken tests of each line, by line and then by rule; and what a lent slice holds of the list.
use Rattle.std.specs.Prelude.{ℕ, List, [], ◌∷◌, ◌++◌, map, length, take, drop}
use Rattle.lines.specs.Lines.{body}
use Rattle.rules.specs.Terms.{Terms}
use Rattle.rules.specs.Tests.{broken_of, Spot}
use Rattle.rules.specs.Spots.{spots_in}

-- what is entered in the list
pub record Fault : Type 0 where
  pub line : ℕ
  pub rule : ℕ

-- the rule broken at the line
abbrev pub fault : ℕ → ℕ → Fault
fault line rule = record { line = line; rule = rule }

-- the faults of one line
abbrev pub faults_at : Spot → List Fault
faults_at s = map (fault s.line) (broken_of s.tests)

-- the faults of several lines, one line after the other
unfoldable pub faults_of : List Spot → List Fault
faults_of [] = []
faults_of (s ∷ ss) = faults_at s ++ faults_of ss

-- the faults of the bytes before the end mark
unfoldable pub faults_in : Terms → List ℕ → List Fault
faults_in terms s = faults_of (spots_in terms s)

-- the faults of a file: each pair of a line and a rule broken there
unfoldable pub faults : Terms → List ℕ → List Fault
faults terms file = faults_in terms (body file)

-- the numbers of the first faults that fit in a slice; 'places after the last pair keep what they held'
abbrev pub written : (Fault → ℕ) → List Fault → List ℕ → List ℕ
written part all before = map part (take (length before) all) ++ drop (length all) before
