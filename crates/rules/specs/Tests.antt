-- A rule is tested at a line: the test says whether it is broken there.
use Rattle.std.specs.Prelude.{ℕ, Bool, cond, List, [], ◌∷◌}

-- a rule, and whether it is broken
pub record Test : Type 0 where
  pub rule : ℕ
  pub broken : Bool

infix 45 ◌if◌
abbrev pub ◌if◌ : ℕ → Bool → Test
rule if broken = record { rule = rule; broken = broken }

-- the broken rules, in the order of the tests
abbrev pub broken_of : List Test → List ℕ
broken_of [] = []
broken_of (t ∷ ts) = cond t.broken (t.rule ∷ broken_of ts) (broken_of ts)

-- a line, and the tests of the rules there, by rule
pub record Spot : Type 0 where
  pub line : ℕ
  pub tests : List Test
