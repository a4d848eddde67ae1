-- Whose item it was (A13): what two input headings have in common from which one heading was derived.
use Rattle.std.specs.Prelude.{◌≡◌, true, List, ◌⊎◌, ℕ, Some}
use Rattle.headings.specs.declared.Heading.{Heading}
use Rattle.headings.specs.Reading.{heading_of}
use Rattle.outcome_tables.specs.Outcomes.{returned}

-- a heading with another type
abbrev pub of_type : ℕ → Heading → Heading
of_type k h =
    record { kind = k; day = h.day; first = h.first; number = h.number; second = h.second; output = h.output; third = h.third }

-- 'one is an 01 and the other a 21 .. their other parts being equal'
abbrev pub Twins : Heading → Heading → Type 0
Twins h g = ((h.kind ≡ 01) × (g ≡ of_type 21 h)) ⊎ ((g.kind ≡ 01) × (h ≡ of_type 21 g))

-- the exception, of two heading texts
pub record Twinned (s s' : List ℕ) (e : ℕ) : Type 0 where
  pub one : Heading
  pub other : Heading
  pub reads : heading_of s ≡ Some one
  pub other_reads : heading_of s' ≡ Some other
  pub was_returned : returned e ≡ true
  pub twins : Twins one other

-- two heading texts from which one heading of type e was derived
abbrev pub OneItem : List ℕ → List ℕ → ℕ → Type 0
OneItem s s' e = (s ≡ s') ⊎ Twinned s s' e
