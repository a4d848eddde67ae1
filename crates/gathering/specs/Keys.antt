-- Model of the code, not part of the statement: what a file uses and what a register keeps, as rows of keys in lent memory.
use Rattle.std.specs.Prelude.{ℕ, ◌*◌, ◌≤◌, ◌≡◌, cond, List, [], ◌∷◌, eqb, length, take, None, Option, Some}
use Rattle.register.specs.Entering.{Use}
use Rattle.register.specs.Spans.{Span, day_key, use_keys, froms, tos}
use Rattle.headings.specs.declared.Heading.{Heading}

-- the key of a heading, 0 where it uses no number
abbrev pub key_at : Option Heading → ℕ
key_at (Some h) = cond (eqb h.number.0 0) 0 (day_key h.day h.number.0)
key_at None = 0

-- each day is later than 0 and has eight digits, as a day of an accepted file has
abbrev pub Dated : List Use → Type 0
Dated [] = Unit {0}
Dated (u ∷ us) = (1 ≤ u.day) × (u.day ≤ 99999999) × Dated us

-- the first n places of a row hold the keys of some uses, each of which took 54 bytes
pub record Gathered (size : ℕ) (us : List Use) (n : ℕ) (keys : List ℕ) : Type 0 where
  pub few : 54 * n ≤ size
  pub within : n ≤ length keys
  pub holds : take n keys ≡ use_keys us

-- the first n places of two rows hold the ends of some spans
pub record Kept (ss : List Span) (n : ℕ) (starts ends : List ℕ) : Type 0 where
  pub starts_in : n ≤ length starts
  pub ends_in : n ≤ length ends
  pub starts_at : take n starts ≡ froms ss
  pub ends_at : take n ends ≡ tos ss
