-- Model of the code, not part of the statement: what the reader finds at a place.
use Rattle.std.specs.Prelude.{ℕ, ◌+◌, ◌-◌, ◌<◌, ◌≤◌, ◌≡◌, Bool, false, cond, ◌||◌, List, [], ◌∷◌, length, take, drop}
use Rattle.laws.specs.Lists.{any_of}
use Rattle.text.specs.Characters.{is_odd}
use Rattle.lines.specs.declared.Found.{Found}
use Rattle.lines.specs.Lines.{Line, lines}

-- a rest up to a place, with no CR LF after it
abbrev pub rest_to : ℕ → Bool → Found
rest_to end odd = record { end = end; next = end; ended = false; odd = odd }

-- the first of the lines that start at a place: where it ends, where the next one starts, and whether it holds a byte that is not
-- plain; with no line left, an empty rest
abbrev pub first_at : ℕ → List Line → Found
first_at at [] = rest_to at false
first_at at (l ∷ ls) =
    record {
      end = at + length l.bytes;
      next = at + length l.bytes + cond l.ended 2 0;
      ended = l.ended;
      odd = any_of is_odd l.bytes;
    }

-- what was found further on, where an odd byte may have stood before it
abbrev pub after : Bool → Found → Found
after odd f = record { end = f.end; next = f.next; ended = f.ended; odd = odd || f.odd }

-- the first line of what stands from a place on
abbrev pub line_at : List ℕ → ℕ → Found
line_at s at = first_at at (lines (drop at s))

-- the bytes from `at` up to `end`: what `&s[at..end]` is
abbrev pub span : ℕ → ℕ → List ℕ → List ℕ
span at end s = take (end - at) (drop at s)

-- the lines from `at` on are the one that was found, and those from its `next` on
pub record IsNext (s : List ℕ) (at : ℕ) (f : Found) : Type 0 where
  pub cut : lines (drop at s) ≡ record { bytes = span at f.end s; ended = f.ended } ∷ lines (drop f.next s)
  pub tells : f.odd ≡ any_of is_odd (span at f.end s)
  pub follows : f.next ≡ f.end + cond f.ended 2 0
  pub starts : at ≤ f.end
  pub closes : f.end ≤ f.next
  pub moves : at < f.next
  pub within : f.next ≤ length s
