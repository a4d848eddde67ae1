-- A text that comes in portions, for any consumer of lines: L is what the consumer has, told what it does with a line, given the offset
-- of the line's first byte, its bytes, and whether CR LF ended it.
use Rattle.std.specs.Prelude.{ℕ, ◌+◌, Bool, false, List, [], ◌∷◌, ◌++◌}
use Rattle.lines.specs.Lines.{Line, lines, taken}
use Rattle.joining.specs.Whole.{ended_ones, open_one}
use Rattle.joining.specs.Short.{Kept, kept, kept_text, left_out}

-- where the consumer stands: the offset of the line to come, and how many bytes of that line are left out of what is kept of it. The
-- line behind it begins so many bytes later.
pub record Stand (L : Type 0) : Type 0 where
  pub desk : L
  pub at : ℕ
  pub over : ℕ

-- and what is kept of the line to come
pub record Reached (L : Type 0) : Type 0 where
  pub stand : Stand L
  pub held : Kept

abbrev pub fresh : {L : Type 0} → L → ℕ → Reached L
fresh d at = record { stand = record { desk = d; at = at; over = 0 }; held = record { text = []; cr = false } }

-- portions one behind the other
unfoldable pub concat : List (List ℕ) → List ℕ
concat [] = []
concat (p ∷ ps) = p ++ concat ps

module _ {L : Type 0} (told : L → ℕ → List ℕ → Bool → L) where
  abbrev pub tells : Stand L → Line → Stand L
  tells r l = record { desk = told r.desk r.at l.bytes l.ended; at = r.at + r.over + taken l; over = 0 }

  unfoldable pub run : Stand L → List Line → Stand L
  run r [] = r
  run r (l ∷ ls) = run (tells r l) ls

  -- a rest stays open
  abbrev pub holding : Stand L → List ℕ → Reached L
  holding r s = record { stand = record { desk = r.desk; at = r.at; over = r.over + left_out s }; held = kept s }

  -- lines of which the last may be open
  unfoldable pub going_on : Stand L → List Line → Reached L
  going_on r ls = holding (run r (ended_ones ls)) (open_one ls)

  -- a portion more: the lines that it ends are told, the rest is kept
  unfoldable pub after : Reached L → List ℕ → Reached L
  after a c = going_on a.stand (lines (kept_text a.held ++ c))

  unfoldable pub after_all : Reached L → List (List ℕ) → Reached L
  after_all a [] = a
  after_all a (c ∷ cs) = after_all (after a c) cs

  -- no more comes: what is kept is a last line
  unfoldable pub closed : Reached L → Stand L
  closed a = run a.stand (lines (kept_text a.held))
