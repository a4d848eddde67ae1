-- What CR LF has ended of a text so far, and what stands behind it.
use Rattle.std.specs.Prelude.{ℕ, cond, List, [], ◌∷◌}
use Rattle.lines.specs.Lines.{Line, lines}

-- of lines in their order, those that CR LF ended: only the last can be without
unfoldable pub ended_ones : List Line → List Line
ended_ones [] = []
ended_ones (l ∷ ls) = cond l.ended (l ∷ ended_ones ls) []

-- the bytes of the one without, or none
unfoldable pub open_one : List Line → List ℕ
open_one [] = []
open_one (l ∷ ls) = cond l.ended (open_one ls) l.bytes

-- the lines of a text that CR LF ended
abbrev pub whole : List ℕ → List Line
whole t = ended_ones (lines t)

-- what stands behind the last of them
abbrev pub rest : List ℕ → List ℕ
rest t = open_one (lines t)
