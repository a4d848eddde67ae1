-- Lines written one after the other: the bytes whose lines they are.
use Rattle.std.specs.Prelude.{ℕ, true, cond, List, [], ◌∷◌, ◌++◌}
use Rattle.lines.specs.Lines.{Line}

-- a line with its CR LF, where that ended it
abbrev pub line_text : Line → List ℕ
line_text l = l.bytes ++ cond l.ended (0x0d ∷ 0x0a ∷ []) []

unfoldable pub lines_text : List Line → List ℕ
lines_text [] = []
lines_text (l ∷ ls) = line_text l ++ lines_text ls

-- texts as lines that CR LF ends
unfoldable pub ended_lines : List (List ℕ) → List Line
ended_lines [] = []
ended_lines (t ∷ ts) = record { bytes = t; ended = true } ∷ ended_lines ts

-- texts, each with its CR LF
abbrev pub rows_text : List (List ℕ) → List ℕ
rows_text ts = lines_text (ended_lines ts)

-- a file: its lines, then 1A
unfoldable pub file_of : List (List ℕ) → List ℕ
file_of ts = rows_text ts ++ (0x1a ∷ [])
