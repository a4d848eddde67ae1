-- The lines of a file, as document 01 says them ('Lines, fields, items, blocks'): 'Only bytes before the first 1A are read. They
-- are cut at each CR LF; a non-empty rest is a last line. Lines count from 1.' A CR or LF alone is a byte of its line.
use Rattle.std.specs.Prelude.{ℕ, ◌+◌, ◌-◌, Bool, true, false, cond, ◌&&◌, List, [], ◌∷◌, ltb, length, take}
use Rattle.laws.specs.Lists.{any_of}
use Rattle.laws.specs.Tests.{is_byte}

-- there is a byte 1A in the file (if not: refusal 5)
abbrev pub has_mark : List ℕ → Bool
has_mark file = any_of (is_byte 0x1a) file

-- the bytes after the first 1A
unfoldable pub behind_mark : List ℕ → List ℕ
behind_mark [] = []
behind_mark (b ∷ s) = cond (is_byte 0x1a b) s (behind_mark s)

-- 'any byte after the first 1A' (refusal 9)
abbrev pub has_leftovers : List ℕ → Bool
has_leftovers file = ltb 0 (length (behind_mark file))

-- the first byte is 1A (refusal 6)
abbrev pub starts_with_mark : List ℕ → Bool
starts_with_mark [] = false
starts_with_mark (b ∷ s) = is_byte 0x1a b

-- the bytes before the first 1A, or all where there is none
unfoldable pub body : List ℕ → List ℕ
body [] = []
body (b ∷ s) = cond (is_byte 0x1a b) [] (b ∷ body s)

-- a line: its bytes, and whether CR LF stands after it (if not: rule 4)
pub record Line : Type 0 where
  pub bytes : List ℕ
  pub ended : Bool

-- CR LF stands first
unfoldable pub crlf : List ℕ → Bool
crlf [] = false
crlf (b ∷ []) = false
crlf (b ∷ c ∷ s) = is_byte 0x0d b && is_byte 0x0a c

-- one byte more at the front of the first line; where there is none, a rest of one byte
unfoldable pub onto : ℕ → List Line → List Line
onto b [] = record { bytes = b ∷ []; ended = false } ∷ []
onto b (l ∷ ls) = record { bytes = b ∷ l.bytes; ended = l.ended } ∷ ls

-- the lines of what was read, in their order: line 1 is the first
unfoldable pub lines : List ℕ → List Line
lines [] = []
lines (b ∷ []) = onto b []
lines (b ∷ c ∷ s) = cond (crlf (b ∷ c ∷ s)) (record { bytes = []; ended = true } ∷ lines s) (onto b (lines (c ∷ s)))

-- how many bytes a line takes, its CR LF included
abbrev pub taken : Line → ℕ
taken l = length l.bytes + cond l.ended 2 0

-- how many some lines take together
unfoldable pub taken_by : List Line → ℕ
taken_by [] = 0
taken_by (l ∷ ls) = taken l + taken_by ls

-- 'the offset of the line's first byte' (A11): what the lines above it take
unfoldable pub offset_of : List ℕ → ℕ → ℕ
offset_of s n = taken_by (take (n - 1) (lines s))
