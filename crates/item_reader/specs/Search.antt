-- Model of the code, not part of the statement: the next heading, found by its sign, and what is read of a line.
use Rattle.std.specs.Prelude.{ℕ, ◌+◌, ◌≤◌, ◌<◌, ◌≡◌, Bool, true, false, cond, List, ◌⊎◌, ltb, length, drop, None, Option, Some}
use Rattle.laws.specs.Ascii.{ascii}
use Rattle.text.specs.Strings.{begins}
use Rattle.lines.specs.Reading.{line_at, span}
use Rattle.headings.specs.Reading.{heading_of}
use Rattle.fields.specs.declared.classes.Class.TheVariants.{Money}
use Rattle.fields.specs.Readings.{text_of, reading_of}
use Rattle.rules.specs.declared.First.{First}
use Rattle.rules.specs.declared.Payment.{Payment}
use Rattle.rules.specs.Said.{kc_by}
use Rattle.sign_finder.specs.Signs.{IsSign}
use Rattle.item_reader.specs.declared.Gap.{Gap}
use Rattle.item_reader.specs.declared.Title.{Title}
use Rattle.headings.specs.declared.Heading.{Heading}

-- from the start of a line: a heading stands there, or the lines up to the sign of the next, or up to the end, are others
abbrev pub IsGap : List ℕ → ℕ → Gap → Type 0
IsGap s at g =
    ((begins (drop at s) (ascii "HD:") ≡ true) × (g.end ≡ at) × (g.next ≡ at))
    ⊎ ((begins (drop at s) (ascii "HD:") ≡ false) × IsSign s 0x48 0x44 at (length s) g.end × (g.next ≡ cond (ltb g.end (length s)) (g.end + 2) g.end))

-- what the line at a place says as a KC
abbrev pub kc_line : List ℕ → ℕ → First Payment
kc_line s at = kc_by (reading_of Money (text_of (span at (line_at s at).end s)))

-- a heading reads
abbrev pub reads_to : Option Heading → Bool
reads_to (Some h) = true
reads_to None = false

-- what the code reads of a heading's own line, and where the line after it starts
pub record IsTitle (s : List ℕ) (at : ℕ) (r : Title) : Type 0 where
  pub head : r.head ≡ heading_of (span at (line_at s at).end s)
  pub next : r.next ≡ (line_at s at).next

-- two bytes behind the 54 of a heading, or no byte where there are not as many
abbrev pub IsPast : ℕ → ℕ → ℕ → Type 0
IsPast size at r = ((size < at + 56) × (r ≡ at + 54)) ⊎ ((at + 56 ≤ size) × (r ≡ at + 56))
