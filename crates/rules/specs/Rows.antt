-- The lines of a file, numbered from 1, each of its kind (document 01, 'Lines, fields, items, blocks').
use Rattle.std.specs.Prelude.{ℕ, suc, Bool, true, false, List, [], ◌∷◌}
use Rattle.fields.specs.declared.kinds.Kind.{Kind}
use Rattle.fields.specs.declared.kinds.Kind.TheVariants.{Heading, Continuation, Field, Other}
use Rattle.fields.specs.Kinds.{kind_of}
use Rattle.lines.specs.Lines.{Line}

-- a line with its number
pub record Row : Type 0 where
  pub no : ℕ
  pub bytes : List ℕ
  pub ended : Bool

-- a field, with the number of its identifier
pub record FieldRow : Type 0 where
  pub row : Row
  pub ident : ℕ

-- a continuation, or a line of no kind
pub record LowRow : Type 0 where
  pub row : Row
  pub continues : Bool

pub data Sorted : Type 0 where
  heading : Row → Sorted
  field : FieldRow → Sorted
  low : LowRow → Sorted

abbrev pub sorted_as : Kind → Row → Sorted
sorted_as Heading r = heading r
sorted_as Continuation r = low (record { row = r; continues = true })
sorted_as (Field i) r = field (record { row = r; ident = i })
sorted_as Other r = low (record { row = r; continues = false })

unfoldable pub sorted : Row → Sorted
sorted r = sorted_as (kind_of r.bytes) r

-- the lines, the first of which has the number n
unfoldable pub rows_from : ℕ → List Line → List Sorted
rows_from n [] = []
rows_from n (l ∷ ls) = sorted (record { no = n; bytes = l.bytes; ended = l.ended }) ∷ rows_from (suc n) ls
