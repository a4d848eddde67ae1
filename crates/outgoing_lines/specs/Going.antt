-- Model of the code, not part of the statement: what goes out for one line, by its kind.
use Rattle.std.specs.Prelude.{ℕ, suc, Bool, true, false, List, [], ◌∷◌, get_or}
use Rattle.fields.specs.declared.kinds.Kind.{Kind}
use Rattle.fields.specs.declared.kinds.Kind.TheVariants.{Heading, Continuation, Field, Other}
use Rattle.outgoing_lines.specs.Outgoing.{Orders, field_after, heading_after, underived}

abbrev pub ending : List ℕ
ending = 0x0d ∷ 0x0a ∷ []

-- the outcome of the item that a line stands in: k headings stand above it, and o was the outcome up to here
abbrev pub outcome_in : Kind → List ℕ → ℕ → ℕ → ℕ
outcome_in Heading os k o = get_or os k 0
outcome_in Continuation os k o = o
outcome_in (Field i) os k o = o
outcome_in Other os k o = o

-- the headings up to a line, k of them above it
abbrev pub count_in : Kind → ℕ → ℕ
count_in Heading k = suc k
count_in Continuation k = k
count_in (Field i) k = k
count_in Other k = k

-- what goes out for a field of an identifier's number, and for a line of a kind
abbrev pub field_text : ℕ → ℕ → List ℕ → List ℕ
field_text o i line = field_after o (record { row = record { no = 0; bytes = line; ended = true }; ident = i })

abbrev pub line_after : Orders → Kind → ℕ → ℕ → List ℕ → List ℕ
line_after q Heading k o line = heading_after q k line
line_after q Continuation k o line = line
line_after q (Field i) k o line = field_text o i line
line_after q Other k o line = line

-- it is a heading that is refused by deriving
abbrev pub line_underived : Orders → Kind → ℕ → List ℕ → Bool
line_underived q Heading k line = underived q k line
line_underived q Continuation k line = false
line_underived q (Field i) k line = false
line_underived q Other k line = false
