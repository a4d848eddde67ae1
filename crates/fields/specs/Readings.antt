-- What a field's own text says: the layout of each class (document 01, 'Layouts'), and its reading.
use Rattle.std.specs.Prelude.{ℕ, Bool, cond, List, [], ◌∷◌, drop}
use Rattle.text.specs.Digits.{value}
use Rattle.fields.specs.declared.classes.Class.{Class}
use Rattle.fields.specs.declared.classes.Class.TheVariants.{Money, Number, Range, Group, Account, Text, Free}
use Rattle.fields.specs.declared.readings.Reading.{Reading}
use Rattle.fields.specs.declared.readings.Reading.TheVariants.{Broken, Plain, Paid, Span, Stated, Party}
use Rattle.figures.specs.Layouts.{Layout, no_tail, up_to, unread, num, bytes, space, rest, no_more, maybe_rest, maybe_name, fits, part}
use Rattle.figures.specs.Accounts.{halves_of}

-- a line after its first three bytes: identifier and colon, or three spaces
unfoldable pub text_of : List ℕ → List ℕ
text_of l = drop 3 l

abbrev pub layout_of : Class → Layout
layout_of Money = record { own = num 1 15 ∷ space ∷ num 8 8 ∷ maybe_rest; more = unread }
layout_of Number = record { own = num 1 10 ∷ no_more; more = no_tail }
layout_of Range = record { own = num 1 7 ∷ space ∷ num 1 7 ∷ no_more; more = no_tail }
layout_of Group = record { own = num 1 7 ∷ space ∷ num 1 17 ∷ no_more; more = no_tail }
layout_of Account = record { own = num 0 6 ∷ space ∷ num 1 10 ∷ maybe_name; more = no_tail }
layout_of Text = record { own = bytes 1 35 ∷ no_more; more = up_to 3 (bytes 0 35 ∷ no_more) }
layout_of Free = record { own = rest ∷ []; more = unread }

-- what a text that fits says, by what stands in its first and second part
abbrev pub said_by : Class → List ℕ → List ℕ → Reading
said_by Money p q = Paid (record { 0 = value p }) (value q)
said_by Number p q = Plain
said_by Range p q = Span (record { 0 = value p }) (record { 0 = value q })
said_by Group p q = Stated (value p) (record { 0 = value q })
said_by Account p q = Party (halves_of p q)
said_by Text p q = Plain
said_by Free p q = Plain

abbrev pub if_fits : Bool → Reading → Reading
if_fits b r = cond b r Broken

unfoldable pub reading_of : Class → List ℕ → Reading
reading_of k s = if_fits (fits (layout_of k).own s) (said_by k (part 0 (layout_of k).own s) (part 1 (layout_of k).own s))
