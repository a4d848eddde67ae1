-- The tail of a field, its continuation lines with the nearest first: whether the field may have it, and what the field says with it.
use Rattle.std.specs.Prelude.{ℕ, Bool, true, false, ◌&&◌, List, [], ◌∷◌, length, leb, eqb}
use Rattle.fields.specs.declared.classes.Class.{Class}
use Rattle.fields.specs.declared.readings.Reading.{Reading}
use Rattle.fields.specs.declared.readings.Reading.TheVariants.{Broken, Plain, Paid, Span, Stated, Party}
use Rattle.figures.specs.Layouts.{Part, More, no_tail, up_to, unread, fits}
use Rattle.fields.specs.Readings.{text_of, layout_of, reading_of, if_fits}

unfoldable pub all_fit : List Part → List (List ℕ) → Bool
all_fit ps [] = true
all_fit ps (l ∷ ls) = fits ps (text_of l) && all_fit ps ls

unfoldable pub takes : More → List (List ℕ) → Bool
takes no_tail ls = eqb (length ls) 0
takes (up_to n ps) ls = leb (length ls) n && all_fit ps ls
takes unread ls = true

-- 'a field reads if it doesn't break rule 6': its own text has its layout, and its tail is one that it may have
unfoldable pub reads : Class → List ℕ → List (List ℕ) → Bool
reads k l ls = fits (layout_of k).own (text_of l) && takes (layout_of k).more ls

-- what a field line with its tail says, `Broken` unless it reads
unfoldable pub says_of : Class → List ℕ → List (List ℕ) → Reading
says_of k l ls = if_fits (takes (layout_of k).more ls) (reading_of k (text_of l))

abbrev pub is_broken : Reading → Bool
is_broken Broken = true
is_broken Plain = false
is_broken (Paid a d) = false
is_broken (Span a b) = false
is_broken (Stated n a) = false
is_broken (Party b) = false
