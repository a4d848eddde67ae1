-- Model of the code, not part of the statement: what is kept of a tail, and whether a field may have a tail of which that is kept.
use Rattle.std.specs.Prelude.{ℕ, suc, ◌+◌, min, Bool, true, ◌&&◌, List, ◌∷◌, length, leb, eqb}
use Rattle.fields.specs.declared.classes.Class.{Class}
use Rattle.figures.specs.Layouts.{More, no_tail, up_to, unread, bytes, no_more}
use Rattle.fields.specs.Readings.{layout_of}
use Rattle.fields.specs.Tails.{all_fit}

-- how many continuations, four standing for more than three, and whether each is short enough
pub record Tail : Type 0 where
  pub count : ℕ
  pub short : Bool

unfoldable pub tail_of : List (List ℕ) → Tail
tail_of ls = record { count = min 4 (length ls); short = all_fit (bytes 0 35 ∷ no_more) ls }

-- one continuation more, of n bytes: three spaces and up to 35
abbrev pub more_tail : Tail → ℕ → Tail
more_tail a n = record { count = min 4 (suc a.count); short = leb n (3 + 35) && a.short }

-- whether a tail of which that is kept is one that a field of a class may have
abbrev pub kept_by : More → Tail → Bool
kept_by no_tail a = eqb a.count 0
kept_by (up_to n ps) a = leb a.count n && a.short
kept_by unread a = true

abbrev pub takes_by : Class → Tail → Bool
takes_by k a = kept_by (layout_of k).more a
