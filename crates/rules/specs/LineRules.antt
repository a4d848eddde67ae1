-- Rules 1 to 4, at every line (document 01, 'The rules, by number').
use Rattle.std.specs.Prelude.{Bool, true, false, not}
use Rattle.laws.specs.Lists.{any_of}
use Rattle.text.specs.Characters.{is_inadmissible}
use Rattle.rules.specs.Rows.{Row, LowRow}

-- '1: holds an inadmissible byte'
unfoldable pub rule1 : Row → Bool
rule1 r = any_of is_inadmissible r.bytes

-- where a line stands: above every heading and field, above every heading, in an item
pub data Place : Type 0 where
  nowhere prelude inside : Place

-- '2: none of the three kinds, or a continuation with no heading or field to belong to'
abbrev pub rule2 : Place → LowRow → Bool
rule2 nowhere l = true
rule2 prelude l = not l.continues
rule2 inside l = not l.continues

-- '3: isn't a heading and has none above it'
abbrev pub rule3 : Place → Bool
rule3 nowhere = true
rule3 prelude = true
rule3 inside = false

-- '4: no CR LF after it'
abbrev pub rule4 : Row → Bool
rule4 r = not r.ended
