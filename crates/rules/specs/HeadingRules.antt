-- Rule 6 at a heading, and the rules that look at one item alone: 11, 12 and 15 at a readable heading. 10, 13 and 14 are `headings`'
-- HeadRules, since deriving refuses by them too.
use Rattle.std.specs.Prelude.{Bool, true, false, not, ◌&&◌, ◌||◌, eqb}
use Rattle.days.specs.Days.{is_real, later}
use Rattle.headings.specs.declared.Heading.{Heading}
use Rattle.headings.specs.ItemTypes.{is_payment}
use Rattle.rules.specs.declared.First.{First}
use Rattle.rules.specs.declared.First.TheVariants.{Missing, Unread, Says}
use Rattle.rules.specs.declared.Payment.{Payment}
use Rattle.rules.specs.Terms.{Terms}
use Rattle.rules.specs.Rows.{Row}
use Rattle.rules.specs.Tree.{Owned}
use Rattle.rules.specs.Said.{head_of, is_unreadable}

-- '6: layout broken (HD too, at the heading)'
abbrev pub rule6_at : Owned Row → Bool
rule6_at g = is_unreadable (head_of g)

-- '11: day not real, later than the accounting day, or more than ten calendar days before it'
abbrev pub rule11 : Terms → Heading → Bool
rule11 terms h = not (is_real h.day) || (later h.day terms.today 0 || later terms.today h.day 10)

-- '12: first code isn't the submitter's'
abbrev pub rule12 : Terms → Heading → Bool
rule12 terms h = not (eqb h.first.0 terms.code.0)

abbrev pub no_kc : First Payment → Bool
no_kc Missing = true
no_kc Unread = false
no_kc (Says p) = false

-- '15: not a 51, and no KC line', 'for input types'
abbrev pub rule15 : Heading → First Payment → Bool
rule15 h kc = is_payment h.kind && no_kc kc
