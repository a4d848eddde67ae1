-- Model of the code, not part of the statement: what each function of `own_rules` computes, one definition for each.
use Rattle.std.specs.Prelude.{ℕ, ◌+◌, ◌-◌, Bool, cond, not, ◌&&◌, ◌||◌, eqb, leb, ltb}
use Rattle.laws.specs.Tests.{among, mark}
use Rattle.days.specs.Days.{is_real, day_number, day_of}
use Rattle.headings.specs.declared.Code.{Code}
use Rattle.headings.specs.declared.Heading.{Heading}
use Rattle.headings.specs.ItemTypes.{is_payment}
use Rattle.headings.specs.HeadRules.{rule10, rule13, rule14}
use Rattle.rules.specs.declared.First.{First}
use Rattle.rules.specs.declared.Payment.{Payment}
use Rattle.rules.specs.Terms.{Terms}
use Rattle.rules.specs.FieldRules.{until_today, until_thirty}
use Rattle.rules.specs.HeadingRules.{no_kc}
use Rattle.own_rules.specs.declared.Basis.{Basis}

-- the code, and the last days up to the accounting day's number, up to thirty more, and up to eleven less
unfoldable pub basis_of : Terms → Basis
basis_of terms =
    let n = day_number terms.today in
    record { code = terms.code; last = day_of n; thirty = day_of (n + 30); stale = day_of (n - 11) }

unfoldable pub breaks8 : Basis → ℕ → ℕ → Bool
breaks8 j kind day =
    is_payment kind
    && cond (eqb day j.last) (eqb day 0)
    (not (is_real day) || ((among kind until_today && ltb j.last day) || (among kind until_thirty && ltb j.thirty day)))

unfoldable pub breaks11 : Basis → ℕ → Bool
breaks11 j day =
    cond (eqb day j.last) (leb day j.stale) (not (is_real day) || (ltb j.last day || leb day j.stale))

abbrev pub breaks12 : Basis → Code → Bool
breaks12 j first = not (eqb first.0 j.code.0)

abbrev pub breaks15 : ℕ → First Payment → Bool
breaks15 kind kc = is_payment kind && no_kc kc

unfoldable pub own_marks : Basis → Heading → First Payment → ℕ
own_marks j h kc =
    mark 10 (rule10 h) + mark 11 (breaks11 j h.day) + mark 12 (breaks12 j h.first) + mark 13 (rule13 h) + mark 14 (rule14 h)
    + mark 15 (breaks15 h.kind kc)
