-- Model of the code, not part of the statement: what an item's fields claim for its heading, one field after the other.
use Rattle.std.specs.Prelude.{ℕ, cond, eqb, leb, get_or, set, replicate}
use Rattle.fields.specs.declared.readings.Reading.{Reading}
use Rattle.fields.specs.Kinds.{named}
use Rattle.rules.specs.declared.First.{First}
use Rattle.rules.specs.declared.First.TheVariants.{Missing, Unread, Says}
use Rattle.rules.specs.declared.Payment.{Payment}
use Rattle.rules.specs.declared.Range.{Range}
use Rattle.rules.specs.declared.Sum.{Sum}
use Rattle.rules.specs.declared.Sums.{Sums}
use Rattle.rules.specs.Said.{kc_by, stated_by}

-- what the item's closed fields say that its heading needs: the first KC, the first IN, and the first S0 to S9
pub record Claims : Type 0 where
  pub kc : First Payment
  pub span : First Range
  pub sums : Sums

-- of its parts, as the code has them
abbrev pub claims_as : First Payment → First Range → Sums → Claims
claims_as kc span sums = record { kc = kc; span = span; sums = sums }

abbrev pub no_sum : Sum
no_sum = record { stated = Missing }

abbrev pub no_sums : Sums
no_sums = record { groups = replicate 10 no_sum }

abbrev pub no_claims : Claims
no_claims = claims_as Missing Missing no_sums

-- the first of two
abbrev pub first_of : {T : Type 0} → First T → First T → First T
first_of Missing x = x
first_of Unread x = Unread
first_of (Says said) x = Says said

-- a field at its own line: a KC takes any tail, so it is claimed at once
abbrev pub kc_own : First Payment → ℕ → Reading → First Payment
kc_own kc ident said = cond (eqb ident (named "KC")) (first_of kc (kc_by said)) kc

unfoldable pub group_claims : Sums → ℕ → Reading → Sums
group_claims sums d said =
    cond (leb 10 d) sums (record { groups = set sums.groups d (record { stated = first_of (get_or sums.groups d no_sum).stated (stated_by said) }) })
