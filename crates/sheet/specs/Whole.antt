-- Nothing of a file that was posted is left out: each of its items reads, and posts its first KC's amount as the scheme of its type says.
use Rattle.std.specs.Prelude.{◌≡◌}
use Rattle.rules.specs.Terms.{Terms}
use Rattle.item_reader.specs.declared.Slip.{Slip}
use Rattle.item_reader.specs.Slips.{amount_of}
use Rattle.item_reader.specs.Accepted.{Fine}
use Rattle.turnovers.specs.Scheme.{scheme_of, posting_by, posting_of}

pub record InFull (terms : Terms) (s : Slip) : Type 0 where
  pub fine : Fine terms s
  pub posts : posting_of s ≡ posting_by fine.heading (amount_of s.kc) (scheme_of fine.heading.kind)
