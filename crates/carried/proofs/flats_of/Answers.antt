use Rattle.std.proofs.Common.{rules, ℕ}
use Rattle.std.specs.Prelude.{get_or}
use Rattle.carried.specs.Flats.{flat, flat_sum}
use Rattle.items.specs.Claims.{no_sum}
use Rattle.carried.proofs.Back.{ten_known}
use Rattle.carried.proofs.flats_of.Goals as goal

pub returns : goal.returns
returns c = (
  ten_known (flat 0 0 0 0) (λ (i : ℕ). flat_sum (get_or c.args.groups i no_sum).stated) c.map.result c.map.ensures.items.long
      (λ i l. let called = c.map.ensures.items.at i no_sum (flat 0 0 0 0) l in search rules),
  search rules,
)
