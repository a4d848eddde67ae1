use Rattle.std.proofs.Common.{rules, ℕ, ◌∙◌}
use Rattle.std.specs.Prelude.{get_or}
use Rattle.carried.specs.Flats.{flat}
use Rattle.carried.proofs.Back.{ten_known}
use Rattle.carried.proofs.narrow_of.Goals as goal

pub returns : goal.returns
returns c =
    let first = c.copy_from_slice.ensures.after in
    let rest = c.copy_from_slice-2.ensures.after ∙ ten_known 0 (λ (i : ℕ). (get_or c.args.s i (flat 0 0 0 0)).a) c.map.result c.map.ensures.items.long
    (λ i l. let called = c.map.ensures.items.at i (flat 0 0 0 0) 0 l in search rules) in
    rw (first, rest)
