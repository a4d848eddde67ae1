use native.Mathlib.Omega.{arith}
use mathlib.Core.Path.{ap}
use Rattle.joining.specs.declared.Text.{Text}
use Rattle.going.proofs.Reached.{few_closing}
use Rattle.portions.proofs.Bounds.{sound_is}
use Rattle.portions.proofs.usable.is_sound.Goals as goal

pub has_come-came-requires : goal.has_come-came-requires
has_come-came-requires c = omega (arith, few_closing c.args.g.held, ap (λ (t : Text). t.len) c.closing-kept.ensures)

pub returns : goal.returns
returns c = sound_is _ _ _ _ c.closing-kept.ensures c.is_bounded-bounded.ensures c.has_come-came.ensures c.is_ready-ready.ensures
