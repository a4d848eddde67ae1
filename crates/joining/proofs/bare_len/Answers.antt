use Rattle.std.proofs.Common.{arith, sym, ◌∙◌}
use mathlib.Core.Bool.{true, false}
use Rattle.joining.proofs.Padded.{bare_ended}
use Rattle.joining.proofs.bare_len.Goals as goal

pub returns-then-ends_with : goal.returns-then-ends_with
returns-then-ends_with c = bare_ended _ true (sym c.if-ends_with.true ∙ c.ends_with.ensures.value)

pub returns : goal.returns
returns c = omega (arith, bare_ended c.args.s.now false (sym c.if-ends_with.false ∙ c.ends_with.ensures.value))
