use Prim.Native.Nat.{ℕ, ◌+◌}
use native.Mathlib.Omega.{arith}
use mathlib.Core.Path.{sym, ◌∙◌}
use mathlib.Core.List.{List, [], ◌∷◌}
use Rattle.text.specs.Strings.{begins}
use Rattle.item_reader.proofs.Slips.{asked, title_short}
use Rattle.item_reader.proofs.title_at.Goals as goal

pub returns-then-starts : goal.returns-then-starts
returns-then-starts c =
    title_short c.args.s.now c.args.at (omega (arith, c.if-s-at-lt56.false)) c.read-head.ensures.1 (sym c.is_some.ensures ∙ c.if-is_some.true)
    (asked c.args.s.now (c.args.at + 54) (λ (x : List ℕ). begins x (0x0d ∷ 0x0a ∷ [])) c.starts.ensures ∙ c.if-starts.true)
