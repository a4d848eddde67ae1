use Prim.Native.Nat.{ℕ, ◌+◌}
use native.Mathlib.Omega.{arith}
use mathlib.Core.Path.{sym, ap, ◌∙◌}
use Rattle.outgoing_lines.specs.Outgoing.{heading_after}
use Rattle.outgoing_lines.proofs.Chosen.{ended_length, heading_length, heading_none, capped}
use Rattle.outgoing_lines.proofs.heading_size.Goals as goal

pub returns-in-Some : goal.returns-in-Some
returns-in-Some c = let l = c.args.line.now in
    let e = sym c.read.ensures.1 ∙ c.in-Some.is in
    λ q k. capped (ended_length (heading_after q k l) ∙ ap (λ (n : ℕ). 2 + n) (heading_length q k l _ e)) (omega arith)

pub returns-in-None : goal.returns-in-None
returns-in-None c = let l = c.args.line.now in
    let e = sym c.read.ensures.1 ∙ c.in-None.is in
    λ q k. capped (ended_length (heading_after q k l) ∙ ap (λ (n : ℕ). 2 + n) (heading_none q k l e)) (omega arith)
