use Prim.Native.Nat.{ℕ, min}
use mathlib.Core.Path.{sym, ap, ◌∙◌}
use mathlib.Core.List.{List, ◌++◌}
use lib.ListN.{length}
use Rattle.outgoing_lines.specs.Going.{ending}
use Rattle.outgoing_lines.proofs.Chosen.{ended_length, ec_field, other_field}
use Rattle.outgoing_lines.proofs.field_size.Goals as goal

pub returns-then-ident-eq-EC : goal.returns-then-ident-eq-EC
returns-then-ident-eq-EC c = let a = c.args in
    ap (λ (x : List ℕ). min 4000000001 (length (x ++ ending))) (ec_field a.outcome a.ident a.line.now c.if-ident-eq-EC.true) ∙ c.ec_size.ensures

pub returns : goal.returns
returns c = let a = c.args in
    ap (λ (x : List ℕ). min 4000000001 (length (x ++ ending))) (other_field a.outcome a.ident a.line.now c.if-ident-eq-EC.false)
    ∙ ap (min 4000000001) (ended_length a.line.now) ∙ sym c.grown.ensures
