use Rattle.std.proofs.Common.{arith, sym, ap, ◌∙◌, ◌≡◌, ◌+◌, ◌≤◌, ℕ, Option, length, not}
use mathlib.Core.Bool.{not-not}
use Rattle.std.specs.Option.{unwrap_or}
use Rattle.lines.specs.Lines.{body}
use Rattle.file_body.proofs.Body.{pass_block, body_le, body_at}
use Rattle.file_body.proofs.body_len.Goals as goal

pub loop-block-preserved : goal.loop-block-preserved
loop-block-preserved c =
    let parts = c.in-Some.ensures.cases in
    let more : 64 ≤ length c.loop-block.rest.now = omega (arith, parts.2) in
    record {
      within = omega (arith, parts.2, c.loop-block.invariant.within);
      same = omega (arith, pass_block c.args.file.now c.loop-block.rest.now c.in-Some.block.now c.in-Some.after.now 64 c.loop-block.invariant.same more parts.0 parts.1 (sym (not-not _) ∙ ap not (sym c.is_clear.ensures ∙ c.if-not-is_clear.false)));
    }

pub overflow_add-result : goal.overflow_add-result
overflow_add-result c =
    let rest = c.loop-block.rest.now in
    let found : c.unwrap_or.result ≡ length (body rest) = c.unwrap_or.ensures ∙ ap (λ (r : Option ℕ). unwrap_or r (length rest)) c.first_mark.ensures ∙ body_at rest in
    omega (arith, body_le rest, c.loop-block.invariant.within)

pub returns : goal.returns
returns c =
    let rest = c.loop-block.rest.now in
    let found : c.unwrap_or.result ≡ length (body rest) = c.unwrap_or.ensures ∙ ap (λ (r : Option ℕ). unwrap_or r (length rest)) c.first_mark.ensures ∙ body_at rest in
    omega (arith, c.loop-block.invariant.within, c.loop-block.invariant.same)
