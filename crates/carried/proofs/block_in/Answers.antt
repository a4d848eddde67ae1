use Rattle.std.proofs.Common.{rules, ℕ, ◌+◌}
use Rattle.carried.specs.Words.{wide_at}
use Rattle.carried.proofs.Back.{ten_known}
use Rattle.carried.proofs.block_in.Goals as goal

pub returns : goal.returns
returns c =
    let counts = ten_known 0 (λ (i : ℕ). wide_at c.args.w (8 + i)) c.from_fn.result c.from_fn.ensures.items.long
    (λ i l. let called = c.from_fn.ensures.items.at i 0 l in search rules) in
    let sums = ten_known 0 (λ (i : ℕ). wide_at c.args.w (18 + i)) c.from_fn-2.result c.from_fn-2.ensures.items.long
    (λ i l. let called = c.from_fn-2.ensures.items.at i 0 l in search rules) in
    rw (counts, sums)
