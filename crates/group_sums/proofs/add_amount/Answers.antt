use Prim.Native.Nat.{◌/◌}
use native.Mathlib.Omega.{arith}
use borrow.Author.Tests.{lt-ltb, le-ltb}
use Rattle.group_sums.specs.Model.{plus_at}
use Rattle.group_sums.proofs.add_amount.Goals as goal

pub returns-then-d-lt10 : goal.returns-then-d-lt10
unfolding plus_at
returns-then-d-lt10 c = let kind = c.args.kind in
    let few = lt-ltb (kind / 10) 10 (omega arith) in
    record { counts_after = simp (c.capped.ensures, few); sums_after = simp (c.capped-then-d-lt10.ensures, few) }

pub returns-else-d-lt10 : goal.returns-else-d-lt10
unfolding plus_at
returns-else-d-lt10 c = let many = le-ltb (c.args.kind / 10) 10 (omega arith) in
    record { counts_after = simp many; sums_after = simp many }
