use borrow.Author.Tests.{eq-eqb, ne_eqb}
use Rattle.shutting.proofs.count_item.Goals as goal

pub returns-then-no-eq0 : goal.returns-then-no-eq0
returns-then-no-eq0 c = let none = eq-eqb _ 0 c.if-no-eq0.true in
    record { counts_after = rw none; sums_after = rw none }

pub returns : goal.returns
returns c = let some = ne_eqb _ 0 c.if-no-eq0.false in
    record { counts_after = rw (some, ← c.read_as-read.ensures) c.count_in.ensures.counts_after; sums_after = rw (some, ← c.read_as-read.ensures) c.count_in.ensures.sums_after }
