use Rattle.account.specs.Model.{counts_after, sums_after}
use Rattle.account.proofs.Counting.{uncounted}
use Rattle.account.proofs.add_kc.Goals as goal

pub returns-then-is_payment : goal.returns-then-is_payment
unfolding counts_after sums_after
returns-then-is_payment c = let told = c.in-Says.is in
    let is = c.if-is_payment.true in
    record { counts_after = rw (told, ← c.is_payment.ensures, is, c.add_amount.ensures.counts_after); sums_after = rw (told, ← c.is_payment.ensures, is, c.add_amount.ensures.sums_after) }

pub returns-else-is_payment : goal.returns-else-is_payment
unfolding counts_after sums_after
returns-else-is_payment c = let told = c.in-Says.is in
    record { counts_after = rw (told, ← c.is_payment.ensures, c.if-is_payment.false); sums_after = rw (told, ← c.is_payment.ensures, c.if-is_payment.false) }

pub returns-in_default : goal.returns-in_default
returns-in_default c =
    let same = uncounted c.args.counts.now c.args.sums.now c.args.kind c.args.kc c.in_default.not-Says in
    record { counts_after = same.0; sums_after = same.1 }
