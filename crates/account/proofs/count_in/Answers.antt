use borrow.Author.Tests.{eq-eqb, ne_eqb}
use Rattle.account.specs.Model.{counts_on, sums_on}
use Rattle.account.proofs.Counting.{unread}
use Rattle.account.proofs.count_in.Goals as goal

pub returns-in_default : goal.returns-in_default
returns-in_default c =
    let same = unread c.args.counts.now c.args.sums.now c.args.kc c.args.head c.in_default.not-Some in
    record { counts_after = same.0; sums_after = same.1 }

pub returns-then-h-eq51 : goal.returns-then-h-eq51
unfolding counts_on sums_on
returns-then-h-eq51 c = let told = c.in-Some.is in
    let closes = eq-eqb _ _ c.if-h-eq51.true in
    record { counts_after = simp (told, closes); sums_after = simp (told, closes) }

pub returns-else-h-eq51 : goal.returns-else-h-eq51
unfolding counts_on sums_on
returns-else-h-eq51 c = let told = c.in-Some.is in
    let stays = ne_eqb _ _ c.if-h-eq51.false in
    record { counts_after = simp (told, stays, c.add_kc.ensures.counts_after); sums_after = simp (told, stays, c.add_kc.ensures.sums_after) }
