use Rattle.participants.proofs.Listing.{Fitting}
use Rattle.participants.proofs.is_list.Given as goal

abbrev pub invariant-loop-i : goal.invariant-loop-i
invariant-loop-i l = Fitting l.codes l.i
