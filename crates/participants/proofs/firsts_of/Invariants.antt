use Rattle.participants.proofs.Listing.{Filling}
use Rattle.participants.proofs.firsts_of.Given as goal

abbrev pub invariant-loop-i : goal.invariant-loop-i
invariant-loop-i l = Filling l.codes l.firsts l.i
