use Rattle.rules.specs.Faults.{fault}
use Rattle.ledger.proofs.Placing.{Placing}
use Rattle.ledger.proofs.place.Given as goal

abbrev pub invariant-loop-p : goal.invariant-loop-p
invariant-loop-p l = Placing l.n l.lines l.rules (fault l.line l.rule) l.p
