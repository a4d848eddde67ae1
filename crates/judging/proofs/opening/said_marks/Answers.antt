use native.Mathlib.Omega.{arith}
use Rattle.judging.proofs.Cases.{marks_broken, marks_party, marks_paid, marks_other}
use Rattle.judging.proofs.opening.said_marks.Goals as goal

pub returns-in-Broken : goal.returns-in-Broken
returns-in-Broken c = (rw c.in-Broken.is (marks_broken _ _ _), omega arith)

pub returns-in-Paid : goal.returns-in-Paid
returns-in-Paid c = (rw (c.in-Paid.is, c.flag-in-Paid.ensures.0, c.breaks_nine.ensures, c.flag.ensures.0, c.breaks_eight.ensures) (marks_paid _ _ _ _ _ _), omega (arith, c.flag-in-Paid.ensures.1, c.flag.ensures.1))

pub returns-in-Party : goal.returns-in-Party
returns-in-Party c = (rw (c.in-Party.is, c.halves_marks.ensures.0) (marks_party _ _ _ _), c.halves_marks.ensures.1)

pub returns-in_default : goal.returns-in_default
returns-in_default c = (marks_other _ _ _ _ c.in_default.not-Broken c.in_default.not-Paid c.in_default.not-Party, omega arith)
