use native.Mathlib.Omega.{arith}
use Rattle.judging.proofs.opening.number_marks.Goals as goal

pub returns-in-Good : goal.returns-in-Good
returns-in-Good c = (rw c.in-Good.is, omega arith)

pub returns-in-Failing : goal.returns-in-Failing
returns-in-Failing c = (rw c.in-Failing.is, omega arith)

pub returns-in-Zero : goal.returns-in-Zero
returns-in-Zero c = (rw c.in-Zero.is, omega arith)
