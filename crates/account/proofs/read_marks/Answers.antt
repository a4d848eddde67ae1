use native.Mathlib.Omega.{arith}
use borrow.Author.Tests.{eq-eqb, ne_eqb}
use Rattle.account.specs.Model.{course_marks}
use Rattle.account.proofs.read_marks.Goals as goal

pub returns-then-h-eq51 : goal.returns-then-h-eq51
unfolding course_marks
returns-then-h-eq51 c = (simp (c.ending_marks.ensures.0, c.own_marks-own.ensures.0, eq-eqb _ _ c.if-h-eq51.true), omega arith)

pub returns-else-h-eq51 : goal.returns-else-h-eq51
unfolding course_marks
returns-else-h-eq51 c = (simp (c.open_marks.ensures.0, c.own_marks-own.ensures.0, ne_eqb _ _ c.if-h-eq51.false), omega arith)
