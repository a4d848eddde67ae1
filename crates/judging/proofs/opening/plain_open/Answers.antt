use mathlib.Core.Path.{sym}
use borrow.Author.Tests.{eq-eqb, ne_eqb}
use Rattle.fields.specs.Classes.{class_of}
use Rattle.fields.specs.Codes.{code_of}
use Rattle.fields.specs.Readings.{text_of, reading_of}
use Rattle.judging.proofs.Cases.{plain_opens}
use Rattle.judging.proofs.opening.plain_open.Goals as goal

pub returns-then-since-eq0 : goal.returns-then-since-eq0
returns-then-since-eq0 c = λ j kc h i e m. rw (eq-eqb _ 0 c.if-since-eq0.true)

pub returns : goal.returns
unfolding code_of
returns c = let a = c.args in
    λ j kc h i e m.
    rw (ne_eqb _ 0 c.if-since-eq0.false) (plain_opens j kc h a.no a.own i a.again (reading_of (class_of i) (text_of a.line.now)) e m c.flag.ensures.0 (c.plain_marks.ensures.0 (class_of i) (sym e) m))
