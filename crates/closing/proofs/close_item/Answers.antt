use mathlib.Core.Path.{sym, ◌∙◌}
use native.Mathlib.Omega.{arith}
use borrow.Author.Tests.{eq-eqb, ne_eqb}
use Rattle.closing.proofs.Cases.{close_none, close_ends, close_next, close_first}
use Rattle.closing.proofs.close_item.Goals as goal

pub returns-then-no-eq0 : goal.returns-then-no-eq0
returns-then-no-eq0 c = (close_none _ _ _ _ _ _ _ _ _ (eq-eqb _ 0 c.if-no-eq0.true), omega (arith, c.requires.0), omega arith, omega arith)

pub returns-then-closes_block : goal.returns-then-closes_block
returns-then-closes_block c = (close_ends _ _ _ _ _ _ _ _ _ (ne_eqb _ 0 c.if-no-eq0.false) _ c.advance-a.ensures.0 _ c.head_marks-m.ensures.0 (sym c.closes_block.ensures ∙ c.if-closes_block.true) _ c.no_wait.ensures _ c.flag.ensures.0, rw c.no_wait.ensures (omega arith), omega (arith, c.flag.ensures.1, c.requires.0), c.head_marks-m.ensures.1)

pub returns-then-any : goal.returns-then-any
returns-then-any c = (close_next _ _ _ _ _ _ _ _ _ (ne_eqb _ 0 c.if-no-eq0.false) _ c.advance-a.ensures.0 _ c.head_marks-m.ensures.0 (sym c.closes_block.ensures ∙ c.if-closes_block.false) c.if-any.true, omega (arith, c.requires.0), omega arith, c.head_marks-m.ensures.1)

pub returns : goal.returns
returns c = (close_first _ _ _ _ _ _ _ _ _ (ne_eqb _ 0 c.if-no-eq0.false) _ c.advance-a.ensures.0 _ c.head_marks-m.ensures.0 (sym c.closes_block.ensures ∙ c.if-closes_block.false) c.if-any.false, c.head_marks-m.ensures.1, omega arith, omega arith)
