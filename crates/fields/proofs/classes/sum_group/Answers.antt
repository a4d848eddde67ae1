use native.Mathlib.Omega.{arith}
use borrow.Author.Tests.{leb-true}
use Rattle.laws.proofs.Truth.{and_parts}
use Rattle.fields.proofs.Places.{group_in, group_out}
use Rattle.fields.proofs.classes.sum_group.Goals as goal

pub overflow_sub-result : goal.overflow_sub-result
overflow_sub-result c = omega (arith, leb-true 1008 c.args.ident (and_parts _ _ c.if-ident.true).0)

pub returns-then-ident : goal.returns-then-ident
returns-then-ident c = group_in _ c.if-ident.true

pub returns-else-ident : goal.returns-else-ident
returns-else-ident c = group_out _ c.if-ident.false
