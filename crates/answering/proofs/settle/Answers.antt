use native.Mathlib.Omega.{arith}
use Rattle.portions.proofs.Bounds.{open_so}
use Rattle.answering.proofs.Answers.{file_too_long, file_no_mark, file_leftovers, file_starts, file_listed}
use Rattle.answering.proofs.settle.Goals as goal

pub returns-then-p-gt10000000 : goal.returns-then-p-gt10000000
returns-then-p-gt10000000 c = file_too_long c.args.p _ _ _ _ _ _ _ c.if-p-gt10000000.true

pub returns-then-not-p : goal.returns-then-not-p
returns-then-not-p c = file_no_mark c.args.p _ _ _ _ _ _ _ c.if-p-gt10000000.false c.if-not-p.true

pub overflow_add-body : goal.overflow_add-body
overflow_add-body c = let U = open_so _ _ _ _ c.requires in omega (arith, U.came, U.few)

pub returns-then-body-p : goal.returns-then-body-p
returns-then-body-p c = file_leftovers c.args.p _ _ _ _ _ _ _ c.if-p-gt10000000.false c.if-not-p.false c.if-body-p.true

pub returns-then-body-eq0 : goal.returns-then-body-eq0
returns-then-body-eq0 c = file_starts c.args.p _ _ _ _ _ _ _ c.if-p-gt10000000.false c.if-not-p.false c.if-body-p.false c.if-body-eq0.true

pub list_out-g-requires : goal.list_out-g-requires
list_out-g-requires c = record { offsets_value = c.requires; bytes_bound = c.if-p-gt10000000.false }

pub returns : goal.returns
returns c = file_listed c.args.p _ _ _ _ _ _ _ c.if-p-gt10000000.false c.if-not-p.false c.if-body-p.false c.if-body-eq0.false c.list_out-g.ensures
