use native.Mathlib.Omega.{arith}
use mathlib.Core.Path.{◌≡◌}
use Rattle.std.specs.Prelude.{ℕ, Some}
use Rattle.register.specs.Register.{register_of}
use Rattle.register.specs.Entering.{kept}
use Rattle.register.specs.Spans.{spans_of}
use Rattle.adding.proofs.Answered.{MergedOf, merged_clash, merged_of, kept_as, keys_clash, keys_some, keys_many, keys_short, keys_done}
use Rattle.adding.proofs.enter_keys.Goals as goal
use Rattle.adding.proofs.enter_keys.Goals.{After-merge}

-- what was merged, of the register's own ranges
merged : (c : After-merge) {count : ℕ} → c.merge.result ≡ Some count → MergedOf
    (spans_of (kept c.args.day (register_of c.args.register.now).ranges))
    c.args.keys.now
    count
    c.merge.new.froms
    c.merge.new.tos
merged c is = merged_of (kept_as c.args.register.now c.args.day c.read-n.ensures c.keep-k.ensures) c.args.keys.now c.merge.new.froms c.merge.new.tos c.merge.ensures is

pub returns-in_default : goal.returns-in_default
returns-in_default c = keys_clash _ c.args.keys.now c.args.code c.args.day c.args.target.now (merged_clash (kept_as c.args.register.now c.args.day c.read-n.ensures c.keep-k.ensures) c.args.keys.now c.merge.new.froms c.merge.new.tos c.merge.ensures c.in_default.is)

pub returns-then-many : goal.returns-then-many
returns-then-many c = keys_many c.args.code c.args.day c.args.target.now (merged (goal.at.returns-then-many c).After-merge c.in-Some.is) c.if-many.true

pub overflow_sub-count : goal.overflow_sub-count
overflow_sub-count c = keys_some c.args.code c.args.day c.args.target.now (merged (goal.at.overflow_sub-count c).After-merge c.in-Some.is)

pub returns-then-target-count : goal.returns-then-target-count
returns-then-target-count c = keys_short c.args.code c.args.day c.args.target.now (merged (goal.at.returns-then-target-count c).After-merge c.in-Some.is) c.if-many.false c.if-target-count.true

pub slice_bounds-put_register-count : goal.slice_bounds-put_register-count
slice_bounds-put_register-count c = keys_some c.args.code c.args.day c.args.target.now (merged (goal.at.slice_bounds-put_register-count c).After-merge c.in-Some.is)

pub slice_bounds-put_register-start : goal.slice_bounds-put_register-start
slice_bounds-put_register-start c = keys_some c.args.code c.args.day c.args.target.now (merged (goal.at.slice_bounds-put_register-start c).After-merge c.in-Some.is)

pub slice_bounds-put_register-count-2 : goal.slice_bounds-put_register-count-2
slice_bounds-put_register-count-2 c = keys_some c.args.code c.args.day c.args.target.now (merged (goal.at.slice_bounds-put_register-count-2 c).After-merge c.in-Some.is)

pub slice_bounds-put_register-start-2 : goal.slice_bounds-put_register-start-2
slice_bounds-put_register-start-2 c = keys_some c.args.code c.args.day c.args.target.now (merged (goal.at.slice_bounds-put_register-start-2 c).After-merge c.in-Some.is)

pub returns : goal.returns
returns c =
    keys_done c.args.code c.args.day c.args.target.now (merged (goal.at.returns c).After-merge c.in-Some.is) c.if-many.false c.if-target-count.false
    (omega (arith, c.merge.auto.froms, c.if-many.false)) (omega (arith, c.merge.auto.tos, c.if-many.false)) c.put_register.ensures
