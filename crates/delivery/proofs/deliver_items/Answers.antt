use Rattle.std.proofs.Common.{arith, sym}
use native.Mathlib.Nat.{add-zero}
use Rattle.delivery.proofs.Items.{first_unsent, items_unsent, items_derived, items_mixed, items_sent}
use Rattle.delivery.proofs.deliver_items.Goals as goal

pub returns-in_default : goal.returns-in_default
returns-in_default c =
    first_unsent c.args.items.now _ c.args.certis c.args.day c.args.target.now c.requires.headed.1 c.requires.headed.0 (omega (arith, c.requires.n_value.0, c.requires.n_value.1))
    (c.in_default.ensures _ (record { outcome = sym c.at_or_zero-outcome.ensures; standing = sym c.at_or_zero-standing.ensures; number = add-zero _ }))

pub returns-in_default-survey_all : goal.returns-in_default-survey_all
returns-in_default-survey_all c =
    items_unsent c.args.items.now _ c.args.certis c.args.day c.args.target.now c.requires.headed.1 c.requires.headed.0 (omega (arith, c.requires.n_value.0, c.requires.n_value.1)) c.in-Some.lead
    (c.in-Some.ensures _ (record { outcome = sym c.at_or_zero-outcome.ensures; standing = sym c.at_or_zero-standing.ensures; number = add-zero _ }))
    c.survey_all.new.counts c.survey_all.new.sums c.in_default-survey_all.ensures

pub returns-then-other : goal.returns-then-other
returns-then-other c =
    items_mixed c.args.items.now _ c.args.certis c.args.day c.args.target.now c.requires.headed.1 c.requires.headed.0 (omega (arith, c.requires.n_value.0, c.requires.n_value.1)) c.in-Some.lead
    (c.in-Some.ensures _ (record { outcome = sym c.at_or_zero-outcome.ensures; standing = sym c.at_or_zero-standing.ensures; number = add-zero _ }))
    _ _ c.in-Some-survey_all.other c.in-Some-survey_all.ensures c.if-other.true

pub deliver_sent-requires-clause-value : goal.deliver_sent-requires-clause-value
deliver_sent-requires-clause-value c =
    items_derived c.args.items.now _ c.args.certis c.args.day c.args.target.now c.requires.headed.1 c.requires.headed.0 (omega (arith, c.requires.n_value.0, c.requires.n_value.1)) c.in-Some.lead
    (c.in-Some.ensures _ (record { outcome = sym c.at_or_zero-outcome.ensures; standing = sym c.at_or_zero-standing.ensures; number = add-zero _ }))
    _ _ c.in-Some-survey_all.other c.in-Some-survey_all.ensures

pub returns : goal.returns
returns c =
    items_sent c.args.items.now _ c.args.certis c.args.day c.args.target.now c.requires.headed.1 c.requires.headed.0 (omega (arith, c.requires.n_value.0, c.requires.n_value.1)) c.in-Some.lead
    (c.in-Some.ensures _ (record { outcome = sym c.at_or_zero-outcome.ensures; standing = sym c.at_or_zero-standing.ensures; number = add-zero _ }))
    _ _ c.in-Some-survey_all.other c.in-Some-survey_all.ensures c.if-other.false c.args.n c.requires.n_value.0 c.requires.n_value.2 c.deliver_sent.ensures
