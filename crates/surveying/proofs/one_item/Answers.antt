use Rattle.std.proofs.Common.{Bool, ◌||◌, Some, sym, ap, subst, ◌∙◌}
use Rattle.rules.specs.BlockRules.{unlike}
use Rattle.surveying.specs.Model.{Steps}
use Rattle.surveying.proofs.Stepping.{step_barred, step_refused, step_strays, step_on}
use Rattle.surveying.proofs.one_item.Goals as goal

pub returns-in_err-item-clause-steps : goal.returns-in_err-item-clause-steps
returns-in_err-item-clause-steps c =
    rw c.from_residual.ensures
    (λ q terms b A. step_barred q terms c.args.lead c.args.s.now c.args.at c.args.k c.args.counts.now c.args.sums.now (c.in_err-item.ensures.takes terms b))

pub returns-in_err-way-clause-steps : goal.returns-in_err-way-clause-steps
returns-in_err-way-clause-steps c =
    rw c.from_residual-in_err-way.ensures
    (λ q terms b A.
    step_refused q terms c.args.lead c.args.s.now c.args.at c.args.k c.args.counts.now c.args.sums.now A c.in_ok-item.item (c.in_ok-item.ensures.takes terms b)
    (sym c.in_err-way.ensures))

pub returns-then-strays-clause-steps : goal.returns-then-strays-clause-steps
returns-then-strays-clause-steps c q terms b A =
    step_strays q terms c.args.lead c.args.s.now c.args.at c.args.k c.args.counts.now c.args.sums.now A c.in_ok-item.item (c.in_ok-item.ensures.takes terms b)
    c.in_ok-way.way (sym c.in_ok-way.ensures)
    (sym c.strays.ensures ∙ c.if-strays.true)

pub returns-clause-steps : goal.returns-clause-steps
returns-clause-steps c q terms b A =
    let e = c.unlike-other.ensures ∙ ap (λ (t : Bool). unlike t c.args.lead.priority) c.is_priority.ensures in
    let f = c.unlike.ensures ∙ ap (λ (t : Bool). unlike t c.args.lead.alone) c.is_alone.ensures in
    subst (λ (t : Bool). Steps q terms c.args.lead c.args.s.now c.args.at c.args.k c.args.counts.now c.args.sums.now (Some (record { next = c.in_ok-item.item.next; differs = t })) c.add_amount.new.counts c.add_amount.new.sums)
    (λ i. sym e i || sym f i)
    (step_on q terms c.args.lead c.args.s.now c.args.at c.args.k c.args.counts.now c.args.sums.now A c.in_ok-item.item (c.in_ok-item.ensures.takes terms b)
    c.in_ok-way.way (sym c.in_ok-way.ensures)
    (sym c.strays.ensures ∙ c.if-strays.false)
    c.add_amount.ensures.counts_after
    c.add_amount.ensures.sums_after)
