use Rattle.std.proofs.Common.{sym, ◌∙◌}
use Rattle.vetting.proofs.Whole.{barred_below, barred_fifteen, taken}
use Rattle.vetting.proofs.take_item.Goals as goal

pub returns-in_err-fields-clause-takes : goal.returns-in_err-fields-clause-takes
returns-in_err-fields-clause-takes c =
    let head = c.in_ok-head.head in
    rw c.from_residual-in_err-fields.ensures
    (λ terms q. barred_below terms head.heading c.args.s.now c.args.at head.next (c.in_ok-head.ensures.head_to terms q) (c.in_err-fields.ensures.fields_to terms q))

pub returns-then-breaks_fifteen-clause-takes : goal.returns-then-breaks_fifteen-clause-takes
returns-then-breaks_fifteen-clause-takes c =
    let head = c.in_ok-head.head in
    let fields = c.in_ok-fields.fields in
    λ terms q.
    barred_fifteen terms head.heading c.args.s.now c.args.at head.next (c.in_ok-head.ensures.head_to terms q) fields.kc fields.next
    (c.in_ok-fields.ensures.fields_to terms q).0 (sym c.breaks_fifteen.ensures ∙ c.if-breaks_fifteen.true)

pub returns-clause-takes : goal.returns-clause-takes
returns-clause-takes c =
    let head = c.in_ok-head.head in
    let fields = c.in_ok-fields.fields in
    λ terms q.
    let F = c.in_ok-fields.ensures.fields_to terms q in
    taken terms head.heading c.args.s.now c.args.at head.next (c.in_ok-head.ensures.head_to terms q) fields.kc fields.next F.0
    F.4 (sym c.breaks_fifteen.ensures ∙ c.if-breaks_fifteen.false) c.amount_of.result c.amount_of.ensures c.in_ok-head.ensures.head_leads.0 F.1 F.2 F.3
