use Rattle.std.proofs.Common.{sym, ◌∙◌}
use Rattle.outgoing_lines.specs.Outgoing.{Orders}
use Rattle.delivery.proofs.Job.{bad_code, bad_day, no_items, counted, not_headed, headed, as_items}
use Rattle.delivery.proofs.deliver.Goals as goal

pub returns-then-not-is_code : goal.returns-then-not-is_code
returns-then-not-is_code c = bad_code _ _ _ _ _ (sym c.is_code.ensures ∙ c.if-not-is_code.true)

pub returns-then-not-is_accounting_day : goal.returns-then-not-is_accounting_day
returns-then-not-is_accounting_day c =
    bad_day _ _ _ _ _ (sym c.is_code.ensures ∙ c.if-not-is_code.false) (sym c.is_accounting_day.ensures ∙ c.if-not-is_accounting_day.true)

pub returns-then-not_items : goal.returns-then-not_items
returns-then-not_items c =
    no_items _ _ _ _ _ (sym c.is_code.ensures ∙ c.if-not-is_code.false) (sym c.is_accounting_day.ensures ∙ c.if-not-is_accounting_day.false) _
    c.count_items-n.ensures (sym c.not_items.ensures ∙ c.if-not_items.true)

pub returns-then-not-starts : goal.returns-then-not-starts
returns-then-not-starts c =
    not_headed _ _ _ _ _ (sym c.is_code.ensures ∙ c.if-not-is_code.false) (sym c.is_accounting_day.ensures ∙ c.if-not-is_accounting_day.false) _
    c.count_items-n.ensures (sym c.not_items.ensures ∙ c.if-not_items.false) (sym c.starts.ensures ∙ c.if-not-starts.true)

pub deliver_items-requires : goal.deliver_items-requires
deliver_items-requires c =
    let q : Orders = record { outcomes = c.args.outcomes.now; standings = c.args.standings.now; start = c.args.start } in
    let e = sym c.is_code.ensures ∙ c.if-not-is_code.false in
    let d = sym c.is_accounting_day.ensures ∙ c.if-not-is_accounting_day.false in
    let f = sym c.not_items.ensures ∙ c.if-not_items.false in
    record {
      headed = headed c.args.items.now q c.args.certis c.args.day c.args.target.now e d _ c.count_items-n.ensures f (sym c.starts.ensures ∙ c.if-not-starts.false);
      n_value = counted c.args.items.now q c.args.certis c.args.day c.args.target.now e d _ c.count_items-n.ensures f;
    }

pub returns : goal.returns
returns c =
    as_items _ _ _ _ _ (sym c.is_code.ensures ∙ c.if-not-is_code.false) (sym c.is_accounting_day.ensures ∙ c.if-not-is_accounting_day.false) _
    c.count_items-n.ensures (sym c.not_items.ensures ∙ c.if-not_items.false) c.deliver_items.ensures
