use mathlib.Core.Path.{sym, ap, ◌∙◌}
use mathlib.Core.Bool.{not}
use native.Mathlib.Omega.{arith}
use lib.Seq.{length-take-le}
use Rattle.listing.proofs.Answers.{level, bad_code, bad_day, too_long, unequal_rooms, no_mark, leftovers, starts_with_mark_lem, checked}
use Rattle.listing.proofs.checking.check.Goals as goal

pub returns-then-not-is_code : goal.returns-then-not-is_code
returns-then-not-is_code c = bad_code _ _ _ _ _ (ap not (sym c.is_code.ensures ∙ c.if-not-is_code.true))

pub returns-then-not-is_accounting_day : goal.returns-then-not-is_accounting_day
returns-then-not-is_accounting_day c = bad_day _ _ _ _ _ (ap not (sym c.is_code.ensures ∙ c.if-not-is_code.false)) (ap not (sym c.is_accounting_day.ensures ∙ c.if-not-is_accounting_day.true))

pub returns-then-file-gt10000000 : goal.returns-then-file-gt10000000
returns-then-file-gt10000000 c = too_long _ _ _ _ _ (ap not (sym c.is_code.ensures ∙ c.if-not-is_code.false)) (ap not (sym c.is_accounting_day.ensures ∙ c.if-not-is_accounting_day.false)) c.if-file-gt10000000.true

pub returns-then-not-are_level : goal.returns-then-not-are_level
returns-then-not-are_level c = unequal_rooms _ _ _ _ _ (ap not (sym c.is_code.ensures ∙ c.if-not-is_code.false)) (ap not (sym c.is_accounting_day.ensures ∙ c.if-not-is_accounting_day.false)) c.if-file-gt10000000.false (ap not (sym c.are_level.ensures ∙ c.if-not-are_level.true))

pub returns-then-file-n : goal.returns-then-file-n
returns-then-file-n c = no_mark _ _ _ _ _ (ap not (sym c.is_code.ensures ∙ c.if-not-is_code.false)) (ap not (sym c.is_accounting_day.ensures ∙ c.if-not-is_accounting_day.false)) c.if-file-gt10000000.false (ap not (sym c.are_level.ensures ∙ c.if-not-are_level.false)) _ c.body_len-n.ensures c.if-file-n.true

pub returns-then-n-file : goal.returns-then-n-file
returns-then-n-file c = leftovers _ _ _ _ _ (ap not (sym c.is_code.ensures ∙ c.if-not-is_code.false)) (ap not (sym c.is_accounting_day.ensures ∙ c.if-not-is_accounting_day.false)) c.if-file-gt10000000.false (ap not (sym c.are_level.ensures ∙ c.if-not-are_level.false)) _ c.body_len-n.ensures c.if-file-n.false c.if-n-file.true

pub returns-then-n-eq0 : goal.returns-then-n-eq0
returns-then-n-eq0 c = starts_with_mark_lem _ _ _ _ _ (ap not (sym c.is_code.ensures ∙ c.if-not-is_code.false)) (ap not (sym c.is_accounting_day.ensures ∙ c.if-not-is_accounting_day.false)) c.if-file-gt10000000.false (ap not (sym c.are_level.ensures ∙ c.if-not-are_level.false)) _ c.body_len-n.ensures c.if-file-n.false c.if-n-file.false c.if-n-eq0.true

pub slice_bounds-enter_faults-end : goal.slice_bounds-enter_faults-end
slice_bounds-enter_faults-end c = sym (length-take-le _ c.args.file.now (omega (arith, c.if-file-n.false)))

pub enter_faults-g-requires : goal.enter_faults-g-requires
enter_faults-g-requires c =
    let l = level _ _ _ (ap not (sym c.are_level.ensures ∙ c.if-not-are_level.false)) in
    record {
      s_len_bound = omega (arith, length-take-le c.body_len-n.result c.args.file.now (omega (arith, c.if-file-n.false)), c.if-file-gt10000000.false, c.if-file-n.false);
      lines_len = l.0;
      lines_len_2 = l.1;
    }

pub returns : goal.returns
returns c = checked _ _ _ _ _ (ap not (sym c.is_code.ensures ∙ c.if-not-is_code.false)) (ap not (sym c.is_accounting_day.ensures ∙ c.if-not-is_accounting_day.false)) c.if-file-gt10000000.false (ap not (sym c.are_level.ensures ∙ c.if-not-are_level.false)) _ c.body_len-n.ensures c.if-file-n.false c.if-n-file.false c.if-n-eq0.false c.enter_faults-g.ensures
