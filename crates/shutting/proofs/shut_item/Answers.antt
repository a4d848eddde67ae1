use mathlib.Core.Path.{sym, ap, ◌∙◌}
use native.Mathlib.Omega.{arith}
use Rattle.ledger.specs.Marks.{marked}
use Rattle.ledger.proofs.Entering.{entered_both}
use Rattle.closing.specs.declared.Shut.{Shut}
use Rattle.shutting.proofs.Waiting.{entered_list, waits_at}
use Rattle.shutting.proofs.shut_item.Goals as goal

pub enter-first-requires : goal.enter-first-requires
enter-first-requires c = record { ready = c.requires.ready; lines_len = c.requires.lines_len; total_bound = omega (arith, c.requires.total_bound.0) }

pub enter-ledger-requires : goal.enter-ledger-requires
enter-ledger-requires c = record { ready = c.enter-first.ensures.entered.put.ready; lines_len = c.enter-first.auto.lines ∙ c.requires.lines_len ∙ sym c.enter-first.auto.offsets; total_bound = omega (arith, c.enter-first.ensures.few, c.requires.total_bound.0) }

pub returns : goal.returns
returns c = let a = c.args in
    let e = c.close_item-s.ensures.0 in record {
      entered = entered_both c.requires.ready (entered_list (ap (λ (x : Shut). marked a.w.line x.told) e) c.enter-first.ensures.entered)
          (entered_list (ap (λ (x : Shut). marked a.no x.marks) e) c.enter-ledger.ensures.entered);
      course_value = (ap (λ (x : Shut). x.course) e, ap (λ (x : Shut). x.wait) e, c.close_item-s.ensures.1);
      kept = λ off ps₀ S B. c.enter-ledger.ensures.placed off ps₀ S.at_head (c.enter-first.ensures.placed off ps₀ S.at_wait B);
      waits_at = waits_at a.basis a.c a.w a.no a.own a.read a.kc a.span a.groups a.starts (ap (λ (x : Shut). x.wait) e) c.start_of.ensures;
    }
