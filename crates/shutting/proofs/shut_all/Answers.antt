use mathlib.Core.Path.{sym, ◌∙◌}
use native.Mathlib.Omega.{arith}
use Rattle.ledger.proofs.Marks.{marked_few}
use Rattle.ledger.proofs.Entering.{entered_both}
use Rattle.closing.specs.Closing.{close_by, by_faults}
use Rattle.shutting.proofs.Waiting.{entered_list}
use Rattle.shutting.proofs.shut_all.Goals as goal

pub enter-g1-requires : goal.enter-g1-requires
enter-g1-requires c = record { ready = c.requires.ready; lines_len = c.requires.lines_len; total_bound = omega (arith, c.requires.total_bound.0) }

pub shut_item-requires : goal.shut_item-requires
shut_item-requires c = let a = c.args in
    let E = c.enter-g1.ensures.entered in
    record { ready = E.put.ready; lines_len = c.enter-g1.auto.lines ∙ c.requires.lines_len ∙ sym c.enter-g1.auto.offsets; total_bound = (omega (arith, E.sum, c.requires.total_bound.0, marked_few a.o.no a.o.marks), c.requires.total_bound.1, c.requires.total_bound.2, c.requires.total_bound.3) }

pub shape_of-lines : goal.shape_of-lines
shape_of-lines c = c.shut_item.auto.lines ∙ c.enter-g1.auto.lines

pub shape_of-rules : goal.shape_of-rules
shape_of-rules c = c.shut_item.auto.rules ∙ c.enter-g1.auto.rules

pub shape_of-offsets : goal.shape_of-offsets
shape_of-offsets c = c.shut_item.auto.offsets ∙ c.enter-g1.auto.offsets

pub returns : goal.returns
returns c = let a = c.args in
    record {
      entered = entered_both c.requires.ready c.enter-g1.ensures.entered (entered_list (λ i. by_faults a.basis a.c a.w a.no a.own (c.read_as-read.ensures i) a.kc a.span a.groups) c.shut_item.ensures.entered);
      course_value = (
        c.shut_item.ensures.course_value.0 ∙ (λ i. (close_by a.basis a.c a.w a.no a.own (c.read_as-read.ensures i) a.kc a.span a.groups).course),
        c.shut_item.ensures.course_value.1 ∙ (λ i. (close_by a.basis a.c a.w a.no a.own (c.read_as-read.ensures i) a.kc a.span a.groups).wait),
        c.shut_item.ensures.course_value.2,
      );
      kept = λ off ps₀ S B. c.shut_item.ensures.kept off ps₀ S.1 (c.enter-g1.ensures.placed off ps₀ S.0 B);
      waits_at = c.shut_item.ensures.waits_at;
    }
