use native.Mathlib.Omega.{arith}
use mathlib.Core.Path.{sym, ◌∙◌}
use lib.Seq.{length-take-le}
use Rattle.delivery.proofs.Rows.{front_is, front_fits, sent_file_lem}
use Rattle.delivery.proofs.Cases.{same_any, sums_large, same_lines}
use Rattle.delivery.proofs.deliver_sent.Goals as goal

pub returns-then-any_large : goal.returns-then-any_large
returns-then-any_large c = sums_large _ _ _ (sym (c.any_large.ensures ∙ same_any _ _) ∙ c.if-any_large.true)

pub slice_bounds-put_file-end : goal.slice_bounds-put_file-end
slice_bounds-put_file-end c = sym (length-take-le _ _ (front_fits c.put_end-m.ensures.text))

pub put_file-requires : goal.put_file-requires
put_file-requires c = let l = length-take-le c.put_end-m.result c.put_end-m.new.out (front_fits c.put_end-m.ensures.text) in
    record { value = c.requires.value; rest_len_bound = omega (arith, l, c.put_end-m.ensures.end) }

pub returns : goal.returns
returns c = same_lines _ (sym (c.any_large.ensures ∙ same_any _ _) ∙ c.if-any_large.false) (sent_file_lem _ _ _ _ _ _ _ _ (front_is c.put_end-m.ensures.text)) c.put_file.ensures
