use mathlib.Core.Path.{◌≡◌}
use mathlib.Core.Bool.{◌&&◌}
use lib.ListN.{length}
use Rattle.std.specs.Iterator.Adapters.{zip_first, zip_second}
use Rattle.std.specs.Slice.Iter.{iter_rest}
use Rattle.text.specs.Forms.{has_form}
use Rattle.text.proofs.forms.has_form.Given as goal

abbrev pub invariant-loop-t : goal.invariant-loop-t
invariant-loop-t l = record {
  alike : length (iter_rest (zip_first l.t-iterator)) ≡ length (iter_rest (zip_second l.t-iterator));
  so_far : has_form l.template l.s ≡ (l.all && has_form (iter_rest (zip_first l.t-iterator)) (iter_rest (zip_second l.t-iterator)));
}
