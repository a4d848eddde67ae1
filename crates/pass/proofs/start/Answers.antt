use mathlib.Core.Bool.{false}
use Rattle.rules.specs.declared.First.TheVariants.{Missing}
use Rattle.pass.proofs.start.Goals as goal

pub returns : goal.returns
returns c = λ i. record {
  ledger = c.empty-ledger.ensures i;
  field = c.none_open-field.ensures i;
  pend = c.no_pend-pend.ensures i;
  since = 0;
  top = 0;
  reads = false;
  heading = c.no_heading-heading.result;
  kc = Missing;
  span = Missing;
  stated = c.no_sums-stated.ensures i;
  block = c.start-block.ensures i;
  wait = c.no_wait-wait.ensures i;
  starts = record { field = 0; head = 0; wait = 0 };
  n = 0;
}
