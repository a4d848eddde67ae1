use Rattle.std.proofs.Common.{sym, subst}
use Rattle.surveying.specs.declared.Lead.{Lead}
use Rattle.surveying.specs.Items.{items_of}
use Rattle.surveying.specs.Model.{Leads}
use Rattle.surveying.proofs.Leading.{lead_anyhow}
use Rattle.surveying.proofs.lead_of.Goals as goal

pub returns : goal.returns
returns c q A = subst (λ (l : Lead). Leads q (items_of c.args.s.now) l) (sym c.unwrap_or.ensures) (lead_anyhow q _ _ _ (c.lead_if_derived.ensures q A))
