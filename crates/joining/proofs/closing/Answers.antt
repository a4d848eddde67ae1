use Rattle.joining.proofs.Padded.{kept_all}
use Rattle.joining.proofs.closing.Goals as goal

pub returns : goal.returns
returns c = kept_all c.args.h c.with_cr.ensures
