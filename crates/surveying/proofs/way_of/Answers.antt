use Rattle.std.proofs.Common.{sym}
use Rattle.surveying.proofs.Ways.{too_large}
use Rattle.surveying.proofs.way_of.Goals as goal

pub returns-then-number-gt9999999 : goal.returns-then-number-gt9999999
returns-then-number-gt9999999 c =
    sym (too_large c.args.h c.args.outcome c.args.standing c.args.number c.if-number-gt9999999.true)
