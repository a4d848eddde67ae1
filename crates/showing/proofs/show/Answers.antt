use Rattle.showing.proofs.Written.{room, shows}
use Rattle.showing.proofs.show.Goals as goal

pub put_decimal-requires : goal.put_decimal-requires
put_decimal-requires c = room c.args.turnover c.ranges.turnover c.unsigned_abs.ensures.value c.sign_of.ensures c.args.target.now c.put_decimal-arg-1.given.0.1

pub returns : goal.returns
returns c = shows c.args.turnover c.ranges.turnover c.unsigned_abs.ensures.value c.sign_of.ensures c.args.target.now c.put_decimal-arg-1.given.0.1 c.put_decimal.ensures.text
