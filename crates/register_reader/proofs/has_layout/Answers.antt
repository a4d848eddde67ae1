use Rattle.register_reader.proofs.Laid.{too_short, layout_is}
use Rattle.register_reader.proofs.has_layout.Goals as goal

pub returns-then-s-lt13 : goal.returns-then-s-lt13
returns-then-s-lt13 c = too_short _ c.if-s-lt13.true

pub returns : goal.returns
returns c = layout_is c.args.s.now c.read-version.ensures c.read-count.ensures c.starts.ensures c.is_version.ensures c.most_of.ensures
