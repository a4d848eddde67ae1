use Rattle.gathering.proofs.put_in_order.Goals as goal

pub returns : goal.returns
returns c = c.sort.ensures 0 1000000000000000 c.requires
