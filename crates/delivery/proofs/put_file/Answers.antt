use Rattle.std.proofs.Common.{arith}
use Rattle.delivery.proofs.Cases.{lines_done}
use Rattle.delivery.proofs.put_file.Goals as goal

pub overflow_add-size : goal.overflow_add-size
overflow_add-size c = let z = c.size_of.ensures c.args.standings.now c.args.start in omega (arith, z, c.requires.rest_len_bound)

pub returns : goal.returns
returns c =
    lines_done _ _ _ (c.size_of.ensures c.args.standings.now c.args.start) c.if-size-gt4000000000.false c.if-target-size.false c.put_lines-next.ensures c.put-end.ensures
