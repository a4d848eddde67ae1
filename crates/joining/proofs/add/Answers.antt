use Rattle.joining.proofs.Padded.{add_fits, add_is, bare_fits}
use Rattle.joining.proofs.add.Goals as goal

pub slice_bounds-shortened-end : goal.slice_bounds-shortened-end
slice_bounds-shortened-end c = (add_fits c.args.h c.args.s.now _ _ c.with_cr-t.result c.bare_len-k.ensures c.with_cr-t.ensures).1

pub slice_bounds-shortened-end-2 : goal.slice_bounds-shortened-end-2
slice_bounds-shortened-end-2 c = bare_fits c.args.s.now _ c.bare_len-k.ensures

pub returns : goal.returns
returns c = add_is c.args.h c.args.s.now _ c.with_cr-t.result c.shortened-u.result c.bare_len-k.ensures c.with_cr-t.ensures c.shortened-u.ensures

pub shared_ref_as_front-shortened : goal.shared_ref_as_front-shortened
shared_ref_as_front-shortened c = (add_fits c.args.h c.args.s.now _ _ c.with_cr-t.result c.bare_len-k.ensures c.with_cr-t.ensures).0
