use native.Mathlib.Omega.{arith}
use mathlib.Core.Path.{sym}
use lib.Seq.{length-take-le}
use Rattle.file_body.proofs.Body.{body_le}
use Rattle.portions.proofs.Bounds.{open_so}
use Rattle.portions_adding.proofs.Growing.{read_more}
use Rattle.portions_adding.proofs.read_on.Goals as goal

pub slice_bounds-go_on-end : goal.slice_bounds-go_on-end
slice_bounds-go_on-end c = sym (length-take-le c.body_len-n.result c.args.s.now (omega (arith, c.body_len-n.ensures, body_le c.args.s.now)))

pub go_on-going-requires : goal.go_on-going-requires
go_on-going-requires c = let U = open_so _ _ _ _ c.requires.offsets_value in
    record { s_bound = omega (arith, U.came, c.requires.bytes_value.0, c.requires.bytes_value.1, c.body_len-n.ensures, body_le c.args.s.now, length-take-le c.body_len-n.result c.args.s.now (omega (arith, c.body_len-n.ensures, body_le c.args.s.now))); sound = U.sound }

pub returns : goal.returns
returns c = read_more c.args.p _ _ _ _ _ c.requires.offsets_value _ c.requires.bytes_value.0 c.requires.bytes_value.1 c.requires.seen_value _ c.body_len-n.ensures c.basis_of-basis.ensures c.go_on-going.ensures.sound_2 c.go_on-going.ensures.came_value c.go_on-going.ensures.gone
