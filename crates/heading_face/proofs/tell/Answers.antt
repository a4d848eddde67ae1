use Rattle.std.proofs.Common.{sym}
use Rattle.heading_face.proofs.tell.Goals as goal

pub returns-in-Ok : goal.returns-in-Ok
returns-in-Ok c =
    let w = c.in-Ok.ensures in
    let z = sym w.number in
    record { number = w.number; kind = rw z at (w.kind 0); code = rw z at (w.code 0) }
