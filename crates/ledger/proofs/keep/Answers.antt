use Rattle.ledger.proofs.Putting.{keep_full, keep_room}
use Rattle.ledger.proofs.Beside.{kept_room}
use Rattle.ledger.proofs.keep.Goals as goal

pub returns-then-p-room : goal.returns-then-p-room
returns-then-p-room c = record { put = keep_full c.requires.ready c.place-p.ensures.within c.if-p-room.true c.place-p.ensures.split; placed = λ off ps₀ h B. B }

pub returns : goal.returns
returns c = let R = c.requires.ready in
    let inside = c.if-p-room.false in
    record { put = keep_room R c.place-p.ensures.within inside c.place-p.ensures.split c.min-last.ensures c.open_at.ensures c.open_at-2.ensures; placed = kept_room c.requires.lines_len R.room c.place-p.ensures.within inside c.min-last.ensures c.open_at.ensures c.open_at-3.ensures }
