use native.Mathlib.Omega.{arith}
use mathlib.Core.Path.{refl}
use Rattle.portions.proofs.Bounds.{open_so}
use Rattle.portions_adding.proofs.Growing.{counted_as, too_many, behind_mark}
use Rattle.portions_adding.proofs.take_in.Goals as goal

pub overflow_sub-room : goal.overflow_sub-room
overflow_sub-room c = omega (arith, (open_so _ _ _ _ c.requires).few)

pub returns-then-room-s : goal.returns-then-room-s
returns-then-room-s c = counted_as c.counted.ensures (too_many _ _ _ _ _ _ c.requires (omega (arith, c.if-room-s.true)))

pub returns-then-p : goal.returns-then-p
returns-then-p c = counted_as c.counted-then-p.ensures (behind_mark _ _ _ _ _ _ c.requires _ refl (omega (arith, c.if-room-s.false, (open_so _ _ _ _ c.requires).few)) c.if-p.true)

pub read_on-requires : goal.read_on-requires
read_on-requires c = record { offsets_value = c.requires; seen_value = c.if-p.false; bytes_value = (refl, omega (arith, c.if-room-s.false, (open_so _ _ _ _ c.requires).few)) }

pub returns : goal.returns
returns c = c.read_on.ensures
