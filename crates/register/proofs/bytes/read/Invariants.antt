use Prim.Native.Nat.{◌+◌, ◌-◌, ◌^◌, ◌<◌}
use mathlib.Core.Path.{◌≡◌}
use lib.ListN.{take, drop}
use Rattle.register.specs.Bytes.{big_after, big_at}
use Rattle.register.proofs.bytes.read.Given as goal

abbrev pub invariant-loop-i : goal.invariant-loop-i
invariant-loop-i l = (big_at l.n l.at l.s ≡ big_after l.v (take (l.n - l.i) (drop (l.at + l.i) l.s))) × (l.v < 256 ^ l.i)
