use mathlib.Core.Path.{◌≡◌}
use mathlib.Core.Bool.{not}
use lib.ListN.{take}
use Rattle.laws.specs.Lists.{any_of}
use Rattle.laws.specs.Tests.{is_byte}
use Rattle.file_body.proofs.is_clear.Given as goal

abbrev pub invariant-loop-b : goal.invariant-loop-b
invariant-loop-b l = l.clear ≡ not (any_of (is_byte 0x1a) (take l.b-index l.block))
