use mathlib.Core.Path.{refl}
use native.Mathlib.Numerals.{add-one}
use native.Mathlib.Omega.{arith}
use borrow.Author.Rules.{rules}
use Rattle.laws.specs.Lists.{any_of}
use Rattle.laws.specs.Tests.{is_byte}
use Rattle.text.proofs.Eights.{none_more}
use Rattle.file_body.proofs.is_clear.Goals as goal

pub loop-b-init : goal.loop-b-init
unfolding any_of
loop-b-init c = search rules

pub loop-b-preserved : goal.loop-b-preserved
loop-b-preserved c = rw add-one (none_more (is_byte 0x1a) _ c.loop-b.b-index (omega (arith, c.loop-b-test.true, c.told-block)) c.loop-b.invariant refl)
