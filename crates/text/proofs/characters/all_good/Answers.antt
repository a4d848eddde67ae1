use native.Mathlib.Numerals.{add-one}
use borrow.Author.Rules.{rules}
use Rattle.laws.specs.Lists.{any_of}
use Rattle.text.specs.Characters.{is_inadmissible}
use Rattle.text.proofs.Admissible.{answered}
use Rattle.text.proofs.Eights.{none_more}
use Rattle.text.proofs.characters.all_good.Goals as goal

pub loop-b-init : goal.loop-b-init
unfolding any_of
loop-b-init c = search rules

pub loop-b-preserved : goal.loop-b-preserved
loop-b-preserved c = rw add-one (none_more is_inadmissible _ c.loop-b.b-index c.loop-b-test.true c.loop-b.invariant (answered _ _ _ c.requires c.from.ensures (search rules)))
