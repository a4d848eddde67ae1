-- The rules on a readable heading's own parts (document 01): checking judges by them, and deriving refuses by them.
use Rattle.std.specs.Prelude.{Bool, cond, not, ◌&&◌, ◌||◌, eqb}
use Rattle.headings.specs.declared.Heading.{Heading}
use Rattle.headings.specs.ItemTypes.{is_input, is_trilateral}

-- '10: type isn't an input type'
unfoldable pub rule10 : Heading → Bool
rule10 h = not (is_input h.kind)

-- '13: output number not zero'
unfoldable pub rule13 : Heading → Bool
rule13 h = not (eqb h.output.0 0)

-- 'For input types: 14: second code zero, or third code zero in 35, 37, 45, or not zero in the others'
unfoldable pub rule14 : Heading → Bool
rule14 h =
    is_input h.kind
    && (eqb h.second.0 0 || cond (is_trilateral h.kind) (eqb h.third.0 0) (not (eqb h.third.0 0)))
