use native.Mathlib.Omega.{arith}
use mathlib.Core.Path.{refl}
use Rattle.text.specs.Forms.{template}
use Rattle.item_reader.proofs.Known.{room, past_within, digits_at, numbered}
use Rattle.item_reader.proofs.number_at.Goals as goal

pub line_past-requires : goal.line_past-requires
line_past-requires c = room _ _ c.requires.0 c.requires.1 c.requires.2

pub heading_from-next-requires : goal.heading_from-next-requires
heading_from-next-requires c = past_within _ _ c.requires.0 c.requires.1 c.requires.2 c.line_past.ensures

pub day_by-day-requires : goal.day_by-day-requires
unfolding template
day_by-day-requires c = (digits_at _ _ c.requires.0 c.requires.1 c.requires.2 _ 8 refl refl (omega arith) (omega arith), c.word-digits.ensures, c.requires.3)

pub part-number-requires : goal.part-number-requires
unfolding template
part-number-requires c = digits_at _ _ c.requires.0 c.requires.1 c.requires.2 _ 7 refl refl (omega arith) (omega arith)

pub returns : goal.returns
returns c = numbered _ _ c.requires.0 c.requires.1 c.requires.2 c.line_past.ensures c.heading_from-next.ensures c.day_by-day.ensures c.word-digits.ensures c.part-number.ensures
