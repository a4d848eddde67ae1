use Rattle.text.proofs.Wrote.{then}
use Rattle.listing_texts.specs.Printing.{row_text}
use Rattle.text.proofs.Bare.{room_for}
use borrow.Author.Rules.{rules}
use Rattle.listing_texts.proofs.printing.put_row.Goals as goal

pub put_decimal-next-requires : goal.put_decimal-next-requires
put_decimal-next-requires c = room_for _ _ _ (search rules)

pub put_decimal-next-requires-2 : goal.put_decimal-next-requires-2
put_decimal-next-requires-2 c = room_for _ _ _ (search rules)

pub returns : goal.returns
unfolding row_text
returns c = record { text = then (then (then (then c.put-next.ensures c.put_decimal-next.ensures.text) c.put-next-2.ensures) c.put_decimal-next-2.ensures.text) c.put.ensures; end = search rules }
