use Rattle.text.proofs.Wrote.{then}
use Rattle.listing_texts.specs.Printing.{total_text}
use Rattle.text.proofs.Bare.{room_for}
use borrow.Author.Rules.{rules}
use Rattle.listing_texts.proofs.printing.put_total.Goals as goal

pub put_decimal-next-requires : goal.put_decimal-next-requires
put_decimal-next-requires c = room_for _ _ _ (search rules)

pub returns : goal.returns
unfolding total_text
returns c = then (then c.put-next.ensures c.put_decimal-next.ensures.text) c.put.ensures
