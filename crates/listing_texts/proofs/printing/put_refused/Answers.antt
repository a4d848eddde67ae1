use Rattle.text.proofs.Wrote.{then}
use Rattle.listing_texts.specs.Printing.{refused_text}
use Rattle.text.proofs.Bare.{room_for}
use Rattle.listing_texts.proofs.Listings.{at_start}
use borrow.Author.Rules.{rules}
use Rattle.listing_texts.proofs.printing.put_refused.Goals as goal

pub put_decimal-next-requires : goal.put_decimal-next-requires
put_decimal-next-requires c = room_for _ _ _ (search rules)

pub returns : goal.returns
unfolding refused_text
returns c = at_start (then (then c.put-next.ensures c.put_decimal-next.ensures.text) c.put.ensures)
