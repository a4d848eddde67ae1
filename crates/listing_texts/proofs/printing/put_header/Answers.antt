use Rattle.text.proofs.Wrote.{then}
use Rattle.listing_texts.specs.Printing.{header_text}
use borrow.Author.Rules.{rules}
use Rattle.listing_texts.proofs.printing.put_header.Goals as goal

pub returns : goal.returns
unfolding header_text
returns c = record { text = then (then (then (then c.put-next.ensures c.put_digits-next.ensures.text) c.put-next-2.ensures) c.put_digits-next-2.ensures.text) c.put.ensures; end = search rules }
