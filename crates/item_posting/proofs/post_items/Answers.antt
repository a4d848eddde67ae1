use Rattle.item_posting.proofs.Answers.{items_unlisted, items_beyond, items_done}
use Rattle.item_posting.proofs.post_items.Goals as goal

pub returns-then-t : goal.returns-then-t
returns-then-t c = items_unlisted c.book_items-t.ensures c.if-t.true

pub returns-then-t-2 : goal.returns-then-t-2
returns-then-t-2 c = items_beyond c.book_items-t.ensures c.if-t.false c.if-t-2.true

pub returns : goal.returns
returns c = items_done c.book_items-t.ensures c.if-t.false c.if-t-2.false
