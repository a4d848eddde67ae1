use Rattle.stored.proofs.Back.{nothing_put, was_put}
use Rattle.stored.proofs.store.Goals as goal

pub returns-then-not-done : goal.returns-then-not-done
returns-then-not-done c = nothing_put c.if-not-done.true

pub returns : goal.returns
returns c = was_put c.if-not-done.false c.words_of-words.result c.words_of-words.ensures.result_value c.frame_of.ensures
