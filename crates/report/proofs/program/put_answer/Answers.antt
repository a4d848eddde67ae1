use Rattle.listing_texts.proofs.Listings.{begins_same}
use Rattle.report.proofs.Answers.{refused, listed}
use Rattle.report.proofs.program.put_answer.Goals as goal

pub returns-then-refusal-ne0 : goal.returns-then-refusal-ne0
returns-then-refusal-ne0 c = begins_same (refused _ _ _ _ _ c.if-refusal-ne0.true) c.put_refused.ensures

pub returns : goal.returns
returns c = begins_same (listed _ _ _ _ _ c.if-refusal-ne0.false) (rw c.rows_of-n.ensures at c.put_listing.ensures)
