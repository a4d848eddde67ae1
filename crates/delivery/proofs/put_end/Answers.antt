use Rattle.text.proofs.Wrote.{then}
use Rattle.closing_lines.proofs.Rows.{same_text}
use Rattle.delivery.proofs.Rows.{end_rows}
use borrow.Author.Rules.{rules}
use Rattle.delivery.proofs.put_end.Goals as goal

pub returns : goal.returns
returns c = record { text = same_text (end_rows _ _) (then (then (then c.put_heading-next.ensures.text c.put-next.ensures) c.put_closing-next.ensures.text) c.put.ensures); end = search rules }
