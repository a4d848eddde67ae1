use Rattle.text.proofs.Wrote.{then}
use Rattle.closing_lines.proofs.Rows.{same_text, in_row}
use borrow.Author.Rules.{rules}
use Rattle.closing_lines.proofs.put_in.Goals as goal

pub returns : goal.returns
returns c = record { text = same_text (in_row _ _) (then (then (then (then c.put-next.ensures c.put_decimal-next.ensures.text) c.put-next-2.ensures) c.put_decimal-next-2.ensures.text) c.put.ensures); end = search rules }
