use Rattle.text.proofs.Wrote.{then}
use Rattle.closing_lines.proofs.Rows.{same_text, closing_rows}
use borrow.Author.Rules.{rules}
use Rattle.closing_lines.proofs.put_closing.Goals as goal

pub returns : goal.returns
returns c = record { text = same_text (closing_rows _ _ _ _) (then c.put_in-next.ensures.text c.put_groups.ensures.text); end = search rules }
