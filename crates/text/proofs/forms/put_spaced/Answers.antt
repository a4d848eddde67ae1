use borrow.Author.Rules.{rules}
use Rattle.text.proofs.Wrote.{then}
use Rattle.text.proofs.forms.put_spaced.Goals as goal

pub returns : goal.returns
returns c = record { text = then c.put-next.ensures c.put_digits.ensures.text; end = search rules }
