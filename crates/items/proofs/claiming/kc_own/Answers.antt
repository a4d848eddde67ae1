use borrow.Author.Tests.{eq-eqb, ne_eqb}
use Rattle.fields.specs.Kinds.{place}
use Rattle.items.proofs.claiming.kc_own.Goals as goal

pub returns-then-ident-eq-KC : goal.returns-then-ident-eq-KC
unfolding place
returns-then-ident-eq-KC c = rw (eq-eqb _ 732 c.if-ident-eq-KC.true, c.first_of.ensures, c.kc_by.ensures)

pub returns : goal.returns
unfolding place
returns c = rw (ne_eqb _ 732 c.if-ident-eq-KC.false)
