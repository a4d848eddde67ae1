use Rattle.listing.proofs.checking.is_accounting_day.Goals as goal

pub returns : goal.returns
returns c = rw c.is_real-real.ensures
