use Rattle.std.proofs.Common.{rules}
use Rattle.participants.proofs.Listing.{any_among}
use Rattle.participants.proofs.is_fit.Goals as goal

pub returns-then-contains : goal.returns-then-contains
returns-then-contains c = rw (← any_among c.args.code c.args.rest.now, ← c.contains-found.ensures.value) (search rules)
