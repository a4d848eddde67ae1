use mathlib.Core.Path.{refl}
use Rattle.listing_texts.proofs.Listings.{begins_same}
use Rattle.report.proofs.Lists.{shown}
use Rattle.report.proofs.program.list_file.Goals as goal

pub returns : goal.returns
returns c = let a = c.args in
    let k = c.check-answer in
    begins_same (shown a.file.now a.job _ _ _ _ _ _ k.result _ _ k.ensures c.number_of.ensures c.unwrap_or.ensures refl refl refl) c.put_answer.ensures
