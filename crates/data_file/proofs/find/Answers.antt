use Rattle.std.proofs.Common.{eqb, rules, tests}
use Rattle.std.proofs.lemmas.Iterator.{YieldsList-from_slice}
use Rattle.std.proofs.lemmas.Iterator.Search.{position_from_yields_List}
use Rattle.data_file.proofs.Searching.{answered}
use Rattle.data_file.proofs.find.Goals as goal

pub returns : goal.returns
returns c = let x = c.args.x in
    answered c.args.s.now c.args.at x c.requires
    (position_from_yields_List (λ b. eqb b x) _ _ c.position.result c.position.ensures.ran (YieldsList-from_slice _ c.iter.ensures.rest) (λ x b q k. search (rules, tests)))
    c.unwrap_or.ensures
