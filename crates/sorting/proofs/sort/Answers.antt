use Rattle.std.proofs.Common.{rules}
use Rattle.std.proofs.lemmas.List.Sorted.{IsPermutation-trans}
use Rattle.sorting.proofs.Sorted.{ordered}
use Rattle.sorting.proofs.sort.Goals as goal

pub returns : goal.returns
returns c = ordered _ _ (search (rules, IsPermutation-trans)) (search rules)
