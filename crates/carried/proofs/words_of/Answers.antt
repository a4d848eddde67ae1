use mathlib.Core.Path.{ap, ◌∙◌}
use Rattle.carried.specs.Words.{words_of, pass_of}
use Rattle.carried.proofs.Back.{pass_back}
use Rattle.carried.proofs.words_of.Goals as goal

pub returns-clause-value : goal.returns-clause-value
unfolding words_of
returns-clause-value c = rw (c.small_of.ensures, c.narrow_of.ensures, c.wide_of.ensures.0, c.flats_of-s.ensures.0, c.flat_in-span.ensures, c.flat_kc-kc.ensures, c.flat_reading-said.ensures)

pub returns-clause-result_value : goal.returns-clause-result_value
returns-clause-result_value c =
    ap pass_of (returns-clause-value c) ∙ pass_back _ c.wide_of.ensures.1 c.wide_of.ensures.2 c.flats_of-s.ensures.1
