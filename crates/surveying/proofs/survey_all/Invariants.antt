use Rattle.std.proofs.Common.{length, ◌-◌, ◌+◌}
use Rattle.rules.specs.Terms.{input}
use Rattle.vetting.specs.Vetting.{Stamped}
use Rattle.surveying.proofs.Walks.{Walk}
use Rattle.surveying.proofs.survey_all.Given as goal

abbrev pub invariant-loop-at : goal.invariant-loop-at
invariant-loop-at l =
    Walk (record { outcomes = l.outcomes; standings = l.standings; start = l.start }) (input l.code l.day) l.lead l.s l.at l.k l.other l.counts l.sums
    × Stamped l.stood (l.k + 1)

abbrev pub decreases-loop-at : goal.decreases-loop-at
decreases-loop-at l = length l.s - l.at
