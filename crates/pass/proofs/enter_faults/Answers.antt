use mathlib.Core.Path.{◌∙◌}
use mathlib.Core.List.{[]}
use native.Mathlib.Omega.{arith}
use Rattle.lines.specs.Lines.{lines}
use Rattle.rules.specs.Terms.{input}
use Rattle.pass.proofs.Standing.{fresh_bounded, fresh_standing, listed_whole}
use Rattle.pass.proofs.Feeding.{taken_none, in_place, bounded_more}
use borrow.Author.Rules.{rules}
use Rattle.pass.proofs.enter_faults.Goals as goal

pub feed-p-requires : goal.feed-p-requires
feed-p-requires c = record { s_bound = omega (arith, c.requires.s_len_bound); bounded = fresh_bounded c.start-first.ensures c.requires.lines_len c.requires.lines_len_2 }

pub finish-requires : goal.finish-requires
finish-requires c = bounded_more (omega (arith, c.requires.s_len_bound)) c.feed-p.ensures.bounded_2

pub shape_of-lines : goal.shape_of-lines
shape_of-lines c = c.finish.auto.lines ∙ c.feed-p.auto.lines

pub shape_of-rules : goal.shape_of-rules
shape_of-rules c = c.finish.auto.rules ∙ c.feed-p.auto.rules

pub shape_of-offsets : goal.shape_of-offsets
shape_of-offsets c = c.finish.auto.offsets ∙ c.feed-p.auto.offsets

pub returns : goal.returns
returns c = let s = c.args.s.now in
    let terms = input c.args.code c.args.day in
    let first = fresh_standing c.start-first.ensures c.requires.lines_len c.requires.lines_len_2 terms c.unseen-stood.ensures in
    let fed = c.feed-p.ensures.fed terms [] (lines s) _ _ _ c.basis_of-basis.ensures (in_place 0 [] (lines s) taken_none) first in
    listed_whole terms s (c.finish.ensures terms (lines s) _ _ _ _ c.basis_of-basis.ensures fed)
