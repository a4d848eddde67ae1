use mathlib.Core.Path.{refl, ap, ◌∙◌}
use native.Mathlib.Omega.{arith}
use lib.ListN.{length, length-drop}
use borrow.Author.Tests.{not-true, not-false}
use Rattle.pass.proofs.Feeding.{bounded_more}
use Rattle.going.proofs.Reached.{behind, nothing, gone_whole, join_next, open_sound, gone_open, ended_room, gone_ended}
use Rattle.going.proofs.go_on.Goals as goal

pub judge_whole-requires : goal.judge_whole-requires
judge_whole-requires c = record { s_bound = c.requires.s_bound; bounded = bounded_more (omega (arith, c.requires.sound.came)) c.requires.sound.bounded }

pub shape_of-lines-then-held : goal.shape_of-lines-then-held
shape_of-lines-then-held c = c.judge_whole.auto.lines

pub shape_of-rules-then-held : goal.shape_of-rules-then-held
shape_of-rules-then-held c = c.judge_whole.auto.rules

pub shape_of-offsets-then-held : goal.shape_of-offsets-then-held
shape_of-offsets-then-held c = c.judge_whole.auto.offsets

pub returns-then-held : goal.returns-then-held
returns-then-held c = record { came_value = c.judge_whole.ensures.judged.came; sound_2 = c.judge_whole.ensures.sound; gone = gone_whole (nothing c.args.g.held c.if-held.true) c.judge_whole.ensures.judged }

pub overflow_cast-result : goal.overflow_cast-result
overflow_cast-result c = omega (arith, c.requires.s_bound)

pub overflow_add-result : goal.overflow_add-result
overflow_add-result c = omega (arith, c.requires.s_bound)

pub returns-then-not-j : goal.returns-then-not-j
returns-then-not-j c = record { came_value = refl; sound_2 = open_sound c.args.g c.args.s.now c.join-j.ensures c.requires.sound; gone = gone_open c.args.g c.args.s.now c.join-j.ensures (not-true _ c.if-not-j.true) }

pub judge_kept-p-requires : goal.judge_kept-p-requires
judge_kept-p-requires c = record { held_bound = omega (arith, c.requires.s_bound, join_next c.args.g c.args.s.now c.join-j.ensures, ended_room c.args.g c.args.s.now c.join-j.ensures (not-false _ c.if-not-j.false) c.requires.sound); bounded = c.requires.sound.bounded }

pub slice_bounds-judge_whole-count : goal.slice_bounds-judge_whole-count
slice_bounds-judge_whole-count c = join_next c.args.g c.args.s.now c.join-j.ensures

pub slice_bounds-judge_whole-start : goal.slice_bounds-judge_whole-start
slice_bounds-judge_whole-start c = join_next c.args.g c.args.s.now c.join-j.ensures

pub slice_bounds-judge_whole-end : goal.slice_bounds-judge_whole-end
slice_bounds-judge_whole-end c = omega arith

pub overflow_cast-next : goal.overflow_cast-next
overflow_cast-next c = omega (arith, c.requires.s_bound, join_next c.args.g c.args.s.now c.join-j.ensures)

pub overflow_add-g : goal.overflow_add-g
overflow_add-g c = omega (arith, c.requires.s_bound, join_next c.args.g c.args.s.now c.join-j.ensures)

pub judge_whole-requires-2 : goal.judge_whole-requires-2
judge_whole-requires-2 c = let s = c.args.s.now in
    let n = c.join-j.result.next in record { s_bound = omega (arith, c.requires.s_bound, join_next c.args.g c.args.s.now c.join-j.ensures, ap length (behind s n), length-drop n s); bounded = bounded_more (ended_room c.args.g s c.join-j.ensures (not-false _ c.if-not-j.false) c.requires.sound) c.judge_kept-p.ensures.bounded_2 }

pub shape_of-lines : goal.shape_of-lines
shape_of-lines c = c.judge_whole-2.auto.lines ∙ c.judge_kept-p.auto.lines

pub shape_of-rules : goal.shape_of-rules
shape_of-rules c = c.judge_whole-2.auto.rules ∙ c.judge_kept-p.auto.rules

pub shape_of-offsets : goal.shape_of-offsets
shape_of-offsets c = c.judge_whole-2.auto.offsets ∙ c.judge_kept-p.auto.offsets

pub returns : goal.returns
returns c = let s = c.args.s.now in
    let n = c.join-j.result.next in
    record { came_value = omega (arith, c.judge_whole-2.ensures.judged.came, join_next c.args.g c.args.s.now c.join-j.ensures, ap length (behind s n), length-drop n s); sound_2 = c.judge_whole-2.ensures.sound; gone = gone_ended c.args.g s c.join-j.ensures (not-false _ c.if-not-j.false) c.judge_kept-p.ensures.fed c.judge_whole-2.ensures.judged }
