use Rattle.std.proofs.Common.{refl, sym, ap, ◌∙◌, Bool, true, ◌+◌, ◌/◌, ◌<◌, ◌≤◌, arith, length}
use lib.Count.{count_trailing_zeros}
use Rattle.words.specs.Words.{flagged}
use Rattle.lines.proofs.Reading.{line_cut}
use Rattle.lines.proofs.Searching.{all_clear, hit_inside, hit_here, hit_passed, control_alone}
use Rattle.lines.proofs.line_at.Goals as goal

pub loop-i-init : goal.loop-i-init
unfolding flagged
loop-i-init c = refl

pub loop-i-preserved-then-z-eq0 : goal.loop-i-preserved-then-z-eq0
loop-i-preserved-then-z-eq0 c =
    let fits : c.loop-i.i + 8 ≤ length c.args.s.now = omega arith in
    c.loop-i.invariant ∙ all_clear _ _ _ _ _ c.loop-i.odd fits c.word-w.ensures c.controls-z.ensures c.odds-o.ensures c.if-z-eq0.true

pub returns-then-crlf_at : goal.returns-then-crlf_at
returns-then-crlf_at c =
    let fits : c.loop-i.i + 8 ≤ length c.args.s.now = omega arith in
    let k = c.loop-i.i + count_trailing_zeros 64 c.controls-z.result / 8 in
    ap (λ (t : Bool). record { end = k; next = k + 2; ended = true; odd = t }) c.has_high.ensures
    ∙ sym (c.loop-i.invariant
    ∙ hit_passed _ _ _ _ _ c.loop-i.odd fits c.word-w.ensures c.controls-z.ensures c.odds-o.ensures c.if-z-eq0.false
    ∙ line_cut _ _ _ (sym c.crlf_at.ensures ∙ c.if-crlf_at.true))

pub loop-i-preserved : goal.loop-i-preserved
loop-i-preserved c =
    let fits : c.loop-i.i + 8 ≤ length c.args.s.now = omega arith in
    let inside = hit_inside _ _ _ _ _ c.loop-i.odd fits c.word-w.ensures c.controls-z.ensures c.odds-o.ensures c.if-z-eq0.false in
    let room : c.loop-i.i + count_trailing_zeros 64 c.controls-z.result / 8 < length c.args.s.now = omega arith in
    let here = hit_here _ _ _ _ _ c.loop-i.odd fits c.word-w.ensures c.controls-z.ensures c.odds-o.ensures c.if-z-eq0.false in
    c.loop-i.invariant
    ∙ hit_passed _ _ _ _ _ c.loop-i.odd fits c.word-w.ensures c.controls-z.ensures c.odds-o.ensures c.if-z-eq0.false
    ∙ control_alone _ _ _ room here (sym c.crlf_at.ensures ∙ c.if-crlf_at.false)
