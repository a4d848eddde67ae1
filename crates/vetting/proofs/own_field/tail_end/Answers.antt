use Rattle.std.proofs.Common.{arith, ◌≡◌, ◌-◌, ◌<◌, ◌≤◌, sym, ap, subst, ◌∙◌, length, drop, suc, min, ℕ, Bool, true, List}
use Rattle.std.proofs.Math.Bool.{◌||◌}
use Rattle.lines.specs.Reading.{line_at}
use Rattle.fields.specs.declared.kinds.Kind.{Kind}
use Rattle.fields.specs.declared.kinds.Kind.TheVariants.{Continuation}
use Rattle.fields.specs.Kinds.{kind_of}
use Rattle.judging.specs.Opening.{breaks_tail}
use Rattle.vetting.specs.declared.own_line.Judged.{Judged}
use Rattle.vetting.specs.Parts.{judged_at, is_continuation}
use Rattle.vetting.proofs.Here.{here}
use Rattle.vetting.proofs.Tail.{Tailing, tail_start, tail_more, tail_breaks, tail_other, tail_stops, continues_in}
use Rattle.vetting.proofs.own_field.tail_end.Goals as goal

-- a line that goes on
goes_on : (s : List ℕ) (p : ℕ) {k : Kind} {b : Bool} → k ≡ kind_of (drop p s) → b ≡ is_continuation k → b ≡ true
    → (p < length s) × (kind_of (drop p s) ≡ Continuation)
goes_on s p e f t = continues_in s p (ap is_continuation (sym e) ∙ sym f ∙ t)

-- whether it breaks the field
breaks : (s : List ℕ) (p class tail : ℕ) {j : Judged} {n : ℕ} {b : Bool} → j ≡ judged_at s p → n ≡ min 4 (suc tail) → b ≡ breaks_tail class n (j.end - p)
    → b ≡ breaks_tail class (min 4 (suc tail)) ((line_at s p).end - p)
breaks s p class tail e q w = w ∙ (λ i. breaks_tail class (q i) ((e i).end - p))

pub loop-l-init : goal.loop-l-init
loop-l-init c = record { from = omega arith; within = c.requires.1; tailing = λ n. tail_start _ _ n _ }

pub judged_at-l-requires : goal.judged_at-l-requires
judged_at-l-requires c = (c.requires.0, (goes_on _ _ c.kind_at.ensures c.continues.ensures c.loop-l-test.true).0)

pub overflow_sub-l : goal.overflow_sub-l
overflow_sub-l c =
    let next = here _ _ (goes_on c.args.s.now c.loop-l.p c.kind_at.ensures c.continues.ensures c.loop-l-test.true).0 in
    omega (arith, next.starts, ap (λ (j : Judged). j.end) c.judged_at-l.ensures)

pub returns-then-l-breaks_tail : goal.returns-then-l-breaks_tail
returns-then-l-breaks_tail c =
    let g = goes_on _ _ c.kind_at.ensures c.continues.ensures c.loop-l-test.true in
    λ n x q.
    tail_breaks (c.loop-l.invariant.tailing n) g.0 g.1 (breaks c.args.s.now c.loop-l.p c.args.class c.loop-l.tail c.judged_at-l.ensures c.one_more-tail.ensures c.breaks_tail.ensures)
    (ap (λ (j : Judged). j.bad || c.breaks_tail.result) (sym c.judged_at-l.ensures) ∙ c.if-l-breaks_tail.true) x q

pub loop-l-smaller : goal.loop-l-smaller
loop-l-smaller c =
    let next = here _ _ (goes_on c.args.s.now c.loop-l.p c.kind_at.ensures c.continues.ensures c.loop-l-test.true).0 in
    omega (arith, next.moves, next.within, ap (λ (j : Judged). j.next) c.judged_at-l.ensures)

pub loop-l-preserved : goal.loop-l-preserved
loop-l-preserved c =
    let s = c.args.s.now in
    let g = goes_on s c.loop-l.p c.kind_at.ensures c.continues.ensures c.loop-l-test.true in
    let next = here _ _ g.0 in
    let e = c.judged_at-l.ensures in
    record {
      from = omega (arith, c.loop-l.invariant.from, next.moves, ap (λ (j : Judged). j.next) e);
      within = subst (λ (k : ℕ). k ≤ length s) (sym (ap (λ (j : Judged). j.next) e)) next.within;
      tailing = λ n.
          subst (λ (k : ℕ). Tailing s c.args.at n c.args.class k c.one_more-tail.result) (sym (ap (λ (j : Judged). j.next) e))
          (subst (λ (k : ℕ). Tailing s c.args.at n c.args.class (line_at s c.loop-l.p).next k) (sym c.one_more-tail.ensures)
          (tail_more (c.loop-l.invariant.tailing n) g.0 g.1 (breaks c.args.s.now c.loop-l.p c.args.class c.loop-l.tail e c.one_more-tail.ensures c.breaks_tail.ensures)
          (ap (λ (j : Judged). j.bad || c.breaks_tail.result) (sym e) ∙ c.if-l-breaks_tail.false)));
    }

pub returns-then-low_at : goal.returns-then-low_at
returns-then-low_at c =
    λ n x q.
    tail_other (c.loop-l.invariant.tailing n) (ap is_continuation (sym c.kind_at.ensures) ∙ sym c.continues.ensures ∙ c.loop-l-test.false)
    (sym c.low_at.ensures ∙ c.if-low_at.true) x

pub returns : goal.returns
returns c =
    let none = sym c.low_at.ensures ∙ c.if-low_at.false in
    (λ n. tail_stops (c.loop-l.invariant.tailing n) none, c.loop-l.invariant.from, c.loop-l.invariant.within, none)
