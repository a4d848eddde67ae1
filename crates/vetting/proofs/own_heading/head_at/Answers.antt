use Rattle.std.proofs.Common.{arith, ◌≡◌, ◌≤◌, sym, ap, subst, ◌∙◌, length, ℕ, Bool, false, List, Option}
use Rattle.std.proofs.Math.Bool.{◌||◌}
use Rattle.lines.specs.Reading.{line_at, span, IsNext}
use Rattle.headings.specs.declared.Heading.{Heading}
use Rattle.headings.specs.Reading.{heading_of}
use Rattle.laws.proofs.Any.{or_left, or_right}
use Rattle.rules.specs.Terms.{Terms}
use Rattle.own_rules.specs.declared.Basis.{Basis}
use Rattle.own_rules.specs.Model.{basis_of}
use Rattle.vetting.specs.declared.own_line.Judged.{Judged}
use Rattle.vetting.specs.Parts.{bad_at, judged_at, low_at, head_breaks, HeadAt}
use Rattle.vetting.proofs.Here.{here}
use Rattle.vetting.proofs.Head.{falls_unread, falls, starts}
use Rattle.vetting.proofs.own_heading.head_at.Goals as goal

-- what its line reads as
read_is : (s : List ℕ) (at : ℕ) {j : Judged} {r : Option Heading} → j ≡ judged_at s at → r ≡ heading_of (span at j.end s)
    → heading_of (span at (line_at s at).end s) ≡ r
read_is s at e w = sym (w ∙ ap (λ (j : Judged). heading_of (span at j.end s)) e)

-- what is asked of a heading that reads
asked_is : (s : List ℕ) (at : ℕ) (h : Heading) (terms : Terms) {basis : Basis} {j : Judged} {low b : Bool} → j ≡ judged_at s at → low ≡ low_at s j.next
    → basis ≡ basis_of terms → b ≡ head_breaks basis h
    → ((j.bad || low) || b) ≡ ((bad_at s at || low_at s (line_at s at).next) || head_breaks (basis_of terms) h)
asked_is s at h terms e l q w =
    let low_is = l ∙ ap (λ (j : Judged). low_at s j.next) e in
    let own = w ∙ ap (λ (b : Basis). head_breaks b h) q in
    (λ i. ((e i).bad || low_is i) || own i)

pub low_at-low-requires : goal.low_at-low-requires
low_at-low-requires c =
    let next : IsNext c.args.s.now c.args.at (line_at c.args.s.now c.args.at) = here _ _ c.requires.1 in
    subst (λ (k : ℕ). k ≤ length c.args.s.now) (sym (ap (λ (j : Judged). j.next) c.judged_at-l.ensures)) next.within

pub slice_bounds-read-end : goal.slice_bounds-read-end
slice_bounds-read-end c =
    let next : IsNext c.args.s.now c.args.at (line_at c.args.s.now c.args.at) = here _ _ c.requires.1 in
    let e = ap (λ (j : Judged). j.end) c.judged_at-l.ensures in
    omega (arith, next.starts, next.closes, next.within, e)

pub returns-then-breaks-clause-head_to : goal.returns-then-breaks-clause-head_to
returns-then-breaks-clause-head_to c =
    let a = c.args in
    λ terms q.
    falls a.s.now a.at c.requires.1 c.requires.2 terms c.in_ok-heading.heading (read_is a.s.now a.at c.judged_at-l.ensures c.in_ok-heading.ensures.1)
    (sym (asked_is a.s.now a.at c.in_ok-heading.heading terms c.judged_at-l.ensures c.low_at-low.ensures q c.head_breaks.ensures) ∙ c.if-breaks.true)

pub returns-clause-head_to : goal.returns-clause-head_to
returns-clause-head_to c =
    let a = c.args in
    λ terms q.
    subst (λ (k : ℕ). (n : ℕ) → HeadAt terms c.in_ok-heading.heading a.s.now a.at n k) (sym (ap (λ (j : Judged). j.next) c.judged_at-l.ensures))
    (starts a.s.now a.at c.requires.1 c.requires.2 terms c.in_ok-heading.heading (read_is a.s.now a.at c.judged_at-l.ensures c.in_ok-heading.ensures.1)
    (sym (asked_is a.s.now a.at c.in_ok-heading.heading terms c.judged_at-l.ensures c.low_at-low.ensures q c.head_breaks.ensures) ∙ c.if-breaks.false))

pub returns-clause-head_leads : goal.returns-clause-head_leads
returns-clause-head_leads c =
    let next : IsNext c.args.s.now c.args.at (line_at c.args.s.now c.args.at) = here _ _ c.requires.1 in
    let e = ap (λ (j : Judged). j.next) c.judged_at-l.ensures in
    let bad = c.judged_at-l.result.bad in
    let low = c.low_at-low.result in
    let fine : (bad || low) ≡ false = or_left (bad || low) c.head_breaks.result c.if-breaks.false in (
      omega (arith, next.moves, e),
      subst (λ (k : ℕ). k ≤ length c.args.s.now) (sym e) next.within,
      sym c.low_at-low.ensures ∙ or_right bad low fine,
    )

pub returns-in_err-heading-clause-head_to : goal.returns-in_err-heading-clause-head_to
returns-in_err-heading-clause-head_to c =
    let a = c.args in
    rw c.from_residual.ensures (λ terms q. falls_unread a.s.now a.at c.requires.1 c.requires.2 terms (read_is a.s.now a.at c.judged_at-l.ensures c.in_err-heading.ensures.1))
