use Rattle.std.proofs.Common.{arith, ◌≡◌, ◌-◌, Option, Some, sym, ap, subst, take, ℕ, List, ◌∙◌}
use Rattle.std.proofs.Math.Seq.{length-take-le}
use Rattle.lines.specs.Reading.{line_at, span}
use Rattle.lines.specs.declared.Found.{Found}
use Rattle.lines.proofs.Reading.{is_next}
use Rattle.headings.specs.declared.Heading.{Heading}
use Rattle.headings.specs.Reading.{heading_of}
use Rattle.surveying.specs.declared.Lead.{Lead}
use Rattle.surveying.specs.Items.{items_of}
use Rattle.surveying.specs.Model.{LeadsIf}
use Rattle.surveying.proofs.Leading.{lead_unread, lead_refused, lead_goes}
use Rattle.surveying.proofs.lead_if_derived.Goals as goal

-- what the first line reads as
reads : (s : List ℕ) (f : Found) {r : Option Heading} → f ≡ line_at s 0 → r ≡ heading_of (take f.end s) → heading_of (span 0 (line_at s 0).end s) ≡ r
reads s f e w =
    let whole : f.end ≡ f.end - 0 = omega arith in
    sym (w ∙ ap (λ (n : ℕ). heading_of (take n s)) whole ∙ ap (λ (g : Found). heading_of (span 0 g.end s)) e)

pub slice_bounds-read-end : goal.slice_bounds-read-end
slice_bounds-read-end c =
    let n = is_next _ _ _ c.line_near-f.ensures c.requires.1 in
    sym (length-take-le _ _ (omega (arith, n.starts, n.closes, n.within)))

pub returns-in_err-h : goal.returns-in_err-h
returns-in_err-h c =
    rw c.from_residual.ensures (λ q A. lead_unread c.args.s.now c.requires.1 c.requires.0 q A (reads _ _ c.line_near-f.ensures c.in_err-h.ensures.1))

pub returns-in_err-way : goal.returns-in_err-way
returns-in_err-way c =
    rw c.from_residual-in_err-way.ensures
    (λ q A. lead_refused c.args.s.now c.requires.1 c.requires.0 q A c.in_ok-h.h (reads _ _ c.line_near-f.ensures c.in_ok-h.ensures.1) (sym c.in_err-way.ensures))

pub returns : goal.returns
returns c q A =
    subst (λ (l : Lead). LeadsIf q (items_of c.args.s.now) (Some l))
    (λ i. record { to = c.in_ok-way.way.to; priority = sym c.is_priority.ensures i; alone = sym c.is_alone.ensures i })
    (lead_goes c.args.s.now c.requires.1 c.requires.0 q A c.in_ok-h.h (reads _ _ c.line_near-f.ensures c.in_ok-h.ensures.1) c.in_ok-way.way (sym c.in_ok-way.ensures))
