use Rattle.std.proofs.Common.{arith, refl, sym}
use Rattle.outgoing_lines.specs.Outgoing.{Orders}
use Rattle.surveying.proofs.Walks.{walk_start, some_left, walk_stops, walk_on, walk_end}
use Rattle.surveying.proofs.survey_all.Goals as goal

pub loop-at-init : goal.loop-at-init
loop-at-init c = (walk_start _ _ _ c.args.s.now c.requires.0 c.requires.3 c.requires.4, c.unstamped-stood.ensures)

pub overflow_add-number : goal.overflow_add-number
overflow_add-number c =
    record { fits = omega (arith, some_left _ _ _ _ c.loop-at.invariant.0 c.loop-at-test.true, c.requires.2, c.ranges.start.fits) }

pub one_item-requires : goal.one_item-requires
one_item-requires c = (
  c.table-table.ensures,
  c.loop-at-test.true,
  c.loop-at.invariant.0.headed c.loop-at-test.true,
  c.loop-at.invariant.1,
  omega (arith, some_left _ _ _ _ c.loop-at.invariant.0 c.loop-at-test.true, c.requires.2),
)

pub returns-in_err-step : goal.returns-in_err-step
returns-in_err-step c =
    rw c.from_residual.ensures
    (walk_stops _ _ _ _ c.loop-at.invariant.0
    (c.in_err-step.ensures.steps _ _ c.basis_of-basis.ensures (record { outcome = sym c.at_or_zero-outcome.ensures; standing = sym c.at_or_zero-standing.ensures; number = refl })))

pub overflow_add-k : goal.overflow_add-k
overflow_add-k c =
    record { fits = omega (arith, some_left _ _ _ _ c.loop-at.invariant.0 c.loop-at-test.true, c.requires.2) }

pub loop-at-smaller : goal.loop-at-smaller
loop-at-smaller c =
    let q : Orders = record { outcomes = c.args.outcomes.now; standings = c.args.standings.now; start = c.args.start } in
    let g = c.in_ok-step.ensures.steps q _ c.basis_of-basis.ensures (record { outcome = sym c.at_or_zero-outcome.ensures; standing = sym c.at_or_zero-standing.ensures; number = refl }) in
    omega (arith, g.1, g.2)

pub loop-at-preserved : goal.loop-at-preserved
loop-at-preserved c =
    let q : Orders = record { outcomes = c.args.outcomes.now; standings = c.args.standings.now; start = c.args.start } in
    let g = c.in_ok-step.ensures.steps q _ c.basis_of-basis.ensures (record { outcome = sym c.at_or_zero-outcome.ensures; standing = sym c.at_or_zero-standing.ensures; number = refl }) in
    (walk_on _ _ _ _ c.loop-at.invariant.0 g.0 g.2 g.3, (c.one_item.ensures.stamped.0, λ i l. omega (arith, c.one_item.ensures.stamped.1 i l)))

pub returns : goal.returns
returns c = walk_end _ _ _ _ c.loop-at.invariant.0 c.loop-at-test.false
