use Rattle.std.proofs.Common.{arith, ◌+◌, ◌≤◌, ap, ◌∙◌, length}
use Rattle.text.proofs.Wrote.{then, same_length as as_long}
use Rattle.outgoing_lines.specs.Outgoing.{Orders, as_derived}
use Rattle.outgoing_lines.proofs.Derived.{number_small, derived_room, derived_put}
use Rattle.outgoing_lines.proofs.put_derived.Goals as goal

pub overflow_add-number : goal.overflow_add-number
overflow_add-number c =
    omega
    (arith, number_small (record { outcomes = c.args.outcomes.now; standings = c.args.standings.now; start = c.args.start }) c.args.k c.args.line.now c.requires.line_value)

pub overflow_cast-number-2 : goal.overflow_cast-number-2
overflow_cast-number-2 c =
    omega
    (arith, number_small (record { outcomes = c.args.outcomes.now; standings = c.args.standings.now; start = c.args.start }) c.args.k c.args.line.now c.requires.line_value)

pub put-requires : goal.put-requires
put-requires c =
    let q : Orders = record { outcomes = c.args.outcomes.now; standings = c.args.standings.now; start = c.args.start } in
    let room : c.args.at + 56 ≤ length c.args.out.now = derived_room q c.args.k c.args.line.now c.requires.line_value c.args.at _ c.requires.ending_in_bounds in
    omega (
      arith,
      room,
      as_long
          (derived_put q c.args.k c.args.line.now c.requires.line_value c.args.out.now c.args.at (omega (arith, room)) (c.as_derived-outcome.ensures ∙ ap as_derived c.at_or_zero.ensures) c.at_or_zero-standing.ensures c.derive.ensures),
    )

pub returns : goal.returns
returns c =
    let q : Orders = record { outcomes = c.args.outcomes.now; standings = c.args.standings.now; start = c.args.start } in
    let room : c.args.at + 56 ≤ length c.args.out.now = derived_room q c.args.k c.args.line.now c.requires.line_value c.args.at _ c.requires.ending_in_bounds in
    then
    (derived_put q c.args.k c.args.line.now c.requires.line_value c.args.out.now c.args.at (omega (arith, room)) (c.as_derived-outcome.ensures ∙ ap as_derived c.at_or_zero.ensures) c.at_or_zero-standing.ensures c.derive.ensures)
    c.put.ensures
