use mathlib.Core.Path.{◌∙◌}
use mir.Syntax.{w64}
use mir.ValLaws.{to_z-of_z}
use Rattle.std.proofs.Common.{◌≡◌, true, rules}
use Rattle.fields.specs.Kinds.{place}
use Rattle.booking.specs.Sheet.{is_listed}
use Rattle.booking.proofs.Walks.{told_before, told_both}
use Rattle.booking.proofs.book_move.Goals as goal

pub returns-then-t-clause-value : goal.returns-then-t-clause-value
returns-then-t-clause-value c =
    let listed : is_listed c.args.codes.now c.args.m ≡ true = search rules in
    told_before c.args.codes.now c.args.m listed c.args.t c.args.ts.now c.if-t.true

pub returns-clause-value : goal.returns-clause-value
returns-clause-value c =
    let listed : is_listed c.args.codes.now c.args.m ≡ true = search rules in
    let p : c.in-Some-Some.p ≡ place c.args.m.payer.0 c.args.codes.now = search rules in
    let o : c.in-Some-Some.o ≡ place c.args.m.other.0 c.args.codes.now = search rules in
    let x = to_z-of_z w64 c.with_sign-x.result (record { sfits = c.with_sign-x.type_inv }) ∙ c.with_sign-x.ensures in
    let both = rw (p, o, x) at c.add_both-beyond.ensures in
    told_both c.args.codes.now c.args.m listed c.args.t c.args.ts.now c.requires.2 c.if-t.false both
