use mathlib.Core.Path.{sym}
use Rattle.outgoing_lines.proofs.Chosen.{ec_field, other_field, room_as, wrote_as}
use Rattle.outgoing_lines.proofs.put_field.Goals as goal

pub put_ec-requires : goal.put_ec-requires
put_ec-requires c = room_as c.args.at _ (ec_field c.args.outcome c.args.ident c.args.line.now c.if-ident-eq-EC.true) c.requires

pub returns-then-ident-eq-EC : goal.returns-then-ident-eq-EC
returns-then-ident-eq-EC c = let a = c.args in
    wrote_as (sym (ec_field a.outcome a.ident a.line.now c.if-ident-eq-EC.true)) c.put_ec.ensures

pub put_plain-requires : goal.put_plain-requires
put_plain-requires c = room_as c.args.at _ (other_field c.args.outcome c.args.ident c.args.line.now c.if-ident-eq-EC.false) c.requires

pub returns : goal.returns
returns c = let a = c.args in
    wrote_as (sym (other_field a.outcome a.ident a.line.now c.if-ident-eq-EC.false)) c.put_plain.ensures
