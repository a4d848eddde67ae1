use Prim.Native.Nat.{ℕ}
use native.Mathlib.Omega.{arith}
use mathlib.Core.Path.{sym, subst}
use mathlib.Core.List.{List, ◌++◌}
use lib.ListN.{take, drop}
use lib.Seq.{length-take-le, length_front}
use Rattle.item_reader.specs.Slips.{slips_from}
use Rattle.sorting.specs.Sorting.{Within}
use Rattle.register.specs.Register.{register_of}
use Rattle.register.specs.Entering.{used}
use Rattle.adding.proofs.Uses.{keys_within, uses_fit, ordered_front, enters_uses}
use Rattle.adding.proofs.Lengths.{is_formed}
use borrow.Author.Rules.{rules}
use Rattle.adding.proofs.enter_items.Goals as goal

pub gather-n-requires : goal.gather-n-requires
gather-n-requires c = (search rules, c.requires.3)

pub slice_bounds-keys-end : goal.slice_bounds-keys-end
slice_bounds-keys-end c = c.gather-n.ensures.within

pub slice_bounds-put_in_order-end : goal.slice_bounds-put_in_order-end
slice_bounds-put_in_order-end c = sym (length-take-le _ _ c.gather-n.ensures.within)

pub put_in_order-requires : goal.put_in_order-requires
put_in_order-requires c = subst (λ (l : List ℕ). Within 0 1000000000000000 l) (sym c.gather-n.ensures.holds) (keys_within (used (slips_from 1 c.args.s.now)) (uses_fit 1 c.args.s.now) c.requires.2)

pub slice_bounds-keys-end-2 : goal.slice_bounds-keys-end-2
slice_bounds-keys-end-2 c =
    let g = c.gather-n in
    let p = c.put_in_order in
    omega (arith, length_front g.new.keys p.new.keys g.result p.auto.keys, g.ensures.within)

pub slice_bounds-enter_keys-end : goal.slice_bounds-enter_keys-end
slice_bounds-enter_keys-end c =
    let g = c.gather-n in
    let p = c.put_in_order in
    sym (length-take-le g.result (p.new.keys ++ drop g.result g.new.keys) (omega (arith, length_front g.new.keys p.new.keys g.result p.auto.keys, g.ensures.within)))

pub enter_keys-requires : goal.enter_keys-requires
enter_keys-requires c =
    let g = c.gather-n in
    let p = c.put_in_order in
    let l = length-take-le g.result (p.new.keys ++ drop g.result g.new.keys) (omega (arith, length_front g.new.keys p.new.keys g.result p.auto.keys, g.ensures.within)) in
    (c.requires.0, omega (arith, l, g.ensures.few, c.requires.1))

pub returns : goal.returns
returns c =
    let g = c.gather-n in
    let p = c.put_in_order in
    enters_uses (register_of c.args.register.now) (is_formed c.args.register.now c.requires.0) (used (slips_from 1 c.args.s.now)) (uses_fit 1 c.args.s.now) c.requires.2
    (take g.result (p.new.keys ++ drop g.result g.new.keys))
    (ordered_front g.new.keys p.new.keys g.result g.ensures.within g.ensures.holds p.auto.keys p.ensures)
    c.args.day c.args.code c.enter_keys.ensures
