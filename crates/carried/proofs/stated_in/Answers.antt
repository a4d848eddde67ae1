use Rattle.std.proofs.Common.{rules, refl}
use native.Mathlib.Omega.{arith}
use Rattle.items.specs.Claims.{no_sum}
use Rattle.carried.specs.Words.{group_in}
use Rattle.carried.proofs.Back.{ten_all}
use Rattle.carried.proofs.Made.{known}
use Rattle.carried.proofs.stated_in.Goals as goal

pub returns : goal.returns
returns c =
    let all = known _ _ (group_in c.args.w) c.from_fn.result (λ i r q l called. search rules) 0 10 (omega arith) _ refl c.from_fn.ensures.items.each in
    let ten = ten_all no_sum c.from_fn.result c.from_fn.ensures.items.long in
    search rules
