use Rattle.std.proofs.Common.{◌≡◌, ℕ, List, [], ◌++◌, length, take, drop, sym, ap, ◌∙◌, min, arith}
use Rattle.std.specs.Prelude.{Option, Some, None, IfSome}
use Rattle.std.specs.Option.{option_map}
use Rattle.std.proofs.lemmas.Grind.{common_steps}
use Rattle.data_file.proofs.fill.Goals as goal

-- what stands at the start of the room, where the bytes that were read up to its length are known
filled : (known left : Option (List ℕ)) (room before read copied : List ℕ) (limit n : ℕ) → left ≡ known → limit ≡ length room → before ≡ [] → IfSome (option_map (take limit) left) (λ xs. read ≡ before ++ xs) → n ≡ min (length read) (length room) → copied ≡ take n read → IfSome known (λ xs. take n (copied ++ drop n room) ≡ take (length room) xs)
filled None left room before read copied limit n k l b r m s = tt
filled (Some xs) None room before read copied limit n k l b r m s = grind arith
filled (Some xs) (Some ys) room before read copied limit n k l b r m s = grind (arith, common_steps)

pub returns-clause-bytes : goal.returns-clause-bytes
returns-clause-bytes g c =
    filled
    (g.F.Read.remaining c.args.from) _ _ _ _ _ _ _
    (ap g.F.Read.remaining c.take.ensures.inner)
    c.take.ensures.limit
    c.new-bytes.ensures.items
    c.in_ok-read_to_end.ensures.bytes
    (c.min-n.ensures ∙ ap (λ k. min k (length c.args.into.now)) (c.len.ensures ∙ sym c.deref.ensures.len ∙ ap length c.deref.ensures.value))
    (c.copy_from_slice.ensures.after ∙ ap (take _) c.deref.ensures.value)
