-- That every heading can be derived, asked of lines and of the items of their tree, is the same.
use mathlib.Core.Path.{◌≡◌, refl, ap}
use mathlib.Core.Bool.{Bool, ◌||◌}
use mathlib.Core.List.{List, [], ◌∷◌}
use Prim.Native.Nat.{ℕ, suc}
use Rattle.rules.specs.Rows.{Sorted, heading, field, low}
use Rattle.rules.specs.Tree.{tree}
use Rattle.outgoing_lines.specs.Outgoing.{Orders, underived, any_underived, items_underived}

pub any_items : (q : Orders) (k : ℕ) (xs : List Sorted) → any_underived q k xs ≡ items_underived q k (tree xs).items
unfolding any_underived items_underived
any_items q k [] = refl
any_items q k (heading h ∷ xs) = ap (λ (t : Bool). underived q k h.bytes || t) (any_items q (suc k) xs)
any_items q k (field x ∷ xs) = any_items q k xs
any_items q k (low l ∷ xs) = any_items q k xs
