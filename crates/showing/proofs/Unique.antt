-- Two results that meet the statement of showing are equal, and so is what they leave behind the reference.
use Prim.Native.Nat.{ℕ}
use mathlib.Core.Path.{◌≡◌, sym, ap, ◌∙◌}
use mathlib.Core.List.{List, ◌++◌}
use lib.ListN.{drop}
use lib.IntN.{ℤ}
use Rattle.showing.specs.Shown.{shown, Shows}

pub show_unique : {before : List ℕ} {z : ℤ} {after after' : List ℕ} {r r' : ℕ} → Shows before z after r → Shows before z after' r' → (r ≡ r') × (after ≡ after')
show_unique {before} {z} C D =
    let e = C.long ∙ sym D.long in
    (e, C.text ∙ ap (λ (n : ℕ). shown z ++ drop n before) e ∙ sym D.text)
