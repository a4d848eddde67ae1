-- The call's statement determines its answer and what stands behind the pointers after it: two that meet it are equal.
use Prim.Native.Nat.{ℕ}
use mathlib.Core.Path.{◌≡◌, sym, ap, ◌∙◌}
use mathlib.Core.List.{List}
use lib.ListN.{length}
use Rattle.outgoing_lines.specs.Outgoing.{Orders}
use Rattle.results.specs.Stored.{stored_at}
use Rattle.delivery.specs.Delivery.{output_file}
use Rattle.delivery_face.specs.Face.{DeliveredAt}

pub delivered_unique : {items : List ℕ} {q : Orders} {certis day : ℕ} {before : List ℕ} {size₀ r r' : ℕ} {after after' : List ℕ} {size size' : ℕ} → DeliveredAt items q certis day before size₀ r after size → DeliveredAt items q certis day before size₀ r' after' size'
    → (r ≡ r') × (after ≡ after') × (size ≡ size')
delivered_unique {items} {q} {certis} {day} {size₀ = size₀} C D =
    let e = C.number ∙ sym D.number in (
      e,
      C.target ∙ sym D.target,
      C.written ∙ ap (λ (k : ℕ). stored_at k (length (output_file items q certis day)) size₀) e ∙ sym D.written,
    )
