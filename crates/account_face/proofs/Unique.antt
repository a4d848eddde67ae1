-- The call's statement determines its answer and what stands behind the pointers after it: two that meet it are equal.
use mathlib.Core.Path.{◌≡◌, sym, ap, ◌∙◌}
use mathlib.Core.List.{List}
use Prim.Native.Nat.{ℕ}
use Rattle.figures.specs.Accounts.{halves_of, prefix_answer, number_answer}
use Rattle.results.specs.Stored.{stored_at}
use Rattle.account_face.specs.Face.{AccountAt}

pub account_unique : {prefix number : List ℕ} {prefix₀ number₀ r r' first first' second second' : ℕ} → AccountAt prefix number prefix₀ number₀ r first second → AccountAt prefix number prefix₀ number₀ r' first' second'
    → (r ≡ r') × (first ≡ first') × (second ≡ second')
account_unique {prefix} {number} {prefix₀} {number₀} C D =
    let e = C.refusal ∙ sym D.refusal in (
      e,
      C.first_half ∙ ap (λ (k : ℕ). stored_at k (prefix_answer (halves_of prefix number).prefix) prefix₀) e ∙ sym D.first_half,
      C.second_half ∙ ap (λ (k : ℕ). stored_at k (number_answer (halves_of prefix number).number) number₀) e ∙ sym D.second_half,
    )
