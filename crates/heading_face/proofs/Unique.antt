-- Each call's statement determines its answer and what stands behind the pointers after it: two that meet it are equal.
use mathlib.Core.Path.{◌≡◌, sym, ap, ◌∙◌}
use mathlib.Core.List.{List}
use Prim.Native.Nat.{ℕ}
use Rattle.outcomes.specs.Deriving.{outgoing_kind, recipient}
use Rattle.results.specs.Stored.{stored_at}
use Rattle.heading_face.specs.Face.{ToldAt, DerivedAt}

pub told_unique : {s : List ℕ} {o p kind₀ code₀ r r' kind kind' code code' : ℕ} → ToldAt s o p kind₀ code₀ r kind code → ToldAt s o p kind₀ code₀ r' kind' code'
    → (r ≡ r') × (kind ≡ kind') × (code ≡ code')
told_unique {s} {o} {p} {kind₀} {code₀} C D =
    let e = C.number ∙ sym D.number in (
      e,
      C.kind ∙ ap (λ (k : ℕ). stored_at k (outgoing_kind s o) kind₀) e ∙ sym D.kind,
      C.code ∙ ap (λ (k : ℕ). stored_at k (recipient s o) code₀) e ∙ sym D.code,
    )

pub derived_unique : {s : List ℕ} {o p n : ℕ} {t₀ : List ℕ} {r r' : ℕ} {t t' : List ℕ} → DerivedAt s o p n t₀ r t → DerivedAt s o p n t₀ r' t' → (r ≡ r') × (t ≡ t')
derived_unique C D = (C.number ∙ sym D.number, C.target ∙ sym D.target)
