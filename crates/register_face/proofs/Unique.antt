-- Each call's statement determines its answer and what stands behind the pointers after it: two that meet it are equal.
use mathlib.Core.Path.{◌≡◌, sym, ap, ◌∙◌}
use mathlib.Core.List.{List}
use Prim.Native.Nat.{ℕ}
use Rattle.register.specs.Register.{register_of}
use Rattle.register.specs.Entering.{entered}
use Rattle.adding.specs.Answers.{size_after}
use Rattle.entering.specs.Jobs.{uses_of}
use Rattle.register_face.specs.Face.{BlankedAt, EnteredAt}

pub blanked_unique : {code : ℕ} {before : List ℕ} {r r' : ℕ} {after after' : List ℕ} → BlankedAt code before r after → BlankedAt code before r' after' → (r ≡ r') × (after ≡ after')
blanked_unique C D = (C.number ∙ sym D.number, C.target ∙ sym D.target)

pub entered_unique : {register file : List ℕ} {code day : ℕ} {before : List ℕ} {size₀ r r' : ℕ} {after after' : List ℕ} {size size' : ℕ} → EnteredAt register file code day before size₀ r after size → EnteredAt register file code day before size₀ r' after' size'
    → (r ≡ r') × (after ≡ after') × (size ≡ size')
entered_unique {register} {file} {day = day} {size₀ = size₀} C D =
    let e = C.number ∙ sym D.number in (
      e,
      C.target ∙ sym D.target,
      C.written ∙ ap (λ (k : ℕ). size_after k (entered (register_of register) day (uses_of file)) size₀) e ∙ sym D.written,
    )
