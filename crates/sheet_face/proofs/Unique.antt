-- Each call's statement determines its answer and what stands behind the pointers after it: two that meet it are equal.
use mathlib.Core.Path.{◌≡◌, sym, ◌∙◌}
use mathlib.Core.List.{List}
use Prim.Native.Nat.{ℕ}
use lib.IntN.{ℤ}
use Rattle.sheet_face.specs.Face.{OpenedAt, PostedAt}

pub opened_unique : {codes : List ℕ} {before : List ℤ} {r r' : ℕ} {after after' : List ℤ} → OpenedAt codes before r after → OpenedAt codes before r' after' → (r ≡ r') × (after ≡ after')
opened_unique C D = (C.number ∙ sym D.number, C.turnovers ∙ sym D.turnovers)

pub posted_unique : {codes : List ℕ} {before : List ℤ} {file : List ℕ} {code day r r' : ℕ} {after after' : List ℤ} → PostedAt codes before file code day r after → PostedAt codes before file code day r' after'
    → (r ≡ r') × (after ≡ after')
posted_unique C D = (C.number ∙ sym D.number, C.turnovers ∙ sym D.turnovers)
