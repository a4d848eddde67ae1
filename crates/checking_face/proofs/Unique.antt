-- Each call's statement determines its answer and what stands behind the pointers after it: two that meet it are equal.
use mathlib.Core.Path.{◌≡◌, sym, ap, ◌∙◌}
use mathlib.Core.List.{List}
use Prim.Native.Nat.{ℕ}
use lib.ListN.{length}
use Rattle.rules.specs.Terms.{input}
use Rattle.rules.specs.Faults.{Fault, faults}
use Rattle.listing.specs.Checking.{slices_after, offset_at}
use Rattle.results.specs.Stored.{stored_at}
use Rattle.checking_face.specs.Face.{TotalAt, CheckedAt}

pub total_unique : {file : List ℕ} {code day before r r' after after' : ℕ} → TotalAt file code day before r after → TotalAt file code day before r' after' → (r ≡ r') × (after ≡ after')
total_unique {file} {code} {day} {before} C D =
    let e = C.number ∙ sym D.number in
    (e, C.total ∙ ap (λ (k : ℕ). stored_at k (length (faults (input code day) file)) before) e ∙ sym D.total)

pub checked_unique : {file : List ℕ} {code day : ℕ} {ls₀ rs₀ ps₀ : List ℕ} {before r r' : ℕ} {ls ls' rs rs' ps ps' : List ℕ} {after after' : ℕ} → CheckedAt file code day ls₀ rs₀ ps₀ before r ls rs ps after
    → CheckedAt file code day ls₀ rs₀ ps₀ before r' ls' rs' ps' after' → (r ≡ r') × (ls ≡ ls') × (rs ≡ rs') × (ps ≡ ps') × (after ≡ after')
checked_unique {file} {code} {day} {ls₀} {rs₀} {ps₀} {before} C D =
    let e = C.number ∙ sym D.number in (
      e,
      C.lines ∙ ap (λ (k : ℕ). slices_after k (λ (f : Fault). f.line) (faults (input code day) file) ls₀) e ∙ sym D.lines,
      C.rules ∙ ap (λ (k : ℕ). slices_after k (λ (f : Fault). f.rule) (faults (input code day) file) rs₀) e ∙ sym D.rules,
      C.offsets ∙ ap (λ (k : ℕ). slices_after k (offset_at file) (faults (input code day) file) ps₀) e ∙ sym D.offsets,
      C.total ∙ ap (λ (k : ℕ). stored_at k (length (faults (input code day) file)) before) e ∙ sym D.total,
    )
