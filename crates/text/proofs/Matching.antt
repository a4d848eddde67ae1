-- A loop that compares a text with a template: the text has the form just where it has had it so far and what is left has the form of
-- what is left of the template.
use mathlib.Core.Path.{◌≡◌, refl, ap, ◌∙◌, sym}
use mathlib.Core.Bool.{Bool, true, false, ◌&&◌, and_assoc, and-true}
use mathlib.Core.List.{List, [], ◌∷◌}
use Prim.Native.Nat.{ℕ}
use native.Mathlib.Omega.{arith}
use lib.ListN.{length}
use Rattle.text.specs.Forms.{fits_byte, has_form}
use Rattle.text.proofs.Pieces.{form_length}

pub unequal : (t s : List ℕ) → (length t ≡ length s → ⊥) → false ≡ has_form t s
unequal t s h = go (has_form t s) refl
  where
    go : (b : Bool) → has_form t s ≡ b → false ≡ b
    go true e = absurd (h (form_length t s e))
    go false e = refl

pub as_long : (ts bs : List ℕ) (t b : ℕ) (us cs : List ℕ) → ts ≡ t ∷ us → bs ≡ b ∷ cs → length ts ≡ length bs → length us ≡ length cs
as_long ts bs t b us cs e f h = omega (arith, ap length e, ap length f, h)

module _ (form so : Bool) (ts bs : List ℕ) (known : form ≡ (so && has_form ts bs)) where
  pub goes_on : (t b : ℕ) (us cs : List ℕ) → ts ≡ t ∷ us → bs ≡ b ∷ cs → form ≡ ((so && fits_byte t b) && has_form us cs)
  unfolding has_form
  goes_on t b us cs e f = known ∙ rw (e, f) (sym (and_assoc so (fits_byte t b) (has_form us cs)))

  pub ended : ts ≡ [] → bs ≡ [] → so ≡ form
  unfolding has_form
  ended e f = sym (known ∙ rw (e, f) (and-true so))
