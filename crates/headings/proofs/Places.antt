-- Reading a heading, in both cases of the code: its seven parts stand at their places in the text; and of a text that reads, its form and size.
use mathlib.Core.Path.{◌≡◌, refl, sym}
use mathlib.Core.Bool.{Bool, true, false, cond}
use mathlib.Core.List.{List}
use Prim.Native.Nat.{ℕ}
use native.Mathlib.Omega.{arith}
use lib.ListN.{length}
use Rattle.laws.specs.Refusals.{first}
use Rattle.text.specs.Forms.{template, numbers}
use Rattle.text.proofs.Pieces.{placed, placed_is, form_length}
use Rattle.headings.specs.declared.Heading.{Heading}
use Rattle.headings.specs.Reading.{layout, is_heading, heading_from, heading_of, read_refusals}
use Rattle.std.specs.Prelude.{None, Some}

module _ (s : List ℕ) where
  places : numbers layout s ≡ placed layout 0 s
  places = placed_is layout 0 s

  pub found : is_heading s ≡ true → (0 ≡ first (read_refusals s)) × (Some (heading_from (placed layout 0 s)) ≡ heading_of s)
  unfolding heading_of
  found m = (rw m, rw (m, places))

  pub lost : is_heading s ≡ false → (11 ≡ first (read_refusals s)) × (None ≡ heading_of s)
  unfolding heading_of
  lost m = (rw m, rw m)

-- a text that reads has the form, and says the heading of its numbers
pub form : (s : List ℕ) (h : Heading) → heading_of s ≡ Some h → (is_heading s ≡ true) × (heading_from (numbers layout s) ≡ h)
unfolding heading_of
form s h e = go (is_heading s) refl e
  where
    go : (b : Bool) → is_heading s ≡ b → cond b (Some (heading_from (numbers layout s))) None ≡ Some h
        → (is_heading s ≡ true) × (heading_from (numbers layout s) ≡ h)
    go true p q = (p, cc)
    go false p q = let z : ◌≡◌ {A = ℕ} 0 1 = cc in absurd (omega arith)

pub read_size : (s : List ℕ) (h : Heading) → heading_of s ≡ Some h → length s ≡ 54
unfolding template
read_size s h e = sym (form_length (template layout) s (form s h e).0)
