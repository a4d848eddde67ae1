-- The first step of deriving, where it refuses nothing.
use mathlib.Core.Path.{◌≡◌}
use mathlib.Core.Bool.{true, false}
use Prim.Native.Nat.{ℕ, ◌≤◌}
use lib.Dec.{leb}
use borrow.Author.Tests.{leb-true}
use Rattle.laws.specs.Refusals.{first}
use Rattle.laws.proofs.Truth.{and_parts}
use Rattle.headings.specs.declared.Heading.{Heading}
use Rattle.turning.specs.Turning.{barred_to, is_outcome, is_standing, is_missing, turn_refusals}

pub one_of_seven : (o : ℕ) → is_outcome o ≡ true → (1 ≤ o) × (o ≤ 7)
one_of_seven o e = let v = and_parts (leb 1 o) (leb o 7) e in (leb-true 1 o v.0, leb-true o 7 v.1)

-- where no condition of a refusal holds
pub some : (h : Heading) (o p : ℕ) → barred_to p h ≡ false → is_outcome o ≡ true → is_standing p ≡ true → is_missing p h.kind o ≡ false
    → 0 ≡ first (turn_refusals h o p)
some h o p b a c e = rw (b, a, c, e)
