-- What a register's layout says of its length.
use Prim.Native.Nat.{ℕ, ◌+◌, ◌*◌, ◌≤◌}
use native.Mathlib.Omega.{arith}
use mathlib.Core.Path.{◌≡◌}
use mathlib.Core.Bool.{Bool, true, false, cond, ◌&&◌}
use mathlib.Core.List.{List}
use lib.Dec.{eqb, leb}
use lib.ListN.{length}
use borrow.Author.Tests.{leb-true, eqb-true}
use Rattle.laws.specs.Ascii.{ascii}
use Rattle.laws.proofs.Truth.{and_parts}
use Rattle.text.specs.Strings.{begins}
use Rattle.register.specs.Register.{is_version, version, most_of, version_in, count_in, size_of, register_of, has_layout, well_formed, is_register}

module _ (s : List ℕ) (e : is_register s ≡ true) where
  laid : has_layout s ≡ true
  laid = (and_parts (has_layout s) (well_formed (register_of s)) e).0

  pub is_formed : well_formed (register_of s) ≡ true
  is_formed = (and_parts (has_layout s) (well_formed (register_of s)) e).1

  rest₁ : (is_version (version_in s) && (leb (count_in s) (most_of (version_in s)) && eqb (length s) (size_of (count_in s)))) ≡ true
  rest₁ = (and_parts (begins s (ascii "CRG")) (is_version (version_in s) && (leb (count_in s) (most_of (version_in s)) && eqb (length s) (size_of (count_in s)))) laid).1

  rest₂ : (leb (count_in s) (most_of (version_in s)) && eqb (length s) (size_of (count_in s))) ≡ true
  rest₂ = (and_parts (is_version (version_in s)) (leb (count_in s) (most_of (version_in s)) && eqb (length s) (size_of (count_in s))) rest₁).1

  pub register_size : length s ≡ 13 + 12 * count_in s
  register_size = eqb-true (length s) (size_of (count_in s)) (and_parts (leb (count_in s) (most_of (version_in s))) (eqb (length s) (size_of (count_in s))) rest₂).1

  pub register_few : count_in s ≤ most_of version
  register_few = most (eqb (version_in s) 1) (eqb (version_in s) 2) (leb-true (count_in s) (most_of (version_in s)) (and_parts (leb (count_in s) (most_of (version_in s))) (eqb (length s) (size_of (count_in s))) rest₂).0)
    where
      most : (x y : Bool) → count_in s ≤ cond x 64 (cond y 1024 0) → count_in s ≤ 1024
      most true y h = omega arith
      most false true h = h
      most false false h = omega arith
