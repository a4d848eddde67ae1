-- The tests of a register's bytes, put together.
use mathlib.Core.Path.{◌≡◌, refl, sym, ap, ◌∙◌}
use mathlib.Core.Bool.{Bool, true, false, ◌&&◌}
use mathlib.Core.List.{List}
use Prim.Native.Nat.{ℕ, ◌+◌, ◌*◌, ◌<◌}
use native.Mathlib.Omega.{arith}
use lib.Dec.{eqb, leb}
use lib.ListN.{length}
use borrow.Author.Tests.{ne_eqb}
use Rattle.laws.specs.Ascii.{ascii}
use Rattle.text.specs.Strings.{begins}
use Rattle.register.specs.Bytes.{big_at}
use Rattle.register.specs.Register.{count_in, most_of, is_version, version_in, has_layout, size_of}

last_fails : (a b c : Bool) {d : Bool} → d ≡ false → false ≡ (a && (b && (c && d)))
last_fails true true true e = sym e
last_fails true true false e = refl
last_fails true false c e = refl
last_fails false b c e = refl

module _ (s : List ℕ) where
  pub too_short : length s < 13 → false ≡ has_layout s
  too_short h =
      last_fails (begins s (ascii "CRG")) (is_version (version_in s)) (leb (count_in s) (most_of (version_in s)))
      (ne_eqb (length s) (size_of (count_in s)) (λ e. omega (arith, e, h)))

  pub layout_is : {v n m : ℕ} {x y : Bool} → v ≡ version_in s → n ≡ big_at 2 11 s → x ≡ begins s (ascii "CRG") → y ≡ is_version v → m ≡ most_of v → (x && (y && (leb n m && eqb (length s) (13 + 12 * n)))) ≡ has_layout s
  layout_is ev en ex ey em = λ i. ex i && ((ey ∙ ap is_version ev) i && (leb (en i) ((em ∙ ap most_of ev) i) && eqb (length s) (13 + 12 * en i)))
