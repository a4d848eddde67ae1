-- The two words of bits and the table, as it is filled, say what `is_admissible` says; a byte that is not odd is not inadmissible.
use mathlib.Core.Path.{◌≡◌, refl, sym, ◌∙◌}
use mathlib.Core.Bool.{Bool, true, false, cond, not, ◌&&◌, ◌||◌, not-not, true≢false}
use mathlib.Core.List.{List}
use Prim.Native.Nat.{ℕ, zero, suc, ◌/◌, ◌%◌, ◌^◌, ◌<◌}
use lib.ListN.{get_or, set}
use lib.Dec.{eqb, ltb}
use Rattle.laws.specs.Tests.{among}
use Rattle.laws.specs.Lists.{any_of, tabulate}
use Rattle.laws.proofs.Any.{weaker}
use Rattle.laws.proofs.Finite.{agree, table_at}
use Rattle.text.specs.Characters.{is_plain, others, is_admissible, is_inadmissible, is_odd, answers}

-- the words that the code asks from 80 on, and its plain test below
abbrev asked : ℕ → Bool
asked b =
    cond (ltb b 0x80) (is_plain b)
    (eqb (cond (ltb b 0xC0) 0x00A0_30CF_9E7F_4036 0x3000_37E5_4174_0000 / 2 ^ (b % 64) % 2) 1)

pub asked_is : (b : ℕ) → b < 256 → asked b ≡ is_admissible b
unfolding is_admissible
asked_is b h = agree asked is_admissible 256 tt b h

answer_at : (b : ℕ) → b < 256 → get_or answers b false ≡ is_admissible b
unfolding answers
answer_at b h = table_at is_admissible 256 b h

-- what the table answers at the place of a byte
pub answered : (t : List Bool) (b i : ℕ) → t ≡ answers → i ≡ b → b < 256 → get_or t i false ≡ not (is_inadmissible b)
answered t b i e p h = rw (e, p) (answer_at b h ∙ sym (not-not (is_admissible b)))

plain_good : (p : Bool) (b : ℕ) → not p ≡ false → not (p || among b others) ≡ false
plain_good true b e = refl
plain_good false b e = absurd (true≢false e)

odd_weaker : (b : ℕ) → is_odd b ≡ false → is_inadmissible b ≡ false
unfolding is_admissible
odd_weaker b e = plain_good (is_plain b) b e

-- a text without odd bytes need not be asked for inadmissible ones
pub odd_asked : (s : List ℕ) → (any_of is_odd s && any_of is_inadmissible s) ≡ any_of is_inadmissible s
odd_asked s = go (any_of is_odd s) refl
  where
    go : (odd : Bool) → any_of is_odd s ≡ odd → (odd && any_of is_inadmissible s) ≡ any_of is_inadmissible s
    go true e = refl
    go false e = sym (weaker is_odd is_inadmissible odd_weaker s e)

-- the table as the code fills it: the plain bytes, and the others one by one
abbrev pub others_to : ℕ → List Bool
others_to zero = tabulate is_plain 0 256
others_to (suc k) = set (others_to k) (get_or others k 0) true

pub others_all : others_to 45 ≡ answers
unfolding answers is_admissible
others_all = refl
