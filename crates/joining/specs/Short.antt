-- What is kept of a line that has not ended yet: at most 65 bytes, however long it is, and whether a CR stands at its end.
use Rattle.std.specs.Prelude.{ℕ, ◌-◌, Bool, false, cond, List, [], ◌∷◌, ◌++◌, length, take, drop}
use Rattle.laws.specs.Lists.{any_of}
use Rattle.laws.specs.Tests.{is_byte}
use Rattle.text.specs.Characters.{is_inadmissible}

-- one byte that stands for all of a text: 7F where an inadmissible byte stands in it, else a space; none for none
unfoldable pub sign : List ℕ → List ℕ
sign [] = []
sign (b ∷ s) = cond (any_of is_inadmissible (b ∷ s)) 0x7F 0x20 ∷ []

-- the first n bytes, and that byte for those behind them
unfoldable pub short_to : ℕ → List ℕ → List ℕ
short_to n l = take n l ++ sign (drop n l)

-- nothing that is asked of a line looks past its 64th byte, but whether it is longer, and whether it holds an inadmissible byte
abbrev pub short : List ℕ → List ℕ
short l = short_to 64 l

-- a CR stands at the very end
unfoldable pub ends_cr : List ℕ → Bool
ends_cr [] = false
ends_cr (b ∷ []) = is_byte 0x0d b
ends_cr (b ∷ c ∷ s) = ends_cr (c ∷ s)

abbrev pub cr_if : Bool → List ℕ
cr_if t = cond t (0x0d ∷ []) []

abbrev pub without_cr : List ℕ → List ℕ
without_cr s = take (length s - cond (ends_cr s) 1 0) s

-- the short form without a CR at the end, and whether there is one: an LF may come that makes the two a CR LF
pub record Kept : Type 0 where
  pub text : List ℕ
  pub cr : Bool

unfoldable pub kept : List ℕ → Kept
kept r = record { text = short (without_cr r); cr = ends_cr r }

abbrev pub kept_text : Kept → List ℕ
kept_text k = k.text ++ cr_if k.cr

-- how many bytes of a rest are not kept
unfoldable pub left_out : List ℕ → ℕ
left_out r = length (without_cr r) - length (short (without_cr r))

-- what is kept when s has come, a piece more of the same line
unfoldable pub added : Kept → List ℕ → Kept
added k s = record { text = short (k.text ++ without_cr (cr_if k.cr ++ s)); cr = ends_cr (cr_if k.cr ++ s) }
