-- Model of the code, not part of the statement: words of bytes, the first one lowest, and what the high bits of one tell of another.
use Rattle.std.specs.Prelude.{◌≡◌, ℕ, zero, suc, ◌/◌, ◌%◌, Bool, not, List, [], ◌∷◌, take, ◌==◌, bit_and, nat_le}
use Rattle.laws.specs.Lists.{any_of}

-- the n lowest bytes of a word
unfoldable pub bytes_of : ℕ → ℕ → List ℕ
bytes_of zero w = []
bytes_of (suc n) w = w % 256 ∷ bytes_of n (w / 256)

-- below 20, and above 7E: what is not plain is one of these
abbrev pub is_control : ℕ → Bool
is_control b = not (nat_le 0x20 b)

abbrev pub is_above : ℕ → Bool
is_above b = not (nat_le b 0x7E)

-- with its high bit
abbrev pub is_high : ℕ → Bool
is_high b = nat_le 0x80 b

-- the high bits of r tell the first byte of w that passes a test: among the first k bytes of r one has its high bit where among those
-- of w one passes. What stands after it in r says nothing.
unfoldable pub Tells : (ℕ → Bool) → ℕ → ℕ → ℕ → Type 0
Tells f n w r = (k : ℕ) → any_of is_high (take k (bytes_of n r)) ≡ any_of f (take k (bytes_of n w))

-- r is high bits alone, and they tell the first byte below 20
pub record Marks (w r : ℕ) : Type 0 where
  pub only : bit_and r 0x8080_8080_8080_8080 ≡ r
  pub tells : Tells is_control 8 w r

-- some byte of a word of eight has its high bit
unfoldable pub flagged : ℕ → Bool
flagged w = not (bit_and w 0x8080_8080_8080_8080 == 0)
