-- 'Admissible text bytes are 20 to 7E and these 45' (document 01; 000, 2.1).
use Rattle.std.specs.Prelude.{ℕ, Bool, not, ◌&&◌, ◌||◌, List, [], ◌∷◌, leb}
use Rattle.laws.specs.Tests.{among}
use Rattle.laws.specs.Lists.{tabulate}

abbrev pub is_plain : ℕ → Bool
is_plain b = leb 0x20 b && leb b 0x7E

abbrev pub others : List ℕ
others =
    0x81 ∷ 0x82 ∷ 0x84 ∷ 0x85 ∷ 0x8E ∷
    0x90 ∷ 0x91 ∷ 0x92 ∷ 0x93 ∷ 0x94 ∷ 0x95 ∷ 0x96 ∷ 0x99 ∷ 0x9A ∷ 0x9B ∷ 0x9C ∷ 0x9F ∷
    0xA0 ∷ 0xA1 ∷ 0xA2 ∷ 0xA3 ∷ 0xA6 ∷ 0xA7 ∷ 0xAC ∷ 0xAD ∷
    0xB5 ∷ 0xB7 ∷
    0xD2 ∷ 0xD4 ∷ 0xD5 ∷ 0xD6 ∷ 0xD8 ∷ 0xDE ∷
    0xE0 ∷ 0xE2 ∷ 0xE5 ∷ 0xE6 ∷ 0xE7 ∷ 0xE8 ∷ 0xE9 ∷ 0xEA ∷ 0xEC ∷ 0xED ∷
    0xFC ∷ 0xFD ∷ []

unfoldable pub is_admissible : ℕ → Bool
is_admissible b = is_plain b || among b others

abbrev pub is_inadmissible : ℕ → Bool
is_inadmissible b = not (is_admissible b)

-- not plain: a byte that may be inadmissible
abbrev pub is_odd : ℕ → Bool
is_odd b = not (is_plain b)

-- the answer for each byte
unfoldable pub answers : List Bool
answers = tabulate is_admissible 0 256
