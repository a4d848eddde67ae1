-- Which list of participants' codes is fit.
use Rattle.std.specs.Prelude.{ℕ, Bool, true, not, ◌&&◌, List, [], ◌∷◌, leb, length}
use Rattle.laws.specs.Tests.{among}

-- a code that can stand before others in a list
abbrev pub is_fit : ℕ → List ℕ → Bool
is_fit c cs = (leb 1 c && leb c 9999) && not (among c cs)

abbrev pub all_codes : List ℕ → Bool
all_codes [] = true
all_codes (c ∷ cs) = (leb 1 c && leb c 9999) && all_codes cs

abbrev pub distinct : List ℕ → Bool
distinct [] = true
distinct (c ∷ cs) = not (among c cs) && distinct cs

-- not '19: the list is over 64, repeats a code or has one outside 1 to 9999'
unfoldable pub is_list : List ℕ → Bool
is_list codes = leb (length codes) 64 && (all_codes codes && distinct codes)
