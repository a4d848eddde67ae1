-- Texts in a fixed layout: which texts have it, the numbers of such a text, and the text of such numbers.
use Rattle.std.specs.Prelude.{ℕ, ◌^◌, Bool, true, false, ◌&&◌, ◌||◌, List, [], ◌∷◌, ◌++◌, length, take, drop, replicate, ltb, eqb}
use Rattle.text.specs.Digits.{is_digit, value, digits}

-- a layout is a list of pieces: bytes that stand there, and numbers of so many digits
pub data Piece : Type 0 where
  fixed : List ℕ → Piece
  padded : ℕ → Piece

-- a layout as a text, with 0 for each digit
unfoldable pub template : List Piece → List ℕ
template [] = []
template (fixed l ∷ ps) = l ++ template ps
template (padded n ∷ ps) = replicate n 48 ++ template ps

-- each byte of a template stands for itself, and 0 for any digit
abbrev pub fits_byte : ℕ → ℕ → Bool
fits_byte t b = eqb b t || (eqb t 48 && is_digit b)

-- a text has a template's form, byte by byte
unfoldable pub has_form : List ℕ → List ℕ → Bool
has_form [] [] = true
has_form [] (b ∷ bs) = false
has_form (t ∷ ts) [] = false
has_form (t ∷ ts) (b ∷ bs) = fits_byte t b && has_form ts bs

-- the number that the n digits from a place on stand for
abbrev pub part_at : List ℕ → ℕ → ℕ → ℕ
part_at s at n = value (take n (drop at s))

-- the numbers of a text in a layout
unfoldable pub numbers : List Piece → List ℕ → List ℕ
numbers [] s = []
numbers (fixed l ∷ ps) s = numbers ps (drop (length l) s)
numbers (padded n ∷ ps) s = value (take n s) ∷ numbers ps (drop n s)

-- there is a number for each place, and each fits its digits
unfoldable pub numbers_fit : List Piece → List ℕ → Bool
numbers_fit [] [] = true
numbers_fit [] (v ∷ vs) = false
numbers_fit (fixed l ∷ ps) vs = numbers_fit ps vs
numbers_fit (padded n ∷ ps) [] = false
numbers_fit (padded n ∷ ps) (v ∷ vs) = ltb v (10 ^ n) && numbers_fit ps vs

-- the text of numbers in a layout
unfoldable pub form_text : List Piece → List ℕ → List ℕ
form_text [] vs = []
form_text (fixed l ∷ ps) vs = l ++ form_text ps vs
form_text (padded n ∷ ps) [] = digits n 0 ++ form_text ps []
form_text (padded n ∷ ps) (v ∷ vs) = digits n v ++ form_text ps vs
