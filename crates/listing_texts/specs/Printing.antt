-- What the listing program prints (document 01, 'The listing program'), each line ended by LF.
use Rattle.std.specs.Prelude.{ℕ, ◌≤◌, ◌≡◌, List, [], ◌∷◌, ◌++◌, length, take, drop}
use Rattle.laws.specs.Ascii.{ascii}
use Rattle.text.specs.Digits.{digits}
use Rattle.text.specs.Decimals.{decimal}
use Rattle.rules.specs.Faults.{Fault}

-- checked CCCC YYYYMMDD
unfoldable pub header_text : ℕ → ℕ → List ℕ
header_text code day = ascii "checked " ++ digits 4 code ++ ascii " " ++ digits 8 day ++ ascii "\n"

-- line N rule R
unfoldable pub row_text : Fault → List ℕ
row_text f = ascii "line " ++ decimal f.line ++ ascii " rule " ++ decimal f.rule ++ ascii "\n"

unfoldable pub row_texts : List Fault → List ℕ
row_texts [] = []
row_texts (f ∷ fs) = row_text f ++ row_texts fs

-- faults T
unfoldable pub total_text : ℕ → List ℕ
total_text total = ascii "faults " ++ decimal total ++ ascii "\n"

-- the listing of some rows, and of a total that may be more than they are
unfoldable pub listing_text : ℕ → ℕ → List Fault → ℕ → List ℕ
listing_text code day rows total = header_text code day ++ row_texts rows ++ total_text total

-- refused K
unfoldable pub refused_text : ℕ → List ℕ
refused_text k = ascii "refused " ++ decimal k ++ ascii "\n"

-- lent bytes begin with a text of n bytes, and keep what they held after it.
-- `counts` follows from the rest: with it a caller's `&out[..n]` asks for no proof.
pub record Begins (before text after : List ℕ) (n : ℕ) : Type 0 where
  pub long : n ≡ length text
  pub holds : after ≡ text ++ drop (length text) before
  pub counts : (n ≤ length after) × (n ≡ length (take n after))
