-- A closing item's lines, worked by hand: an empty group has none, and no number has zeros in front.
use mathlib.Core.Path.{◌≡◌, refl}
use mathlib.Core.List.{[], ◌∷◌}
use Rattle.laws.specs.Ascii.{ascii}
use Rattle.text.specs.Digits.{digits}
use Rattle.text.specs.Decimals.{bare, decimal}
use Rattle.lines.specs.Texts.{lines_text, ended_lines, rows_text}
use Rattle.closing_lines.specs.Closing.{sum_texts_from, closing_texts}

pub three_groups : rows_text (closing_texts 9 5000000 (2 ∷ 0 ∷ 0 ∷ 10 ∷ 0 ∷ 0 ∷ 0 ∷ 0 ∷ 0 ∷ 1 ∷ []) (300 ∷ 0 ∷ 0 ∷ 0 ∷ 0 ∷ 0 ∷ 0 ∷ 0 ∷ 0 ∷ 99999999999999999 ∷ []))
    ≡ ascii "IN:9 5000000\r\nS0:2 300\r\nS3:10 0\r\nS9:1 99999999999999999\r\n"
unfolding lines_text ended_lines sum_texts_from closing_texts decimal bare digits
three_groups = refl

pub all_empty : rows_text (closing_texts 1 1 (0 ∷ 0 ∷ 0 ∷ 0 ∷ 0 ∷ 0 ∷ 0 ∷ 0 ∷ 0 ∷ 0 ∷ []) (0 ∷ 0 ∷ 0 ∷ 0 ∷ 0 ∷ 0 ∷ 0 ∷ 0 ∷ 0 ∷ 0 ∷ [])) ≡ ascii "IN:1 1\r\n"
unfolding lines_text ended_lines sum_texts_from closing_texts decimal bare digits
all_empty = refl
