-- Worked values.
use mathlib.Core.Path.{◌≡◌, refl}
use lib.IntN.{pos, negsuc}
use Rattle.laws.specs.Ascii.{ascii}
use Rattle.text.specs.Digits.{digits}
use Rattle.text.specs.Decimals.{bare, decimal}
use Rattle.showing.specs.Shown.{shown}

-- 'nought as plus'
nought : shown (pos 0) ≡ ascii "+0"
unfolding decimal digits bare
nought = refl

minus : shown (negsuc 539) ≡ ascii "-540"
unfolding decimal digits bare
minus = refl

largest : shown (pos 99999999999999999) ≡ ascii "+99999999999999999"
unfolding decimal digits bare
largest = refl

least : shown (negsuc 9223372036854775807) ≡ ascii "-9223372036854775808"
unfolding decimal digits bare
least = refl
