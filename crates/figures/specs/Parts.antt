-- Model of the code, not part of the statement: the digits of a part from a place on, doubled and added from the left.
use Rattle.std.specs.Prelude.{ℕ, ◌+◌, ◌-◌, ◌*◌, List, [], ◌∷◌, take, drop, bit_or}
use Rattle.text.specs.Digits.{is_digit}
use Rattle.figures.specs.declared.parts.Weighed.{Weighed}
use Rattle.figures.specs.Layouts.{run}

-- each digit added to twice the sum of those to its left, where that of the first is v
unfoldable pub doubled_after : ℕ → List ℕ → ℕ
doubled_after v [] = v
doubled_after v (b ∷ bs) = doubled_after (2 * v + (b - 48)) bs

-- the bits of digits, and those of v: 0 where all are 0
unfoldable pub bits_after : ℕ → List ℕ → ℕ
bits_after v [] = v
bits_after v (b ∷ bs) = bits_after (bit_or v (b - 48)) bs

-- the digits that a text begins with, at most k, after digits of this sum and these bits that end at i
abbrev pub weighed_from : ℕ → ℕ → ℕ → ℕ → List ℕ → Weighed
weighed_from k sum any i s = record {
  sum = doubled_after sum (take (run is_digit k s) s);
  any = bits_after any (take (run is_digit k s) s);
  end = i + run is_digit k s;
}

-- the digits from a place on, at most k
abbrev pub weighed_at : ℕ → List ℕ → ℕ → Weighed
weighed_at k t at = weighed_from k 0 0 at (drop at t)
