-- Model of the code, not part of the statement: numbers inside a text, digits from a place on, and two numbers with a space between.
use Rattle.std.specs.Prelude.{ℕ, ◌+◌, cond, ◌&&◌, List, take, drop, leb, Option, Some, None}
use Rattle.text.specs.Digits.{is_digit, value, value_after}
use Rattle.number_reader.specs.declared.Run.{Run}
use Rattle.number_reader.specs.declared.Two.{Two}
use Rattle.figures.specs.Layouts.{run, head_is}

-- the digits that a text begins with, at most k, after digits that stand for v and end at i
abbrev pub digits_from : ℕ → ℕ → ℕ → List ℕ → Run
digits_from k v i s = record { value = value_after v (take (run is_digit k s) s); end = i + run is_digit k s }

-- the digits from a place on, at most k
abbrev pub number_at : ℕ → List ℕ → ℕ → Run
number_at k t at = digits_from k 0 at (drop at t)

-- two numbers with a space between: the first, the place after it, the second, the place after that
unfoldable pub two_of : ℕ → ℕ → ℕ → ℕ → List ℕ → Option Two
two_of l₁ h₁ l₂ h₂ t =
    cond (leb l₁ (run is_digit h₁ t) && (head_is 32 (drop (run is_digit h₁ t) t) && leb l₂ (run is_digit h₂ (drop (run is_digit h₁ t + 1) t))))
    (Some (record {
      first = value (take (run is_digit h₁ t) t);
      mid = run is_digit h₁ t;
      second = value (take (run is_digit h₂ (drop (run is_digit h₁ t + 1) t)) (drop (run is_digit h₁ t + 1) t));
      end = run is_digit h₁ t + 1 + run is_digit h₂ (drop (run is_digit h₁ t + 1) t);
    }))
    None
