-- Model of the code, not part of the statement: the next line that begins with two letters and a colon, found by the bytes before it.
use Rattle.std.specs.Prelude.{ℕ, ◌+◌, ◌≤◌, ◌<◌, ◌≡◌, Bool, true, false, List, [], ◌∷◌, drop, get_or}
use Rattle.text.specs.Strings.{begins}

-- CR LF, two letters, a colon
abbrev pub sign : ℕ → ℕ → List ℕ
sign a b = 0x0d ∷ 0x0a ∷ a ∷ b ∷ 0x3a ∷ []

-- a sign stands at a place
abbrev pub stands_at : List ℕ → ℕ → ℕ → ℕ → Bool
stands_at s a b i = begins (drop i s) (sign a b)

-- none from i on and before j
abbrev pub Quiet : List ℕ → ℕ → ℕ → ℕ → ℕ → Type 0
Quiet s a b i j = (k : ℕ) → i ≤ k → k < j → stands_at s a b k ≡ false

-- at no place among the first n does a stand with b after it
abbrev pub Apart : List ℕ → ℕ → ℕ → ℕ → Type 0
Apart s a b n = (k : ℕ) → k + 1 < n → get_or s k 0 ≡ a → get_or s (k + 1) 0 ≡ b → ⊥

-- the first sign from `at` on, or `stop` where there is none before it
pub record IsSign (s : List ℕ) (a b at stop r : ℕ) : Type 0 where
  pub none : Quiet s a b at r
  pub from : at ≤ r
  pub to : r ≤ stop
  pub there : r < stop → stands_at s a b r ≡ true
