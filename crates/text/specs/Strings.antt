-- Byte strings at a text's start, and texts written into lent bytes.
use Rattle.std.specs.Prelude.{ℕ, ◌+◌, ◌≤◌, ◌≡◌, Bool, true, false, ◌&&◌, List, [], ◌∷◌, length, eqb}
use Rattle.laws.specs.Lists.{put}

-- a text begins with another
unfoldable pub begins : List ℕ → List ℕ → Bool
begins s [] = true
begins [] (b ∷ bs) = false
begins (a ∷ s) (b ∷ bs) = eqb a b && begins s bs

-- a text written over lent bytes from a place on: it had room, it ends there, and every other byte is kept
pub record Wrote (before : List ℕ) (at : ℕ) (text after : List ℕ) (end : ℕ) : Type 0 where
  pub room : at + length text ≤ length before
  pub ends : end ≡ at + length text
  pub holds : after ≡ put before at text
