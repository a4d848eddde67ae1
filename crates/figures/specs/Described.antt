-- What a row of parts says of a text, with no order of reading: the text is cut into stretches, and each part has its own.
use Rattle.std.specs.Prelude.{◌≡◌, ℕ, ◌≤◌, Bool, true, ◌&&◌, List, [], ◌∷◌, ◌++◌, length}
use Rattle.figures.specs.Layouts.{Part, several, lit, may_end, rest}

unfoldable pub all_of : (ℕ → Bool) → List ℕ → Bool
all_of f [] = true
all_of f (b ∷ s) = f b && all_of f s

-- a text, and the stretches that the parts that are `several` have in it
pub data Described : List Part → List ℕ → List (List ℕ) → Type 0 where
  whole : Described [] [] []
  stretch : {f : ℕ → Bool} {lo hi : ℕ} {ps : List Part} {s : List ℕ} {us : List (List ℕ)} (a : List ℕ) → all_of f a ≡ true → lo ≤ length a → length a ≤ hi
      → Described ps s us → Described (several f lo hi ∷ ps) (a ++ s) (a ∷ us)
  stands : {x : ℕ} {ps : List Part} {s : List ℕ} {us : List (List ℕ)} → Described ps s us → Described (lit x ∷ ps) (x ∷ s) us
  stops : {ps : List Part} → Described (may_end ∷ ps) [] []
  goes_on : {ps : List Part} {s : List ℕ} {us : List (List ℕ)} → Described ps s us → Described (may_end ∷ ps) s us
  left : {ps : List Part} {s : List ℕ} → Described (rest ∷ ps) s []
