-- Layouts of fields as data (document 01, 'Layouts'): a row of parts for the field's own text, and what its tail may be; which
-- text fits a row of parts, and what stands in them.
use Rattle.std.specs.Prelude.{ℕ, zero, suc, ◌+◌, Bool, true, false, cond, ◌&&◌, ◌||◌, List, [], ◌∷◌, take, drop, ◌==◌, nat_le}
use Rattle.text.specs.Digits.{is_digit}

-- a part: from so many to so many bytes of a sort; this byte; the text may end here; the rest, unread
pub data Part : Type 0 where
  several : (ℕ → Bool) → ℕ → ℕ → Part
  lit : ℕ → Part
  may_end : Part
  rest : Part

-- the continuations that a field may have: none; so many at most, each with a row of parts after its three spaces; any, unread
pub data More : Type 0 where
  no_tail : More
  up_to : ℕ → List Part → More
  unread : More

pub record Layout : Type 0 where
  pub own : List Part
  pub more : More

-- so many digits
abbrev pub num : ℕ → ℕ → Part
num lo hi = several is_digit lo hi

abbrev pub any_byte : ℕ → Bool
any_byte b = true

-- so many bytes
abbrev pub bytes : ℕ → ℕ → Part
bytes lo hi = several any_byte lo hi

abbrev pub space : Part
space = lit 0x20

-- what may follow the last number: nothing; nothing, or a space and a rest; nothing, or a space and a name
abbrev pub no_more : List Part
no_more = []

abbrev pub maybe_rest : List Part
maybe_rest = may_end ∷ space ∷ rest ∷ []

abbrev pub maybe_name : List Part
maybe_name = may_end ∷ space ∷ bytes 0 20 ∷ []

-- how many bytes of a sort a text begins with, at most k
unfoldable pub run : (ℕ → Bool) → ℕ → List ℕ → ℕ
run f zero s = 0
run f (suc k) [] = 0
run f (suc k) (b ∷ s) = cond (f b) (suc (run f k s)) 0

unfoldable pub is_empty : List ℕ → Bool
is_empty [] = true
is_empty (b ∷ s) = false

unfoldable pub head_is : ℕ → List ℕ → Bool
head_is x [] = false
head_is x (b ∷ s) = b == x

-- a text fits a row of parts
unfoldable pub fits : List Part → List ℕ → Bool
fits [] s = is_empty s
fits (several f lo hi ∷ ps) s = nat_le lo (run f hi s) && fits ps (drop (run f hi s) s)
fits (lit x ∷ ps) s = head_is x s && fits ps (drop 1 s)
fits (may_end ∷ ps) s = is_empty s || fits ps s
fits (rest ∷ ps) s = true

-- what stands in the first, the second .. of the parts that are `several`
unfoldable pub part : ℕ → List Part → List ℕ → List ℕ
part k [] s = []
part zero (several f lo hi ∷ ps) s = take (run f hi s) s
part (suc k) (several f lo hi ∷ ps) s = part k ps (drop (run f hi s) s)
part k (lit x ∷ ps) s = part k ps (drop 1 s)
part k (may_end ∷ ps) s = part k ps s
part k (rest ∷ ps) s = []

-- how many bytes a row of parts can look at
abbrev pub reach : List Part → ℕ
reach [] = 1
reach (several f lo hi ∷ ps) = hi + reach ps
reach (lit x ∷ ps) = suc (reach ps)
reach (may_end ∷ ps) = suc (reach ps)
reach (rest ∷ ps) = 0
