-- Model of the code, not part of the statement: keys and spans in one row by where they begin, and the row closed up: what touches is one
-- span.
use Rattle.std.specs.Prelude.{ℕ, ◌+◌, ◌≤◌, ◌≡◌, Bool, true, false, cond, ◌||◌, List, [], ◌∷◌, eqb, leb, ltb, length, take, drop, Option, None, Some}
use Rattle.register.specs.Spans.{Span, froms, tos}
use Rattle.merging.specs.declared.Turn.{Turn}

abbrev pub one : ℕ → Span
one k = record { from = k; to = k }

abbrev pub ones : List ℕ → List Span
ones [] = []
ones (k ∷ ks) = one k ∷ ones ks

-- spans of their first and last keys
abbrev pub paired : List ℕ → List ℕ → List Span
paired [] ys = []
paired (x ∷ xs) [] = []
paired (x ∷ xs) (y ∷ ys) = record { from = x; to = y } ∷ paired xs ys

-- a span after the keys below it, and then the rest
unfoldable pub after : Span → (List ℕ → List Span) → List ℕ → List Span
after s rest [] = s ∷ rest []
after s rest (k ∷ ks) = cond (ltb k s.from) (one k ∷ after s rest ks) (s ∷ rest (k ∷ ks))

-- both rows as one
unfoldable pub weave : List Span → List ℕ → List Span
weave [] ks = ones ks
weave (s ∷ ss) ks = after s (weave ss) ks

-- a span of the row begins at or before the end of the one before it
unfoldable pub hits : ℕ → List Span → Bool
hits end [] = false
hits end (s ∷ ss) = leb s.from end || hits s.to ss

-- the row with an open span before it, closed up
unfoldable pub closed : ℕ → ℕ → List Span → List Span
closed a b [] = record { from = a; to = b } ∷ []
closed a b (s ∷ ss) = cond (eqb (b + 1) s.from) (closed a s.to ss) (record { from = a; to = b } ∷ closed s.from s.to ss)

-- one more of both rows, of which i keys and j spans have gone by
pub record Takes (keys starts ends : List ℕ) (i j : ℕ) (t : Turn) : Type 0 where
  pub cut : weave (paired (drop j starts) (drop j ends)) (drop i keys)
      ≡ record { from = t.from; to = t.to } ∷ weave (paired (drop t.spans starts) (drop t.spans ends)) (drop t.keys keys)
  pub on : t.keys + t.spans ≡ i + j + 1
  pub keys_in : t.keys ≤ length keys
  pub spans_in : t.spans ≤ length starts

abbrev pub row_of : List ℕ → List ℕ → List ℕ → List Span
row_of keys starts ends = weave (paired starts ends) keys

-- how many spans the row closes up to, and these, as far as they have room
pub record Closes (row : List Span) (n : ℕ) (xs ys : List ℕ) : Type 0 where
  pub count : n ≡ length (closed 0 0 row)
  pub firsts : n ≤ length xs → take n xs ≡ froms (closed 0 0 row)
  pub lasts : n ≤ length ys → take n ys ≡ tos (closed 0 0 row)

-- no number just where some hit each other; if none does, the row is closed up
abbrev pub Merges : List ℕ → List ℕ → List ℕ → Option ℕ → List ℕ → List ℕ → Type 0
Merges keys starts ends None xs ys = hits 0 (row_of keys starts ends) ≡ true
Merges keys starts ends (Some n) xs ys = (hits 0 (row_of keys starts ends) ≡ false) × Closes (row_of keys starts ends) n xs ys
