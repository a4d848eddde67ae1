-- A day and a number as one number, and ranges as spans of such numbers: they stand and touch just as the ranges do.
use Rattle.std.specs.Prelude.{ℕ, ◌+◌, ◌*◌, ◌/◌, ◌%◌, ◌≤◌, cond, List, [], ◌∷◌, ◌⊎◌, eqb, leb, ltb}
use Rattle.register.specs.Register.{Range}
use Rattle.register.specs.Entering.{Use}

pub record Span : Type 0 where
  pub from : ℕ
  pub to : ℕ

abbrev pub day_key : ℕ → ℕ → ℕ
day_key day number = day * 10000000 + number

abbrev pub use_key : Use → ℕ
use_key u = day_key u.day u.number

abbrev pub span_of : Range → Span
span_of r = record { from = day_key r.day r.first; to = day_key r.day r.last }

abbrev pub spans_of : List Range → List Span
spans_of [] = []
spans_of (r ∷ rs) = span_of r ∷ spans_of rs

abbrev pub use_keys : List Use → List ℕ
use_keys [] = []
use_keys (u ∷ us) = use_key u ∷ use_keys us

-- numbers 1 to 9,999,999, and ranges of them with the first not over the last
abbrev pub Fit : Use → Type 0
Fit u = (1 ≤ u.number) × (u.number ≤ 9999999)

abbrev pub Fits : List Use → Type 0
Fits [] = Unit {0}
Fits (u ∷ us) = Fit u × Fits us

abbrev pub Sound : List Range → Type 0
Sound [] = Unit {0}
Sound (r ∷ rs) = (1 ≤ r.first) × (r.first ≤ r.last) × (r.last ≤ 9999999) × Sound rs

-- a number stands in one of the spans
abbrev pub Has : List Span → ℕ → Type 0
Has [] k = ⊥
Has (s ∷ ss) k = ((s.from ≤ k) × (k ≤ s.to)) ⊎ Has ss k

-- spans in order from a number on, none empty, none touching the next
abbrev pub Strung : ℕ → List Span → Type 0
Strung least [] = Unit {0}
Strung least (s ∷ ss) = (least ≤ s.from) × (s.from ≤ s.to) × Strung (s.to + 2) ss

-- each is at least a number
abbrev pub Least : ℕ → List ℕ → Type 0
Least n [] = Unit {0}
Least n (k ∷ ks) = (n ≤ k) × Least n ks

-- one number more
abbrev pub join_span : ℕ → ℕ → List Span → List Span
join_span a b [] = record { from = a; to = b } ∷ []
join_span a b (q ∷ qs) = cond (eqb (b + 1) q.from) (record { from = a; to = q.to } ∷ qs) (record { from = a; to = b } ∷ q ∷ qs)

abbrev pub add_span : ℕ → List Span → List Span
add_span k [] = record { from = k; to = k } ∷ []
add_span k (s ∷ ss) =
    cond (ltb k s.from) (join_span k k (s ∷ ss))
    (cond (eqb (s.to + 1) k) (join_span s.from k ss)
    (cond (leb k s.to) (s ∷ ss) (s ∷ add_span k ss)))

abbrev pub add_keys : List ℕ → List Span → List Span
add_keys [] ss = ss
add_keys (k ∷ ks) ss = add_keys ks (add_span k ss)

-- the first and the last keys of spans
abbrev pub froms : List Span → List ℕ
froms [] = []
froms (s ∷ ss) = s.from ∷ froms ss

abbrev pub tos : List Span → List ℕ
tos [] = []
tos (s ∷ ss) = s.to ∷ tos ss

-- the ranges that have these first and last keys
abbrev pub range_of : ℕ → ℕ → Range
range_of a b = record { day = a / 10000000; first = a % 10000000; last = b % 10000000 }

abbrev pub ranges_of : List ℕ → List ℕ → List Range
ranges_of [] ls = []
ranges_of (a ∷ ks) [] = []
ranges_of (a ∷ ks) (b ∷ ls) = range_of a b ∷ ranges_of ks ls
