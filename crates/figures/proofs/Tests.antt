-- A number between two others, both tested.
use Rattle.std.proofs.Common.{◌≡◌, ℕ, ◌≤◌, true, ◌&&◌, leb, leb-true}
use Rattle.laws.proofs.Truth.{and_parts}

pub between : (a n b : ℕ) → (leb a n && leb n b) ≡ true → (a ≤ n) × (n ≤ b)
between a n b e = let p = and_parts (leb a n) (leb n b) e in (leb-true a n p.0, leb-true n b p.1)
