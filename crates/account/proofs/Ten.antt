-- Lists with an entry for each group, and numbers up to a cap.
use Prim.Native.Nat.{ℕ, suc, zero, ◌+◌, ◌<◌, ◌≤◌, min}
use mathlib.Core.Path.{◌≡◌, refl, ap, sym, ◌∙◌}
use mathlib.Core.List.{List, [], ◌∷◌}
use native.Mathlib.Nat.{add-zero, suc-add, add-suc}
use native.Mathlib.Omega.{arith}
use lib.ListN.{get_or, set}
use Rattle.account.specs.Summary.{ten}

-- f at i, i + 1, .., n in all; `ten f` is `from f 0 10`
abbrev from : (ℕ → ℕ) → ℕ → ℕ → List ℕ
from f i zero = []
from f i (suc n) = f i ∷ from f (suc i) n

from_same : (f g : ℕ → ℕ) (i n : ℕ) → ((d : ℕ) → i ≤ d → d < i + n → f d ≡ g d) → from f i n ≡ from g i n
from_same f g i zero h = refl
from_same f g i (suc n) h =
    let rest = from_same f g (suc i) n (λ d l u. h d (omega arith) (omega arith)) in
    rw (h i (omega arith) (omega arith), rest)

from_get : (f : ℕ → ℕ) (i n k : ℕ) → k < n → get_or (from f i n) k 0 ≡ f (i + k)
from_get f i zero k l = absurd (omega arith)
from_get f i (suc n) zero l = rw add-zero
from_get f i (suc n) (suc k) l = from_get f (suc i) n k (omega arith) ∙ ap f (suc-add i k ∙ sym (add-suc i k))

-- one entry is set, and g says so
from_set : (f g : ℕ → ℕ) (v i n k : ℕ) → k < n → g (i + k) ≡ v → ((d : ℕ) → (d ≡ i + k → ⊥) → f d ≡ g d) → set (from f i n) k v ≡ from g i n
from_set f g v i zero k l e h = absurd (omega arith)
from_set f g v i (suc n) zero l e h =
    let rest = from_same f g (suc i) n (λ d a b. h d (λ q. omega arith)) in
    rw (rest, ← e, add-zero)
from_set f g v i (suc n) (suc k) l e h =
    let s : suc i + k ≡ i + suc k = omega arith in
    let rest = from_set f g v (suc i) n k (omega arith) (ap g s ∙ e) (λ d q. h d (λ z. q (z ∙ sym s))) in
    rw (h i (λ q. omega arith), rest)

pub get_ten : (f : ℕ → ℕ) (k : ℕ) → k < 10 → get_or (ten f) k 0 ≡ f k
get_ten f k l = from_get f 0 10 k l ∙ ap f (omega arith)

pub set_ten : (f g : ℕ → ℕ) (k v : ℕ) → k < 10 → g k ≡ v → ((d : ℕ) → (d ≡ k → ⊥) → f d ≡ g d) → set (ten f) k v ≡ ten g
set_ten f g k v l e h =
    let z : 0 + k ≡ k = omega arith in
    from_set f g v 0 10 k l (ap g z ∙ e) (λ d q. h d (λ w. q (w ∙ sym z)))

pub same_ten : (f g : ℕ → ℕ) → ((d : ℕ) → d < 10 → f d ≡ g d) → ten f ≡ ten g
same_ten f g h = from_same f g 0 10 (λ d l u. h d (omega arith))

-- a cap on the way changes nothing
pub cap_cap : (c x y : ℕ) → min c (min c x + y) ≡ min c (x + y)
cap_cap c x y = omega arith
