-- A law of the numbers below n, proved at all of them by one test that the checker computes; and tables that hold a test's answers.
use mathlib.Core.Path.{◌≡◌, refl, ap, subst, sym, ◌∙◌}
use mathlib.Core.Bool.{Bool, true, false, ◌&&◌, beq}
use mathlib.Core.Logic.{⊎_elim}
use Prim.Native.Nat.{ℕ, zero, suc, ◌+◌, ◌<◌}
use native.Mathlib.Nat.{add-zero, zero-add, add-suc, suc-add, not-suc-le-zero, eq-or-lt_of_le, le_of_suc-le-suc}
use lib.ListN.{get_or}
use lib.Dec.{T}
use Rattle.laws.specs.Lists.{tabulate}
use Rattle.laws.proofs.Entries.{and_left, and_right}

-- f passes at each number below n
abbrev pub below : (ℕ → Bool) → ℕ → Bool
below f zero = true
below f (suc n) = f n && below f n

pub at : (f : ℕ → Bool) (n : ℕ) → T (below f n) → (k : ℕ) → k < n → T (f k)
at f zero t k h = absurd (not-suc-le-zero h)
at f (suc n) t k h =
    ⊎_elim
    (λ e. subst (λ (m : ℕ). T (f m)) (sym e) (and_left (f n) (below f n) t))
    (λ l. at f n (and_right (f n) (below f n) t) k l)
    (eq-or-lt_of_le (le_of_suc-le-suc h))

beq_eq : (a b : Bool) → T (beq a b) → a ≡ b
beq_eq true true t = refl
beq_eq true false t = absurd t
beq_eq false true t = absurd t
beq_eq false false t = refl

-- two tests that agree at each number below n, by computing both
pub agree : (f g : ℕ → Bool) (n : ℕ) → T (below (λ k. beq (f k) (g k)) n) → (k : ℕ) → k < n → f k ≡ g k
agree f g n t k h = beq_eq (f k) (g k) (at (λ j. beq (f j) (g j)) n t k h)

from : (g : ℕ → Bool) (n i k : ℕ) → k < n → get_or (tabulate g i n) k false ≡ g (i + k)
from g zero i k h = absurd (not-suc-le-zero h)
from g (suc n) i zero h = rw add-zero
from g (suc n) i (suc k) h = from g n (suc i) k (le_of_suc-le-suc h) ∙ ap g (suc-add i k ∙ sym (add-suc i k))

-- what stands at k in the table of g is g k
pub table_at : (g : ℕ → Bool) (n k : ℕ) → k < n → get_or (tabulate g 0 n) k false ≡ g k
table_at g n k h = from g n 0 k h ∙ ap g (zero-add k)
