-- What holds at 1 to 7 holds at each outcome.
use Prim.Native.Nat.{ℕ, zero, suc, ◌≤◌}
use native.Mathlib.Omega.{arith}

pub seven : (P : ℕ → Type 0) → P 1 → P 2 → P 3 → P 4 → P 5 → P 6 → P 7 → (o : ℕ) → 1 ≤ o → o ≤ 7 → P o
seven P a b c d e f g zero l h = absurd (omega arith)
seven P a b c d e f g (suc zero) l h = a
seven P a b c d e f g (suc (suc zero)) l h = b
seven P a b c d e f g (suc (suc (suc zero))) l h = c
seven P a b c d e f g (suc (suc (suc (suc zero)))) l h = d
seven P a b c d e f g (suc (suc (suc (suc (suc zero))))) l h = e
seven P a b c d e f g (suc (suc (suc (suc (suc (suc zero)))))) l h = f
seven P a b c d e f g (suc (suc (suc (suc (suc (suc (suc zero))))))) l h = g
seven P a b c d e f g (suc (suc (suc (suc (suc (suc (suc (suc o)))))))) l h = absurd (omega arith)
