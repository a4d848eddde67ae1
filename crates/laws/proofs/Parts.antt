-- Parts of lists.
use mathlib.Core.Path.{◌≡◌, ap}
use mathlib.Core.List.{List, [], ◌∷◌, ◌++◌}
use Prim.Native.Nat.{ℕ, zero, suc, ◌-◌, min}
use native.Mathlib.Nat.{min-zero, suc-min-suc, sub-zero, zero-sub, suc-sub-suc}
use lib.ListN.{length, take, drop, length-drop}
use lib.Seq.{take-length, drop-nil, take-nil}
-- to take more than all is to take all
pub use Rattle.std.proofs.lemmas.List.{take_min}

-- to drop more than all is to drop all
pub drop_min : (n : ℕ) (s : List ℕ) → drop (min (length s) n) s ≡ drop n s
drop_min zero s = rw (min-zero (length s))
drop_min (suc n) [] = drop-nil (min 0 (suc n))
drop_min (suc n) (x ∷ s) = rw (suc-min-suc (length s) n) (drop_min n s)

-- what is left is the rest
pub take_rest : (n : ℕ) (s : List ℕ) → take (length s - n) (drop n s) ≡ drop n s
take_rest n s = rw (← length-drop n s) (take-length (drop n s))

-- the first n of two lists, and the rest
pub take_both : (n : ℕ) (s t : List ℕ) → take n (s ++ t) ≡ take n s ++ take (n - length s) t
take_both n [] t = rw (sub-zero, take-nil)
take_both zero (x ∷ s) t = rw zero-sub
take_both (suc n) (x ∷ s) t = rw suc-sub-suc (ap (λ (l : List ℕ). x ∷ l) (take_both n s t))

pub drop_both : (n : ℕ) (s t : List ℕ) → drop n (s ++ t) ≡ drop n s ++ drop (n - length s) t
drop_both n [] t = rw (sub-zero, drop-nil)
drop_both zero (x ∷ s) t = rw zero-sub
drop_both (suc n) (x ∷ s) t = rw suc-sub-suc (drop_both n s t)
