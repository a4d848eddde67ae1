-- A row of ten that `from_fn` makes by a closure that changes nothing.
use Rattle.std.proofs.Common.{◌≡◌, ℕ, zero, suc, ◌+◌, ◌<◌, ◌≤◌, List}
use Rattle.std.proofs.Common.{subst}
use native.Mathlib.Omega.{arith}
use denote.Param.Members.{Mut, Called}
use Rattle.std.specs.Prelude.{⊤}
use Rattle.std.specs.Array.{IsElementAt, IsFromFnResultFrom}

module _ {F B : Type 0} (g : Mut F (ℕ × Unit {0}) B) (f : F) (h : ℕ → B) (ys : List B) where
  abbrev pub Known : ℕ → ℕ → Type 0
  Known i zero = ⊤
  Known i (suc n) = IsElementAt ys i (h i) × Known (i + 1) n

  pub known : ((i : ℕ) (r : B) (q : F) → i < 10 → Called g f (i, tt) r q → (q ≡ f) × (r ≡ h i))
      → (i n : ℕ) → i + n ≤ 10 → (p : F) → p ≡ f → IsFromFnResultFrom g p ys i n → Known i n
  known step i zero le p e s = tt
  known step i (suc n) le p e s =
      let k = step i s.1 s.0 (omega arith) (subst (λ x. Called g x (i, tt) s.1 s.0) e s.3) in
      (subst (IsElementAt ys i) k.1 s.2, known step (i + 1) n (omega arith) s.0 k.0 s.4)
