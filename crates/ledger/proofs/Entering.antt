-- Entering sets of marks: the loop of `enter`, and one call after the other.
use mathlib.Core.Path.{◌≡◌, refl, sym, ap, ◌∙◌, subst}
use mathlib.Core.List.{List, [], ◌∷◌, ◌++◌, map, append_assoc, append-nil}
use Prim.Native.Nat.{ℕ, ◌+◌, ◌-◌, ◌^◌, ◌≤◌, ◌<◌}
use native.Mathlib.Omega.{arith}
use lib.ListN.{length, length-append}
use lib.Bits.{bit_and, and_le_r}
use lib.Count.{ones, count_trailing_zeros}
use Rattle.rules.specs.Faults.{Fault, fault}
use Rattle.ledger.specs.declared.Ledger.{Ledger}
use Rattle.ledger.specs.Marks.{marked}
use Rattle.ledger.specs.Slices.{Ready, Put, Entered}
use Rattle.ledger.proofs.Marks.{least_rule, no_rules, marked_count}
use Rattle.ledger.proofs.Putting.{put_none, put_both}

-- the rules in m are still to be entered
pub record Entering (ls₀ rs₀ : List ℕ) (n₀ line marks : ℕ) (ls rs : List ℕ) (n m : ℕ) : Type 0 where
  pub done : List Fault
  pub put : Put done n₀ ls₀ rs₀ n ls rs
  pub rest : done ++ marked line m ≡ marked line marks
  pub room : n₀ ≤ length ls₀
  pub small : m < 2 ^ 64

-- before the first rule
pub enter_start : {ls rs : List ℕ} {n line marks : ℕ} → Ready n ls rs → marks < 2 ^ 64 → Entering ls rs n line marks ls rs n marks
enter_start {ls} {rs} {n} {line} {marks} R h = record { done = []; put = put_none n ls rs R; rest = refl; room = R.room; small = h }

-- one rule more
pub enter_more : {ls₀ rs₀ : List ℕ} {n₀ line marks : ℕ} {ls rs : List ℕ} {n m : ℕ} {ls' rs' : List ℕ} {n' : ℕ} → Entering ls₀ rs₀ n₀ line marks ls rs n m → 0 < m
    → Put (fault line (count_trailing_zeros 64 m) ∷ []) n ls rs n' ls' rs' → Entering ls₀ rs₀ n₀ line marks ls' rs' n' (bit_and m (m - 1))
enter_more {ls₀} {rs₀} {n₀} {line} {marks} {ls} {rs} {n} {m} {ls'} {rs'} {n'} E p P =
    let x : Fault = fault line (count_trailing_zeros 64 m) in
    let least : marked line m ≡ x ∷ marked line (bit_and m (m - 1)) = ap (map (fault line)) (least_rule m p E.small) in
    record {
      done = E.done ++ (x ∷ []);
      put = put_both E.done (x ∷ []) n₀ ls₀ rs₀ n ls rs n' ls' rs' E.room E.put P;
      rest = append_assoc E.done (x ∷ []) (marked line (bit_and m (m - 1))) ∙ ap (λ (l : List Fault). E.done ++ l) (sym least) ∙ E.rest;
      room = E.room;
      small = omega (arith, and_le_r m (m - 1), E.small);
    }

marked_none : (line m : ℕ) → m ≡ 0 → marked line m ≡ []
marked_none line m z = ap (marked line) z ∙ ap (map (fault line)) no_rules

-- after the last
pub enter_end : {ls₀ rs₀ : List ℕ} {g : Ledger} {line marks : ℕ} {ls rs : List ℕ} {n m : ℕ} → marks < 2 ^ 64 → Entering ls₀ rs₀ g.kept line marks ls rs n m → m ≡ 0
    → Entered (marked line marks) g ls₀ rs₀ (record { kept = n; total = g.total + ones marks }) ls rs
enter_end {ls₀} {rs₀} {g} {line} {marks} {ls} {rs} {n} {m} h E z =
    let all : E.done ≡ marked line marks = sym (append-nil E.done) ∙ ap (λ (l : List Fault). E.done ++ l) (sym (marked_none line m z)) ∙ E.rest in
    record {
      put = subst (λ (xs : List Fault). Put xs g.kept ls₀ rs₀ n ls rs) all E.put;
      sum = ap (λ (k : ℕ). g.total + k) (sym (marked_count line marks h));
    }

-- ---- nothing, and one call after the other

-- nothing
pub entered_none : {g : Ledger} {ls rs : List ℕ} → Ready g.kept ls rs → Entered [] g ls rs g ls rs
entered_none {g} {ls} {rs} R = record { put = put_none g.kept ls rs R; sum = omega arith }

-- the empty set
pub enter_nothing : {g : Ledger} {ls rs : List ℕ} (line marks : ℕ) → Ready g.kept ls rs → marks ≡ 0 → Entered (marked line marks) g ls rs g ls rs
enter_nothing {g} {ls} {rs} line marks R z = subst (λ (xs : List Fault). Entered xs g ls rs g ls rs) (sym (marked_none line marks z)) (entered_none R)

-- some faults, then others
pub entered_both : {xs ys : List Fault} {g : Ledger} {ls rs : List ℕ} {g₁ : Ledger} {ls₁ rs₁ : List ℕ} {g₂ : Ledger} {ls₂ rs₂ : List ℕ}
    → Ready g.kept ls rs → Entered xs g ls rs g₁ ls₁ rs₁ → Entered ys g₁ ls₁ rs₁ g₂ ls₂ rs₂ → Entered (xs ++ ys) g ls rs g₂ ls₂ rs₂
entered_both {xs} {ys} {g} {ls} {rs} {g₁} {ls₁} {rs₁} {g₂} {ls₂} {rs₂} R E F = record {
  put = put_both xs ys g.kept ls rs g₁.kept ls₁ rs₁ g₂.kept ls₂ rs₂ R.room E.put F.put;
  sum = omega (arith, E.sum, F.sum, length-append xs ys);
}
