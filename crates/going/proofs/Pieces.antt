-- Pieces that came one behind the other, however the step of one is said.
use Prim.Native.Nat.{ℕ}
use mathlib.Core.Path.{sym, subst}
use mathlib.Core.List.{List, [], ◌∷◌, ◌++◌, append_assoc, append-nil}
use Rattle.joining.specs.Portions.{concat}

pub data Thens {A : Type 0} (Step : List ℕ → A → A → Type 0) : List (List ℕ) → A → A → Type 0 where
  no_more_lem : {a : A} → Thens Step [] a a
  one_more : {s : List ℕ} {ss : List (List ℕ)} {a b c : A} → Step s a b → Thens Step ss b c → Thens Step (s ∷ ss) a c

-- what each does to the text that is held, they do together
pub held_all : {A : Type 0} {Step : List ℕ → A → A → Type 0} (Held : List ℕ → A → Type 0) → ((s : List ℕ) (a b : A) → Step s a b → (file : List ℕ) → Held file a → Held (file ++ s) b)
    → {ss : List (List ℕ)} {a b : A} → Thens Step ss a b → (file : List ℕ) → Held file a → Held (file ++ concat ss) b
unfolding concat
held_all Held step {a = a} no_more_lem file H = subst (λ (f : List ℕ). Held f a) (sym (append-nil file)) H
held_all Held step {b = c} (one_more {s} {ss} {a} {b} T Ts) file H =
    subst (λ (f : List ℕ). Held f c) (append_assoc file s (concat ss)) (held_all Held step Ts (file ++ s) (step s a b T file H))
