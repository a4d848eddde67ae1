-- Model of the code, not part of the statement: what two lent slices, for line numbers and rule numbers, hold of the list of faults while
-- the code enters them, and a third one beside them.
use Rattle.std.specs.Prelude.{ℕ, suc, ◌+◌, ◌-◌, ◌≤◌, min, ◌≡◌, length, take, drop}
use mathlib.Core.List.{List, [], ◌∷◌, ◌++◌, map, zip_with}
use Rattle.rules.specs.Faults.{Fault, fault, written}
use Rattle.ledger.specs.declared.Ledger.{Ledger}
use Rattle.ledger.specs.Marks.{key, insert_all}

-- the pairs that the two slices hold, place by place
abbrev pub pairs : List ℕ → List ℕ → List Fault
pairs ls rs = zip_with fault ls rs

-- those of the first n places
abbrev pub held : ℕ → List ℕ → List ℕ → List Fault
held n ls rs = take n (pairs ls rs)

-- s with v put in at p: what stood from p up to n moves one place on, over what stood at n
abbrev pub opened {ℓ} : {A : Type ℓ} → ℕ → ℕ → A → List A → List A
opened p n v s = take p s ++ (v ∷ (take (n - p) (drop p s) ++ drop (suc n) s))

-- in order: no key is below k, nor below the one before it
abbrev pub Ordered : ℕ → List Fault → Type 0
Ordered k [] = Unit {0}
Ordered k (x ∷ xs) = (k ≤ key x) × Ordered (key x) xs

-- what entering asks of two slices of which the first n places hold pairs
pub record Ready (n : ℕ) (ls rs : List ℕ) : Type 0 where
  pub room : n ≤ length ls
  pub same : length ls ≡ length rs
  pub order : Ordered 0 (held n ls rs)

-- xs were put in among the n pairs held: of all of them the first that fit are held, and the places after the last keep what they held
pub record Put (xs : List Fault) (n : ℕ) (ls rs : List ℕ) (n' : ℕ) (ls' rs' : List ℕ) : Type 0 where
  pub holds : held n' ls' rs' ≡ take (length ls) (insert_all xs (held n ls rs))
  pub count : n' ≡ min (length ls) (n + length xs)
  pub lines_after : drop n' ls' ≡ drop n' ls
  pub rules_after : drop n' rs' ≡ drop n' rs
  pub lines_long : length ls' ≡ length ls
  pub rules_long : length rs' ≡ length rs
  pub ready : Ready n' ls' rs'

-- xs were entered, by one call or by several: a full room stops nothing of the total
pub record Entered (xs : List Fault) (g : Ledger) (ls rs : List ℕ) (g' : Ledger) (ls' rs' : List ℕ) : Type 0 where
  pub put : Put xs g.kept ls rs g'.kept ls' rs'
  pub sum : g'.total ≡ g.total + length xs

-- a third slice, that came as ps₀: its first n places hold what a function of lines gives for the lines beside them
pub record Beside (off : ℕ → ℕ) (ps₀ : List ℕ) (n : ℕ) (ls ps : List ℕ) : Type 0 where
  pub first : take n ps ≡ map off (take n ls)
  pub after : drop n ps ≡ drop n ps₀
  pub long : length ps ≡ length ps₀

-- it stays so, for every function of which this is given
abbrev pub Kept : ((ℕ → ℕ) → Type 0) → ℕ → List ℕ → List ℕ → ℕ → List ℕ → List ℕ → Type 0
Kept given n ls ps n' ls' ps' = (off : ℕ → ℕ) (ps₀ : List ℕ) → given off → Beside off ps₀ n ls ps → Beside off ps₀ n' ls' ps'

-- the slices hold the list as far as it fits, beside each fault what a function gives for its line, and 'the total is the true total all
-- the same' (the mission, demand 3)
pub record Listed (off : ℕ → ℕ) (all : List Fault) (ls₀ rs₀ ps₀ : List ℕ) (g : Ledger) (ls rs ps : List ℕ) : Type 0 where
  pub lines : ls ≡ written (λ (f : Fault). f.line) all ls₀
  pub rules : rs ≡ written (λ (f : Fault). f.rule) all rs₀
  pub offsets : ps ≡ written (λ (f : Fault). off f.line) all ps₀
  pub kept : g.kept ≡ min (length ls₀) (length all)
  pub total : g.total ≡ length all
