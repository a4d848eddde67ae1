-- The book of all faults so far, in order: what the slices and the ledger hold of it.
use mathlib.Core.Path.{◌≡◌, refl, sym, ap, ◌∙◌}
use mathlib.Core.List.{List, [], ◌∷◌, ◌++◌, map}
use Prim.Native.Nat.{ℕ, min}
use native.Mathlib.Omega.{arith}
use lib.ListN.{length, take, drop, take-append-drop}
use Rattle.laws.proofs.Parts.{drop_min}
use Rattle.rules.specs.Faults.{Fault, written}
use Rattle.ledger.specs.declared.Ledger.{Ledger}
use Rattle.ledger.specs.Marks.{insert_all}
use Rattle.ledger.specs.Slices.{pairs, held, Ready, Put, Entered, Beside, Listed}
use Rattle.ledger.proofs.Insertion.{length_insert_all, insert_all_append}
use Rattle.ledger.proofs.Pairs.{lines_of, rules_of}
use Rattle.ledger.proofs.Entering.{entered_none, entered_both}
use Rattle.ledger.proofs.Beside.{map_take}

abbrev blank : Ledger
blank = record { kept = 0; total = 0 }

-- the slices came as ls₀ and rs₀, and all that was entered since, in whichever order, is `all`
pub record Book (all : List Fault) (ls₀ rs₀ : List ℕ) (g : Ledger) (ls rs : List ℕ) : Type 0 where
  pub same : length ls₀ ≡ length rs₀
  pub since : List Fault
  pub entered : Entered since blank ls₀ rs₀ g ls rs
  pub are : insert_all since [] ≡ all

start_ready : (ls rs : List ℕ) → length ls ≡ length rs → Ready 0 ls rs
start_ready ls rs e = record { room = omega arith; same = e; order = tt }

-- the empty ledger
pub book_start : {g : Ledger} {ls rs : List ℕ} → length ls ≡ length rs → g ≡ record { kept = 0; total = 0 } → Book [] ls rs g ls rs
unfolding insert_all
book_start {g} {ls} {rs} e z = rw z (record { same = e; since = []; entered = entered_none (start_ready ls rs e); are = refl })

-- some faults more
pub book_more : {all xs : List Fault} {ls₀ rs₀ : List ℕ} {g : Ledger} {ls rs : List ℕ} {g' : Ledger} {ls' rs' : List ℕ}
    → Book all ls₀ rs₀ g ls rs → Entered xs g ls rs g' ls' rs' → Book (insert_all xs all) ls₀ rs₀ g' ls' rs'
book_more {all} {xs} {ls₀} {rs₀} B E = record {
  same = B.same;
  since = B.since ++ xs;
  entered = entered_both (start_ready ls₀ rs₀ B.same) B.entered E;
  are = insert_all_append B.since xs [] ∙ ap (insert_all xs) B.are;
}

-- one column: f of the first pairs, then what the slice held
column : (f : Fault → ℕ) (all : List Fault) (kept : ℕ) (s₀ s : List ℕ) → take kept s ≡ map f (take (length s₀) all) → kept ≡ min (length s₀) (length all) → drop kept s ≡ drop kept s₀
    → s ≡ written f all s₀
column f all kept s₀ s first ek ed =
    let rest : drop kept s ≡ drop (length all) s₀ = ed ∙ ap (λ (k : ℕ). drop k s₀) ek ∙ drop_min (length all) s₀ in
    sym (take-append-drop kept s) ∙ (λ i. first i ++ rest i)

-- the first places of a column of pairs
firsts : (f : Fault → ℕ) (kept : ℕ) (xs ys : List Fault) (s : List ℕ) → map f xs ≡ s → take kept xs ≡ ys → take kept s ≡ map f ys
firsts f kept xs ys s em eh = sym (ap (take kept) em) ∙ sym (map_take f kept xs) ∙ ap (map f) eh

map_both : (off : ℕ → ℕ) (f : Fault → ℕ) (xs : List Fault) → map off (map f xs) ≡ map (λ (x : Fault). off (f x)) xs
map_both off f [] = refl
map_both off f (x ∷ xs) = ap (λ (t : List ℕ). off (f x) ∷ t) (map_both off f xs)

-- the first pairs that fit are written, beside them what is asked of their lines, and the total counts them all
pub book_listed : {off : ℕ → ℕ} {all : List Fault} {ls₀ rs₀ ps₀ : List ℕ} {g : Ledger} {ls rs ps : List ℕ} → Book all ls₀ rs₀ g ls rs → length ls₀ ≡ length ps₀ → Beside off ps₀ g.kept ls ps
    → Listed off all ls₀ rs₀ ps₀ g ls rs ps
book_listed {off} {all} {ls₀} {rs₀} {ps₀} {g} {ls} {rs} {ps} B level D =
    let line : Fault → ℕ = λ f. f.line in
    let rule : Fault → ℕ = λ f. f.rule in
    let P : Put B.since 0 ls₀ rs₀ g.kept ls rs = B.entered.put in
    let same : length ls ≡ length rs = P.ready.same in
    let same₀ : length ls₀ ≡ length rs₀ = B.same in
    let count : length all ≡ length B.since = ap length (sym B.are) ∙ omega (arith, length_insert_all B.since []) in
    let kept : g.kept ≡ min (length ls₀) (length all) = omega (arith, P.count) in
    let first : held g.kept ls rs ≡ take (length ls₀) all = P.holds ∙ ap (take (length ls₀)) B.are in
    let ones : take g.kept ls ≡ map line (take (length ls₀) all) = firsts line g.kept (pairs ls rs) (take (length ls₀) all) ls (lines_of ls rs same) first in
    record {
      lines = column line all g.kept ls₀ ls ones kept P.lines_after;
      rules = column rule all g.kept rs₀ rs (firsts rule g.kept (pairs ls rs) (take (length rs₀) all) rs (rules_of ls rs same) (first ∙ ap (λ (k : ℕ). take k all) same₀)) (omega arith) P.rules_after;
      offsets = column (λ (f : Fault). off f.line) all g.kept ps₀ ps
          (D.first ∙ ap (map off) ones ∙ map_both off line (take (length ls₀) all) ∙ ap (λ (k : ℕ). map (λ (f : Fault). off f.line) (take k all)) level) (omega arith) D.after;
      kept = kept;
      total = omega (arith, B.entered.sum);
    }

-- the list determines the result
pub listed_unique : {off : ℕ → ℕ} {all : List Fault} {ls₀ rs₀ ps₀ : List ℕ} {g g' : Ledger} {ls rs ps ls' rs' ps' : List ℕ} → Listed off all ls₀ rs₀ ps₀ g ls rs ps
    → Listed off all ls₀ rs₀ ps₀ g' ls' rs' ps' → (ls ≡ ls') × (rs ≡ rs') × (ps ≡ ps') × (g ≡ g')
listed_unique {g = g} {g' = g'} L M =
    let k : g.kept ≡ g'.kept = L.kept ∙ sym M.kept in
    let t : g.total ≡ g'.total = L.total ∙ sym M.total in
    (L.lines ∙ sym M.lines, L.rules ∙ sym M.rules, L.offsets ∙ sym M.offsets, λ i. record { kept = k i; total = t i })
