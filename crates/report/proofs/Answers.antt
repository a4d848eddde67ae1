-- What the program prints, in each case of the code; and the rows of two slices that hold a list of faults as far as it fits.
use mathlib.Core.Path.{◌≡◌, refl, ap}
use mathlib.Core.List.{List, [], ◌∷◌, ◌++◌, map, zip_with}
use Prim.Native.Nat.{ℕ, ◌-◌, ◌≤◌, ◌<◌, min}
use lib.Dec.{eqb}
use lib.ListN.{length, take, drop, length-take}
use borrow.Author.Tests.{eq-eqb, ne_eqb, eqb-true, lt-ltb, le-ltb}
use Rattle.laws.proofs.Truth.{by_test}
use Rattle.laws.proofs.Parts.{take_rest}
use Rattle.rules.specs.Faults.{Fault, written}
use Rattle.ledger.specs.Slices.{held}
use Rattle.std.specs.Prelude.{Some, None}
use Rattle.listing_texts.specs.declared.job.Job.{Job}
use Rattle.listing_texts.specs.Job.{job_of}
use Rattle.listing_texts.specs.Printing.{listing_text, refused_text}
use Rattle.report.specs.Program.{answer_text, job_text, printed}

-- ---- an answer

module _ (refusal code day : ℕ) (rows : List Fault) (total : ℕ) where
  pub refused : (refusal ≡ 0 → ⊥) → refused_text refusal ≡ answer_text refusal code day rows total
  unfolding answer_text
  refused h = rw (ne_eqb refusal 0 h)

  pub listed : refusal ≡ 0 → listing_text code day rows total ≡ answer_text refusal code day rows total
  unfolding answer_text
  listed h = rw (eq-eqb refusal 0 h)

-- ---- the rows

-- pairs written at the start of both slices
first_pairs : (fs : List Fault) (a b : List ℕ) → held (length fs) (map (λ (f : Fault). f.line) fs ++ a) (map (λ (f : Fault). f.rule) fs ++ b) ≡ fs
unfolding zip_with
first_pairs [] a b = refl
first_pairs (f ∷ fs) a b = ap (λ (gs : List Fault). f ∷ gs) (first_pairs fs a b)

-- slices that hold a list of faults as far as it fits hold its first faults
pub held_all : (all : List Fault) (ls rs : List ℕ) (room : ℕ) → length ls ≡ room → length rs ≡ room
    → held (min room (length all)) (written (λ (f : Fault). f.line) all ls) (written (λ (f : Fault). f.rule) all rs) ≡ take room all
held_all all ls rs room e e' =
    rw (e, e', ← length-take room all) (first_pairs (take room all) (drop (length all) ls) (drop (length all) rs))

-- an answer of checking that was given two slices of 256, as the program prints it
pub answered : (all : List Fault) (refusal code day total : ℕ) (ls₀ rs₀ ls rs : List ℕ) → length ls₀ ≡ 256 → length rs₀ ≡ 256
    → (refusal ≡ 0 → (total ≡ length all) × (ls ≡ written (λ (f : Fault). f.line) all ls₀) × (rs ≡ written (λ (f : Fault). f.rule) all rs₀))
    → answer_text refusal code day (held (min 256 total) ls rs) total ≡ answer_text refusal code day (take 256 all) (length all)
unfolding answer_text
answered all refusal code day total ls₀ rs₀ ls rs e e' h = by_test (eqb refusal 0)
    (λ q. rw q (
    let k = h (eqb-true refusal 0 q) in
    rw (k.0, k.1, k.2, held_all all ls₀ rs₀ 256 e e')))
    (λ q. rw q)

-- ---- the program

module _ (refusal : List ℕ → ℕ → ℕ → ℕ) (faults : List ℕ → ℕ → ℕ → List Fault) (input : List ℕ) where
  pub too_long : 65536 < length input → refused_text 7 ≡ printed refusal faults input
  unfolding printed
  too_long h = rw (lt-ltb 65536 (length input) h)

  module _ (h : length input ≤ 65536) where
    pub no_job : job_of input ≡ None → refused_text 8 ≡ printed refusal faults input
    unfolding printed
    no_job e = rw (le-ltb 65536 (length input) h, e)

    -- the file is the part from place 14 on
    pub has_job : (job : Job) → job_of input ≡ Some job
        → job_text refusal faults (Some job) (take (length input - 14) (drop 14 input)) ≡ printed refusal faults input
    unfolding printed
    has_job job e = rw (le-ltb 65536 (length input) h, e, take_rest 14 input)
