-- Checking (document 01, 'The jobs at the counter'): its refusals in their order, and what it answers and leaves in the lent slices.
use Rattle.std.specs.Prelude.{ℕ, ◌≡◌, Bool, cond, not, ◌&&◌, List, [], ◌∷◌, ltb, eqb, length, Result, Ok, Err}
use Rattle.std.specs.Result.{result_unwrap_or}
use Rattle.laws.specs.Refusals.{Refusal, ◌if◌, first}
use Rattle.lines.specs.Lines.{has_mark, has_leftovers, starts_with_mark, body, offset_of}
use Rattle.rules.specs.Terms.{is_code, is_accounting_day, Terms}
use Rattle.rules.specs.Faults.{Fault, written, faults}
use Rattle.listing.specs.declared.checking.Unchecked.{Unchecked}
use Rattle.listing.specs.declared.checking.Unchecked.TheVariants.{BadCode, BadDay, TooLong, UnequalRooms, NoMark, Leftovers, StartsWithMark}

-- the three slices have one length (if not: refusal 4)
abbrev pub are_level : ℕ → ℕ → ℕ → Bool
are_level m n k = eqb m n && eqb m k

-- of a file, its terms, and the lengths of the three slices
abbrev pub check_refusals : List ℕ → Terms → ℕ → ℕ → ℕ → List Refusal
check_refusals file terms m n k =
    (1 if not (is_code terms.code.0)) ∷
    (2 if not (is_accounting_day terms.today)) ∷
    (3 if ltb 10000000 (length file)) ∷
    (4 if not (are_level m n k)) ∷
    (5 if not (has_mark file)) ∷
    (9 if has_leftovers file) ∷
    (6 if starts_with_mark file) ∷ []

-- document 01's number for each refusal, and for each answer
abbrev pub unchecked_number : Unchecked → ℕ
unchecked_number BadCode = 1
unchecked_number BadDay = 2
unchecked_number TooLong = 3
unchecked_number UnequalRooms = 4
unchecked_number NoMark = 5
unchecked_number Leftovers = 9
unchecked_number StartsWithMark = 6

abbrev pub checked_number : Result ℕ Unchecked → ℕ
checked_number (Ok t) = 0
checked_number (Err u) = unchecked_number u

-- its total, or another number where it is a refusal: 'a refusal returns its number, no total'
abbrev pub checked_or : Result ℕ Unchecked → ℕ → ℕ
checked_or r old = result_unwrap_or r old

-- what a lent slice holds after: the first numbers that fit, then what it held; on a refusal what it held
abbrev pub slices_after : ℕ → (Fault → ℕ) → List Fault → List ℕ → List ℕ
slices_after refusal part all before = cond (eqb refusal 0) (written part all before) before

-- 'the offset of the line's first byte' (A11): of the line at which the fault is
abbrev pub offset_at : List ℕ → Fault → ℕ
offset_at file f = offset_of (body file) f.line

-- what checking answers, and the three slices after
pub record Checks (file : List ℕ) (terms : Terms) (ls₀ rs₀ ps₀ : List ℕ) (r : Result ℕ Unchecked) (ls rs ps : List ℕ) : Type 0 where
  pub number : checked_number r ≡ first (check_refusals file terms (length ls₀) (length rs₀) (length ps₀))
  pub total : (old : ℕ) → checked_or r old ≡ cond (eqb (first (check_refusals file terms (length ls₀) (length rs₀) (length ps₀))) 0) (length (faults terms file)) old
  pub lines : ls ≡ slices_after (first (check_refusals file terms (length ls₀) (length rs₀) (length ps₀))) (λ (f : Fault). f.line) (faults terms file) ls₀
  pub rules : rs ≡ slices_after (first (check_refusals file terms (length ls₀) (length rs₀) (length ps₀))) (λ (f : Fault). f.rule) (faults terms file) rs₀
  pub offsets : ps ≡ slices_after (first (check_refusals file terms (length ls₀) (length rs₀) (length ps₀))) (offset_at file) (faults terms file) ps₀

-- .. with no slices lent
pub record Totals (file : List ℕ) (terms : Terms) (r : Result ℕ Unchecked) : Type 0 where
  pub number : checked_number r ≡ first (check_refusals file terms 0 0 0)
  pub total : (old : ℕ) → checked_or r old ≡ cond (eqb (first (check_refusals file terms 0 0 0)) 0) (length (faults terms file)) old
