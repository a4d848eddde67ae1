-- The open account check: its answer in each case of the code, its refusal and what it says of each half.
use Rattle.std.proofs.Common.{◌≡◌, ℕ, Bool, true, false, cond, not, ◌&&◌, eqb, leb, List, [], ◌∷◌, length, sym, refl, ap, ◌∙◌, le_antisymm, arith, leb-false, leb-true, le-leb}
use mathlib.Core.Bool.{and-false, not-not, false≢true}
use lib.Dec.{leb-zero}
use Rattle.std.proofs.lemmas.Option.{none-some, cond_some}
use Rattle.laws.proofs.Truth.{by_test, never_true}
use Rattle.laws.specs.Refusals.{◌if◌, first}
use Rattle.text.specs.Digits.{is_digit, value}
use Rattle.figures.specs.declared.parts.PartRead.{PartRead}
use Rattle.figures.specs.declared.parts.Number.{Number}
use Rattle.figures.specs.declared.parts.Number.TheVariants.{Good, Failing, Zero}
use Rattle.figures.specs.declared.parts.Halves.{Halves}
use Rattle.std.specs.Prelude.{Option, Some, None, Ok, Err}
use Rattle.std.specs.Result.{IsErr}
use Rattle.figures.specs.declared.accounts.AccountError.TheVariants.{NotDigits}
use Rattle.figures.specs.Layouts.{num, run, fits}
use Rattle.figures.specs.Accounts.{passes, number_by, halves_of, part_of, are_digits, Account, account_by, account_of, account_refusals, account_number, prefix_answer, number_answer, prefix_value, number_value, Judges}
use Rattle.figures.proofs.Runs.{run_length}
use Rattle.figures.proofs.Endings.{empty_before}

-- a part of one digit at least
some_digits : (h : ℕ) (t : List ℕ) → fits (num 1 h ∷ []) t ≡ (leb 1 (length t) && fits (num 0 h ∷ []) t)
unfolding fits
some_digits h t = by_test (leb (length t) (run is_digit h t))
    (λ e.
    let k : run is_digit h t ≡ length t = le_antisymm (run_length is_digit h t) (leb-true (length t) (run is_digit h t) e) in
    rw (leb-zero (run is_digit h t), k))
    (λ e. rw (empty_before t (run is_digit h t) (leb-false (length t) (run is_digit h t) e), and-false, and-false, and-false))

-- the halves, from what was told of the parts
abbrev halves_by : PartRead → PartRead → Halves
halves_by a b = record { prefix = a.passes; number = number_by (not b.some) b.passes }

-- the answer by document 01's number, and by the number of each half
pub refusal_is : (p n : List ℕ) → account_number (account_of p n) ≡ first (account_refusals p n)
unfolding account_of
refusal_is p n = go (are_digits p n)
  where
    go : (d : Bool) → account_number (account_by d (halves_of p n)) ≡ first ((10 if not d) ∷ [])
    go true = refl
    go false = refl

pub prefix_is : (p n : List ℕ) (old : ℕ) → prefix_value (account_of p n) old ≡ cond (eqb (first (account_refusals p n)) 0) (prefix_answer (halves_of p n).prefix) old
unfolding account_of
prefix_is p n old = go (are_digits p n)
  where
    go : (d : Bool) → prefix_value (account_by d (halves_of p n)) old ≡ cond (eqb (first ((10 if not d) ∷ [])) 0) (prefix_answer (halves_of p n).prefix) old
    go true = refl
    go false = refl

pub number_is : (p n : List ℕ) (old : ℕ) → number_value (account_of p n) old ≡ cond (eqb (first (account_refusals p n)) 0) (number_answer (halves_of p n).number) old
unfolding account_of
number_is p n old = go (are_digits p n)
  where
    go : (d : Bool) → number_value (account_by d (halves_of p n)) old ≡ cond (eqb (first ((10 if not d) ∷ [])) 0) (number_answer (halves_of p n).number) old
    go true = refl
    go false = refl

answered : (p n : List ℕ) {r : Account} → r ≡ account_of p n → Judges p n r
answered p n e = (ap account_number e ∙ refusal_is p n, e)

-- what a part that was told of is
told_part : (h : ℕ) (t : List ℕ) {a : PartRead} → part_of h t ≡ Some a → (fits (num 0 h ∷ []) t ≡ true) × (record { some = not (eqb (value t) 0); passes = passes t } ≡ a)
unfolding part_of
told_part h t e = cond_some _ _ _ e

untold : (h : ℕ) (t : List ℕ) → part_of h t ≡ None → fits (num 0 h ∷ []) t ≡ false
unfolding part_of
untold h t e = never_true (fits (num 0 h ∷ []) t) (λ d. none-some (record { some = not (eqb (value t) 0); passes = passes t }) (sym e ∙ rw d))

-- the open check, from what was told of its parts
abbrev told : Bool → List ℕ → Option PartRead
told t bs = cond t (Some (record { some = not (eqb (value bs) 0); passes = passes bs })) None

abbrev pub told_by : Bool → Option PartRead → Option PartRead → Account
told_by some None b = Err NotDigits
told_by some (Some a) None = Err NotDigits
told_by some (Some a) (Some b) = account_by some (halves_by a b)

pub judged : (p n : List ℕ) {a b : Option PartRead} → a ≡ part_of 6 p → b ≡ part_of 10 n → told_by (leb 1 (length n)) a b ≡ account_of p n
unfolding part_of account_of
judged p n ea eb =
    (λ i. told_by (leb 1 (length n)) (ea i) (eb i))
    ∙ go (leb 1 (length n)) (fits (num 0 6 ∷ []) p) (fits (num 0 10 ∷ []) n)
    ∙ ap (λ (t : Bool). account_by (fits (num 0 6 ∷ []) p && t) (halves_of p n)) (sym (some_digits 10 n))
  where
    go : (t x y : Bool) → told_by t (told x p) (told y n) ≡ account_by (x && (t && y)) (halves_of p n)
    go true true true = unfold halves_of in rw (not-not (eqb (value n) 0))
    go true true false = refl
    go true false true = refl
    go true false false = refl
    go false true true = refl
    go false true false = refl
    go false false true = refl
    go false false false = refl

-- the same by its cases: both parts read, or the number is empty, or one of the two does not read
module _ (p n : List ℕ) where
  pub both_judged : {a b : PartRead} → (length n ≡ 0 → ⊥) → part_of 6 p ≡ Some a → part_of 10 n ≡ Some b → Judges p n (Ok (halves_by a b))
  unfolding account_of halves_of
  both_judged l ea eb =
      let x = told_part 6 p ea in
      let y = told_part 10 n eb in
      answered p n (rw (x.0, some_digits 10 n, y.0, le-leb 1 (length n) (omega arith), ← x.1, ← y.1, not-not (eqb (value n) 0)) refl)

  refused : {r : Account} → are_digits p n ≡ false → IsErr r → Judges p n r
  unfolding account_of
  refused {r = Ok h} d e = absurd (false≢true e)
  refused {r = Err NotDigits} d e = answered p n (rw d)

  pub no_number : length n ≡ 0 → Judges p n (Err NotDigits)
  no_number l = refused (rw (some_digits 10 n, l, and-false)) refl

  pub no_first : {r : Account} → part_of 6 p ≡ None → IsErr r → Judges p n r
  no_first e = refused (rw (untold 6 p e))

  pub no_second : {r : Account} → part_of 10 n ≡ None → IsErr r → Judges p n r
  no_second e = refused (rw (some_digits 10 n, untold 10 n e, and-false, and-false))

-- two answers that meet the check's statement are one
pub judges_unique : (p n : List ℕ) {r r' : Account} → Judges p n r → Judges p n r' → r ≡ r'
judges_unique p n e f = e.1 ∙ sym f.1

-- the number of the refusal and those of the halves tell the answers apart
prefix_apart : (a b : Bool) → prefix_answer a ≡ prefix_answer b → a ≡ b
prefix_apart true true e = refl
prefix_apart true false e = absurd (omega (arith, e))
prefix_apart false true e = absurd (omega (arith, e))
prefix_apart false false e = refl

number_apart : (a b : Number) → number_answer a ≡ number_answer b → a ≡ b
number_apart Good Good e = refl
number_apart Good Failing e = absurd (omega (arith, e))
number_apart Good Zero e = absurd (omega (arith, e))
number_apart Failing Good e = absurd (omega (arith, e))
number_apart Failing Failing e = refl
number_apart Failing Zero e = absurd (omega (arith, e))
number_apart Zero Good e = absurd (omega (arith, e))
number_apart Zero Failing e = absurd (omega (arith, e))
number_apart Zero Zero e = refl

pub told_apart : (r r' : Account) → account_number r ≡ account_number r' → prefix_value r 0 ≡ prefix_value r' 0 → number_value r 0 ≡ number_value r' 0 → r ≡ r'
told_apart (Ok h) (Ok k) e f g =
    λ i. Ok (record { prefix = prefix_apart h.prefix k.prefix f i; number = number_apart h.number k.number g i })
told_apart (Ok h) (Err NotDigits) e f g = absurd (omega (arith, e))
told_apart (Err NotDigits) (Ok k) e f g = absurd (omega (arith, e))
told_apart (Err NotDigits) (Err NotDigits) e f g = refl
