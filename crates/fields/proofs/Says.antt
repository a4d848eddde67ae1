-- What a field says, from what the code found of its text.
use mathlib.Core.Path.{◌≡◌, refl, ap, ◌∙◌, sym}
use mathlib.Core.Bool.{Bool, true, false, true≢false, not, ◌&&◌, ◌||◌, and-true}
use mathlib.Core.List.{List, [], ◌∷◌}
use Prim.Native.Nat.{ℕ, ◌+◌, ◌-◌, min}
use native.Mathlib.Nat.{zero-add}
use native.Mathlib.Omega.{arith}
use lib.ListN.{length, take, drop, length-drop, drop_of_length-le}
use lib.Seq.{drop-drop, length-take-le, take_all}
use lib.Dec.{eqb, leb}
use Rattle.laws.specs.Refusals.{first}
use borrow.Author.Tests.{leb-true, leb-false}
use Rattle.laws.proofs.Truth.{and_parts, by_test}
use Rattle.text.specs.Digits.{is_digit, value}
use Rattle.number_reader.specs.declared.Run.{Run}
use Rattle.number_reader.specs.declared.Two.{Two}
use Rattle.fields.specs.declared.classes.Class.{Class}
use Rattle.fields.specs.declared.classes.Class.TheVariants.{Money, Number, Range, Group, Account, Text, Free}
use Rattle.fields.specs.declared.readings.Reading.{Reading}
use Rattle.fields.specs.declared.readings.Reading.TheVariants.{Broken, Plain, Party}
use Rattle.figures.specs.Layouts.{Part, num, space, run, head_is, fits, part, maybe_name}
use Rattle.number_reader.specs.Numbers.{number_at, two_of}
use Rattle.figures.specs.declared.parts.Halves.{Halves}
use Rattle.std.specs.Prelude.{Some, None, Ok}
use Rattle.figures.specs.Accounts.{halves_of, are_digits, account_of, account_refusals}
use Rattle.fields.specs.Codes.{code_by, claims}
use Rattle.fields.specs.Readings.{text_of, layout_of, said_by, if_fits, reading_of}
use Rattle.figures.proofs.Runs.{run_length, run_again}
use Rattle.number_reader.proofs.Told.{tests, not_found, known, size, first_is, second_is}
use Rattle.figures.proofs.Endings.{bytes_are, empty_past}

module _ (k : Class) (l₁ h₁ l₂ h₂ : ℕ) (ps : List Part) (t : List ℕ) (lay : (layout_of k).own ≡ num l₁ h₁ ∷ space ∷ num l₂ h₂ ∷ ps) where
  abbrev n₁ : ℕ
  n₁ = run is_digit h₁ t

  abbrev n₂ : ℕ
  n₂ = run is_digit h₂ (drop (n₁ + 1) t)

  abbrev tested : Bool
  tested = tests l₁ h₁ l₂ h₂ t

  regroup : (a b c d : Bool) → (a && (b && (c && d))) ≡ ((a && (b && c)) && d)
  regroup true true c d = refl
  regroup true false c d = refl
  regroup false b c d = refl

  split : fits (layout_of k).own t ≡ (tested && fits ps (drop (n₁ + 1 + n₂) t))
  unfolding fits
  split = rw (lay, drop-drop 1 n₁ t, drop-drop n₂ (n₁ + 1) t) (regroup (leb l₁ n₁) (head_is 32 (drop n₁ t)) (leb l₂ n₂) (fits ps (drop (n₁ + 1 + n₂) t)))

  first_part : part 0 (layout_of k).own t ≡ take n₁ t
  unfolding part
  first_part = rw lay

  second_part : part 1 (layout_of k).own t ≡ take n₂ (drop (n₁ + 1) t)
  unfolding part
  second_part = rw (lay, drop-drop 1 n₁ t)

  said : reading_of k t ≡ if_fits (tested && fits ps (drop (n₁ + 1 + n₂) t)) (said_by k (take n₁ t) (take n₂ (drop (n₁ + 1) t)))
  unfolding reading_of
  said = rw (split, first_part, second_part)

  -- no two numbers: the text is broken, whatever the layout asks after them
  pub not_two : two_of l₁ h₁ l₂ h₂ t ≡ None → Broken ≡ reading_of k t
  not_two e = sym (said ∙ rw (not_found l₁ h₁ l₂ h₂ t e))

  module _ (x : Two) (e : two_of l₁ h₁ l₂ h₂ t ≡ Some x) where
    abbrev first_text : List ℕ
    first_text = take x.mid t

    abbrev second_text : List ℕ
    second_text = take (x.end - (x.mid + 1)) (drop (x.mid + 1) t)

    -- two numbers: what is left of the text decides
    two : if_fits (fits ps (drop x.end t)) (said_by k first_text second_text) ≡ reading_of k t
    two = let q = known l₁ h₁ l₂ h₂ t x e in sym (said ∙ rw (q.0, ← size l₁ h₁ l₂ h₂ t x e, q.1, q.4))

    -- the code's answer, made of the two texts, or of the two numbers
    pub made : (r : Reading) (b : Bool) → b ≡ fits ps (drop x.end t) → r ≡ said_by k first_text second_text → if_fits b r ≡ reading_of k t
    made r b p q = rw (p, q) two

    pub made_by : (f : ℕ → ℕ → Reading) (b : Bool) → b ≡ fits ps (drop x.end t) → f (value first_text) (value second_text) ≡ said_by k first_text second_text
        → if_fits b (f x.first x.second) ≡ reading_of k t
    made_by f b p q = made (f x.first x.second) b p (ap (λ (y : ℕ). f y x.second) (first_is l₁ h₁ l₂ h₂ t x e) ∙ ap (f (value first_text)) (second_is l₁ h₁ l₂ h₂ t x e) ∙ q)

-- one number
pub one_number : (t : List ℕ) (a : Run) → a ≡ number_at 10 t 0 → if_fits (leb 1 a.end && fits [] (drop a.end t)) Plain ≡ reading_of Number t
unfolding reading_of fits
one_number t a e = let m : a.end ≡ run is_digit 10 t = ap (λ (r : Run). r.end) e ∙ zero-add _ in rw m

-- a text
text : (t : List ℕ) → if_fits (leb 1 (length t) && leb (length t) 35) Plain ≡ reading_of Text t
unfolding reading_of
text t = rw (bytes_are 1 35 t (omega arith))

-- a text, or any other that is no number, no account and no claim: as the code asks both at once
pub rest : (k : Class) (t : List ℕ) {n : ℕ} → code_by k ≡ n → claims n ≡ false → (n ≡ 2 → ⊥) → (n ≡ 3 → ⊥)
    → if_fits (not (eqb n 4) || (leb 1 (length t) && leb (length t) 35)) Plain ≡ reading_of k t
unfolding reading_of fits
rest Money t e c p q = absurd (true≢false (ap claims e ∙ c))
rest Number t e c p q = absurd (p (sym e))
rest Range t e c p q = absurd (true≢false (ap claims e ∙ c))
rest Group t e c p q = absurd (true≢false (ap claims e ∙ c))
rest Account t e c p q = absurd (q (sym e))
rest Text t e c p q = ap (λ (m : ℕ). if_fits (not (eqb m 4) || (leb 1 (length t) && leb (length t) 35)) Plain) (sym e) ∙ text t
rest Free t e c p q = ap (λ (m : ℕ). if_fits (not (eqb m 4) || (leb 1 (length t) && leb (length t) 35)) Plain) (sym e)

-- the text after the colon, as the code lends it
pub lent : (l : List ℕ) → take (length l - min (length l) 3) (drop (min (length l) 3) l) ≡ text_of l
unfolding text_of
lent l = take_all (length l - m) (drop m l) (rw (length-drop m l) (omega arith)) ∙ by_test (leb 3 (length l))
    (λ e. let k : m ≡ 3 = omega (arith, leb-true 3 (length l) e) in rw k)
    (λ e.
    let h = leb-false 3 (length l) e in
    drop_of_length-le l {i = m} (omega arith) ∙ sym (drop_of_length-le l {i = 3} (omega arith)))
  where
    m : ℕ
    m = min (length l) 3

-- what the code reads of it as of one class is what the line says as of another, where the two are one
pub read_as : (j k : Class) (l s : List ℕ) (r : Reading) → s ≡ text_of l → r ≡ reading_of j s → j ≡ k → r ≡ reading_of k (text_of l)
read_as j k l s r e p q = p ∙ rw (e, q)

-- a run of digits, taken alone, is a part of the open account check
alone : (lo h : ℕ) (s : List ℕ) → fits (num lo h ∷ []) (take (run is_digit h s) s) ≡ leb lo (run is_digit h s)
unfolding fits
alone lo h s =
    let l : length (take (run is_digit h s) s) ≡ run is_digit h s = length-take-le (run is_digit h s) s (run_length is_digit h s) in
    rw (run_again is_digit h s, empty_past (take (run is_digit h s) s) (run is_digit h s) (omega (arith, l)), and-true)

-- where a line's account fits, it says what its two halves are, and they are what the open check asks for
pub account_line : (t : List ℕ) → fits (layout_of Account).own t ≡ true
    → (reading_of Account t ≡ Party (halves_of (part 0 (layout_of Account).own t) (part 1 (layout_of Account).own t)))
    × (are_digits (part 0 (layout_of Account).own t) (part 1 (layout_of Account).own t) ≡ true)
unfolding reading_of
account_line t e =
    let a = (and_parts (tests 0 6 1 10 t) _ (sym (split Account 0 6 1 10 maybe_name t refl) ∙ e)).0 in
    let b = and_parts (leb 0 (run is_digit 6 t)) _ a in
    let c = and_parts (head_is 32 (drop (run is_digit 6 t) t)) _ b.1 in (
      rw e,
      rw (first_part Account 0 6 1 10 maybe_name t refl, second_part Account 0 6 1 10 maybe_name t refl, alone 0 6 t, alone 1 10 (drop (run is_digit 6 t + 1) t), b.0, c.1),
    )

-- where a line's account fits, the open check of its two parts refuses nothing and answers what the line says
pub line_check : (t : List ℕ) → fits (layout_of Account).own t ≡ true
    → (first (account_refusals (part 0 (layout_of Account).own t) (part 1 (layout_of Account).own t)) ≡ 0)
    × (h : Halves) × (account_of (part 0 (layout_of Account).own t) (part 1 (layout_of Account).own t) ≡ Ok h) × (reading_of Account t ≡ Party h)
unfolding account_of
line_check t e =
    let p = part 0 (layout_of Account).own t in
    let q = part 1 (layout_of Account).own t in
    let l = account_line t e in
    (rw l.1, halves_of p q, rw l.1, l.0)
