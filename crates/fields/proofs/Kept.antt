-- What is kept of a tail says all that the statement asks of it.
use mathlib.Core.Path.{◌≡◌, refl, ◌∙◌, sym}
use mathlib.Core.Bool.{Bool, true, false, not, ◌&&◌}
use mathlib.Core.List.{List, ◌∷◌}
use Prim.Native.Nat.{ℕ, ◌-◌, ◌≤◌, ◌<◌, zero-le, min}
use native.Mathlib.Omega.{arith}
use lib.ListN.{length, drop, length-drop}
use lib.Dec.{leb, eqb, leb-zero}
use borrow.Author.Tests.{le-leb, lt-leb, leb-true, leb-false, eq-eqb, ne_eqb, eqb-true, eqb-false}
use Rattle.laws.proofs.Truth.{by_test}
use Rattle.fields.specs.declared.classes.Class.{Class}
use Rattle.fields.specs.declared.classes.Class.TheVariants.{Money, Number, Range, Group, Account, Text, Free}
use Rattle.figures.specs.Layouts.{bytes, no_more, fits, part}
use Rattle.fields.specs.Readings.{text_of, layout_of, said_by, if_fits, reading_of}
use Rattle.fields.specs.Tails.{all_fit, takes, reads, says_of, is_broken}
use Rattle.fields.specs.Kept.{Tail, tail_of, more_tail, takes_by}
use Rattle.figures.proofs.Endings.{bytes_are}

-- two comparisons that hold and fail together
same_leb : (a b c d : ℕ) → (a ≤ b → c ≤ d) → (b < a → d < c) → leb a b ≡ leb c d
same_leb a b c d f g = by_test (leb a b)
    (λ e. e ∙ sym (le-leb c d (f (leb-true a b e))))
    (λ e. e ∙ sym (lt-leb c d (g (leb-false a b e))))

-- a continuation fits by the length of its line
pub line_fits : (l : List ℕ) → fits (bytes 0 35 ∷ no_more) (text_of l) ≡ leb (length l) 38
unfolding text_of
line_fits l =
    bytes_are 0 35 (drop 3 l) zero-le
    ∙ rw (leb-zero (length (drop 3 l)), length-drop 3 l) (same_leb (length l - 3) 35 (length l) 38 (λ h. omega arith) (λ h. omega arith))

pub same_tail : {a b : ℕ} {p q : Bool} → a ≡ b → p ≡ q → ◌≡◌ {A = Tail} (record { count = a; short = p }) (record { count = b; short = q })
same_tail x y = rw (x, y)

-- one continuation more
pub tail_more : (l : List ℕ) (ls : List (List ℕ)) → more_tail (tail_of ls) (length l) ≡ tail_of (l ∷ ls)
unfolding tail_of all_fit
tail_more l ls = same_tail (omega arith) (rw (line_fits l))

none_kept : (n : ℕ) → eqb (min 4 n) 0 ≡ eqb n 0
none_kept n = by_test (eqb n 0)
    (λ e. eq-eqb (min 4 n) 0 (omega (arith, eqb-true n 0 e)) ∙ sym e)
    (λ e. ne_eqb (min 4 n) 0 (λ z. eqb-false n 0 e (omega arith)) ∙ sym e)

three_kept : (n : ℕ) → leb (min 4 n) 3 ≡ leb n 3
three_kept n = same_leb (min 4 n) 3 n 3 (λ h. omega arith) (λ h. omega arith)

-- what is kept decides
pub takes_tail : (k : Class) (ls : List (List ℕ)) → takes_by k (tail_of ls) ≡ takes (layout_of k).more ls
unfolding takes tail_of
takes_tail Money ls = refl
takes_tail Number ls = none_kept (length ls)
takes_tail Range ls = none_kept (length ls)
takes_tail Group ls = none_kept (length ls)
takes_tail Account ls = none_kept (length ls)
takes_tail Text ls = rw (three_kept (length ls))
takes_tail Free ls = refl

-- so the answer with the tail is what the field says
pub says : (k : Class) (l : List ℕ) (ls : List (List ℕ)) → if_fits (takes_by k (tail_of ls)) (reading_of k (text_of l)) ≡ says_of k l ls
unfolding says_of
says k l ls = rw (takes_tail k ls)

-- and that is `Broken` just where the field does not read
whole : (k : Class) (p q : List ℕ) → is_broken (said_by k p q) ≡ false
whole Money p q = refl
whole Number p q = refl
whole Range p q = refl
whole Group p q = refl
whole Account p q = refl
whole Text p q = refl
whole Free p q = refl

pub broken : (k : Class) (l : List ℕ) (ls : List (List ℕ)) → is_broken (says_of k l ls) ≡ not (reads k l ls)
unfolding says_of reads reading_of
broken k l ls = go (takes (layout_of k).more ls) (fits (layout_of k).own (text_of l))
  where
    go : (a b : Bool) → is_broken (if_fits a (if_fits b (said_by k (part 0 (layout_of k).own (text_of l)) (part 1 (layout_of k).own (text_of l))))) ≡ not (b && a)
    go true true = whole k (part 0 (layout_of k).own (text_of l)) (part 1 (layout_of k).own (text_of l))
    go true false = refl
    go false true = refl
    go false false = refl
