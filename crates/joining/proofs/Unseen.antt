-- What is asked of a line gives the same answer for its short form.
use mathlib.Core.Path.{◌≡◌, refl, sym, ap, ◌∙◌}
use mathlib.Core.Bool.{false}
use mathlib.Core.List.{List}
use Prim.Native.Nat.{ℕ, ◌<◌, ◌≤◌}
use native.Mathlib.Omega.{arith}
use lib.Dec.{ltb, leb}
use lib.ListN.{length}
use borrow.Author.Tests.{leb-true, leb-false, lt-ltb, le-ltb}
use Rattle.laws.proofs.Truth.{never_true, by_test}
use Rattle.laws.specs.Lists.{any_of}
use Rattle.text.specs.Characters.{is_inadmissible}
use Rattle.text.specs.Forms.{template}
use Rattle.text.proofs.Pieces.{form_length}
use Rattle.headings.specs.Reading.{layout, is_heading, heading_of}
use Rattle.fields.specs.declared.classes.Class.{Class}
use Rattle.fields.specs.Kinds.{kind_of}
use Rattle.fields.specs.Readings.{text_of, reading_of}
use Rattle.fields.proofs.Reach.{first_64}
use Rattle.joining.specs.Short.{short}
use Rattle.joining.proofs.Short.{short_self, length_short, take_to, bad_to}

-- its kind
pub kind_short : (l : List ℕ) → kind_of (short l) ≡ kind_of l
kind_short l = sym (first_64 (short l)).0 ∙ ap kind_of (take_to 64 l) ∙ (first_64 l).0

-- what it says as a field
pub reading_short : (c : Class) (l : List ℕ) → reading_of c (text_of (short l)) ≡ reading_of c (text_of l)
reading_short c l = sym ((first_64 (short l)).1 c) ∙ ap (λ (s : List ℕ). reading_of c (text_of s)) (take_to 64 l) ∙ (first_64 l).1 c

-- what it says as a heading: no longer line is one
long : length (template layout) ≡ 54
unfolding template
long = refl

not_heading : (l : List ℕ) → 54 < length l → is_heading l ≡ false
not_heading l h = never_true (is_heading l) (λ e. omega (arith, long, form_length (template layout) l e))

pub heading_short : (l : List ℕ) → heading_of (short l) ≡ heading_of l
unfolding heading_of
heading_short l = by_test (leb (length l) 64)
    (λ e. ap heading_of (short_self 64 l (leb-true (length l) 64 e)))
    (λ e.
    let h : 64 < length l = leb-false (length l) 64 e in
    rw (not_heading l (omega arith), not_heading (short l) (omega (arith, length_short l))))

-- whether it holds an inadmissible byte (rule 1)
pub inadmissible_short : (l : List ℕ) → any_of is_inadmissible (short l) ≡ any_of is_inadmissible l
inadmissible_short l = bad_to 64 l

-- whether it is longer than a number of bytes up to 64
pub longer_short : (k : ℕ) (l : List ℕ) → k ≤ 64 → ltb k (length (short l)) ≡ ltb k (length l)
longer_short k l h = by_test (leb (length l) k)
    (λ e.
    let f : length l ≤ k = leb-true (length l) k e in
    le-ltb k (length (short l)) (omega (arith, length_short l)) ∙ sym (le-ltb k (length l) f))
    (λ e.
    let f : k < length l = leb-false (length l) k e in
    lt-ltb k (length (short l)) (omega (arith, length_short l)) ∙ sym (lt-ltb k (length l) f))
