-- A line may be judged by any text that has its short form.
use mathlib.Core.Path.{◌≡◌, refl, sym, ap, ◌∙◌}
use mathlib.Core.Bool.{Bool, true, false, ◌&&◌, ◌||◌}
use mathlib.Core.List.{List, [], ◌∷◌}
use Prim.Native.Nat.{ℕ, ◌+◌}
use native.Mathlib.Omega.{arith}
use lib.Dec.{eqb, ltb}
use lib.ListN.{length}
use Rattle.laws.specs.Lists.{any_of}
use Rattle.text.specs.Characters.{is_inadmissible}
use Rattle.headings.specs.Reading.{heading_of}
use Rattle.fields.specs.Kinds.{kind_of}
use Rattle.fields.specs.Readings.{text_of, reading_of}
use Rattle.lines.specs.Lines.{Line, taken_by}
use Rattle.judging.specs.declared.opening.Open.{Open}
use Rattle.judging.specs.Opening.{broken_by, more_open}
use Rattle.pass.specs.Standing.{Alike, InPlace}
use Rattle.joining.specs.Short.{short}
use Rattle.joining.proofs.Cutting.{alone}
use Rattle.joining.proofs.Short.{length_short}
use Rattle.joining.proofs.Unseen.{kind_short, reading_short, heading_short, inadmissible_short, longer_short}

module _ (l m : List ℕ) (h : short l ≡ short m) where
  long_like : (o : Open) → more_open o (length l) ≡ more_open o (length m)
  long_like o =
      ap (λ (t : Bool). record {
        no = o.no;
        marks = broken_by (((eqb o.class 2 || eqb o.class 3) || (eqb o.class 5 || eqb o.class 6)) || (eqb o.class 4 && (ltb 3 (o.tail + 1) || t))) o.marks;
        class = o.class;
        tail = o.tail + 1;
      })
      (sym (longer_short 38 l (omega arith)) ∙ ap (λ (s : List ℕ). ltb 38 (length s)) h ∙ longer_short 38 m (omega arith))

  pub short_alike : (e : Bool) → Alike (record { bytes = l; ended = e }) (record { bytes = m; ended = e })
  short_alike e = record {
    ended = refl;
    kind = sym (kind_short l) ∙ ap kind_of h ∙ kind_short m;
    head = sym (heading_short l) ∙ ap heading_of h ∙ heading_short m;
    says = λ c. sym (reading_short c l) ∙ ap (λ (s : List ℕ). reading_of c (text_of s)) h ∙ reading_short c m;
    clean = sym (inadmissible_short l) ∙ ap (any_of is_inadmissible) h ∙ inadmissible_short m;
    long = long_like;
  }

  -- one line, ended
  pub one_alike : (base : ℕ) (past : List Line) → taken_by past ≡ base → InPlace base past (record { bytes = l; ended = true } ∷ []) (record { bytes = m; ended = true } ∷ [])
  one_alike base past e = (short_alike true, e, tt)

-- a last line that is not ended, or none
pub alone_alike : (l m : List ℕ) → short l ≡ short m → (base : ℕ) (past : List Line) → taken_by past ≡ base → InPlace base past (alone l) (alone m)
alone_alike [] [] h base past e = tt
alone_alike [] (b ∷ m) h base past e = absurd (omega (arith, ap length h, length_short [], length_short (b ∷ m)))
alone_alike (a ∷ l) [] h base past e = absurd (omega (arith, ap length h, length_short (a ∷ l), length_short []))
alone_alike (a ∷ l) (b ∷ m) h base past e = (short_alike (a ∷ l) (b ∷ m) h false, e, tt)
