-- The statement of writing determines its answer and the target after it: two that meet it are equal.
use mathlib.Core.Path.{◌≡◌, refl, sym, ap, ◌∙◌}
use mathlib.Core.List.{List, [], ◌∷◌}
use Prim.Native.Nat.{ℕ, ◌-◌}
use lib.ListN.{get_or}
use Rattle.headings.specs.declared.Heading.{Heading}
use Rattle.std.specs.Prelude.{Result, Ok, Err}
use Rattle.heading_writer.specs.declared.WriteError.{WriteError}
use Rattle.heading_writer.specs.declared.WriteError.TheVariants.{TooLarge, TooShort}
use Rattle.heading_writer.specs.Writing.{written_number, Writes}

-- answers that their number gives back are as different as their numbers
pub same : {A : Type 0} (number : A → ℕ) (answer : ℕ → A) → ((a : A) → a ≡ answer (number a)) → (a b : A) → number a ≡ number b → a ≡ b
same number answer back a b e = back a ∙ ap answer e ∙ sym (back b)

abbrev written_by : ℕ → Result (Unit {0}) WriteError
written_by k = get_or (Ok tt ∷ Err TooShort ∷ Err TooLarge ∷ []) (k - 15) (Ok tt)

written_back : (w : Result (Unit {0}) WriteError) → w ≡ written_by (written_number w)
written_back (Ok done) = refl
written_back (Err TooLarge) = refl
written_back (Err TooShort) = refl

pub write_unique : (h : Heading) (t : List ℕ) {w w' : Result (Unit {0}) WriteError} {after after' : List ℕ} → Writes h t w after → Writes h t w' after' → (w ≡ w') × (after ≡ after')
write_unique h t {w} {w'} e f = (same written_number written_by written_back w w' (e.0 ∙ sym f.0), e.1 ∙ sym f.1)
