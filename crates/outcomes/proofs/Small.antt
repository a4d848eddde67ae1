-- A heading fits its digits just where each part is below its power of ten.
use mathlib.Core.Path.{◌≡◌}
use mathlib.Core.Bool.{Bool, true}
use mathlib.Core.List.{List, [], ◌∷◌}
use Prim.Native.Nat.{ℕ, ◌<◌}
use lib.ListN.{get_or}
use lib.Dec.{ltb}
use borrow.Author.Tests.{lt-ltb, ltb-true}
use Rattle.laws.proofs.Every.{each_holds}
use Rattle.text.specs.Forms.{numbers_fit}
use Rattle.headings.specs.declared.Heading.{Heading}
use Rattle.heading_writer.specs.Writing.{fits_heading}

pub record Small (h : Heading) : Type 0 where
  pub kind : h.kind < 100
  pub day : h.day < 100000000
  pub first : h.first.0 < 10000000
  pub number : h.number.0 < 10000000
  pub second : h.second.0 < 10000000
  pub output : h.output.0 < 10000000
  pub third : h.third.0 < 10000000

abbrev tests : Heading → List Bool
tests h =
    ltb h.kind 100 ∷ ltb h.day 100000000 ∷ ltb h.first.0 10000000 ∷ ltb h.number.0 10000000 ∷ ltb h.second.0 10000000
    ∷ ltb h.output.0 10000000 ∷ ltb h.third.0 10000000 ∷ []

holds : (h : Heading) → fits_heading h ≡ true → (k : ℕ) → get_or (tests h) k true ≡ true
unfolding fits_heading numbers_fit
holds h e k = each_holds (tests h) e k

pub small : (h : Heading) → fits_heading h ≡ true → Small h
small h e = record {
  kind = ltb-true h.kind 100 (holds h e 0);
  day = ltb-true h.day 100000000 (holds h e 1);
  first = ltb-true h.first.0 10000000 (holds h e 2);
  number = ltb-true h.number.0 10000000 (holds h e 3);
  second = ltb-true h.second.0 10000000 (holds h e 4);
  output = ltb-true h.output.0 10000000 (holds h e 5);
  third = ltb-true h.third.0 10000000 (holds h e 6);
}

pub fits_small : (h : Heading) → Small h → fits_heading h ≡ true
unfolding fits_heading numbers_fit
fits_small h w =
    rw (lt-ltb h.kind 100 w.kind, lt-ltb h.day 100000000 w.day, lt-ltb h.first.0 10000000 w.first, lt-ltb h.number.0 10000000 w.number, lt-ltb h.second.0 10000000 w.second, lt-ltb h.output.0 10000000 w.output, lt-ltb h.third.0 10000000 w.third)
