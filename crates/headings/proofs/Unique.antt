-- The statement of reading determines its answer: two that meet it are equal.
use mathlib.Core.Path.{◌≡◌, sym, ◌∙◌}
use mathlib.Core.List.{List}
use Prim.Native.Nat.{ℕ}
use Rattle.headings.specs.Reading.{ReadsAs}
use Rattle.headings.specs.declared.Heading.{Heading}
use Rattle.std.specs.Prelude.{Option}

pub read_unique : (s : List ℕ) {r r' : Option Heading} → ReadsAs s r → ReadsAs s r' → r ≡ r'
read_unique s e f = e.1 ∙ sym f.1
