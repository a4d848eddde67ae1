-- Writing a heading, where it is written.
use mathlib.Core.Path.{◌≡◌, ap, ◌∙◌}
use mathlib.Core.Bool.{true}
use mathlib.Core.List.{List, ◌++◌}
use Prim.Native.Nat.{ℕ, ◌≤◌}
use native.Mathlib.Nat.{zero-add}
use lib.ListN.{length, drop}
use borrow.Author.Tests.{le-ltb}
use Rattle.laws.specs.Lists.{put}
use Rattle.laws.specs.Refusals.{first}
use Rattle.text.specs.Forms.{template}
use Rattle.text.specs.Strings.{Wrote}
use Rattle.text.proofs.Pieces.{text_length}
use Rattle.headings.specs.declared.Heading.{Heading}
use Rattle.headings.specs.Reading.{layout}
use Rattle.heading_writer.specs.Writing.{parts, fits_heading, heading_text, write_refusals, written_target}

pub text_size : (h : Heading) → length (heading_text h) ≡ 54
unfolding heading_text template
text_size h = text_length layout (parts h)

-- what a target holds whose start a heading was written to
pub at_start : (h : Heading) {before after : List ℕ} {end : ℕ} → Wrote before 0 (heading_text h) after end → after ≡ heading_text h ++ drop 54 before
unfolding put
at_start h {before} w = w.holds ∙ ap (λ (n : ℕ). heading_text h ++ drop n before) (zero-add (length (heading_text h)) ∙ text_size h)

-- where nothing is refused
pub done : (h : Heading) (t : List ℕ) → fits_heading h ≡ true → 54 ≤ length t
    → (0 ≡ first (write_refusals h (length t))) × (heading_text h ++ drop 54 t ≡ written_target h t)
unfolding written_target
done h t e l = (rw (e, le-ltb _ 54 l), rw (e, le-ltb _ 54 l))
