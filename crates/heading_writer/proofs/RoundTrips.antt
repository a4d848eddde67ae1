-- Reading what was written gives the heading, and writing what was read gives the same bytes.
use mathlib.Core.Path.{◌≡◌, refl, ap, ◌∙◌, sym}
use mathlib.Core.Bool.{true}
use mathlib.Core.List.{List, ◌++◌}
use Prim.Native.Nat.{ℕ, ◌≤◌}
use lib.ListN.{length, take, drop}
use lib.Seq.{take_at}
use Rattle.text.specs.Forms.{numbers, numbers_fit, form_text}
use Rattle.text.proofs.Pieces.{text_numbers, fits_numbers, form_text_lem, numbers_text}
use Rattle.headings.specs.declared.Heading.{Heading}
use Rattle.headings.specs.Reading.{layout, heading_from, heading_of}
use Rattle.headings.proofs.Places.{form}
use Rattle.heading_writer.specs.Writing.{parts, fits_heading, heading_text, written_target}
use Rattle.heading_writer.proofs.Answers.{text_size, done}
use Rattle.std.specs.Prelude.{Some}

-- what was written and is read again is the same heading
pub read_written : (h : Heading) → fits_heading h ≡ true → heading_of (heading_text h) ≡ Some h
unfolding heading_of heading_text fits_heading
read_written h e = rw (form_text_lem layout (parts h) e, numbers_text layout (parts h) e)

-- the parts of a heading made of seven numbers are those numbers
back : (s : List ℕ) → parts (heading_from (numbers layout s)) ≡ numbers layout s
unfolding numbers
back s = refl

module _ (s : List ℕ) (h : Heading) (e : heading_of s ≡ Some h) where
  -- what was read and is written again is the same 54 bytes
  pub written_read : heading_text h ≡ s
  unfolding heading_text
  written_read =
      let f = form s h e in
      ap (λ (x : Heading). form_text layout (parts x)) (sym f.1) ∙ ap (form_text layout) (back s) ∙ text_numbers layout s refl f.0

  -- each part of a heading that was read fits its digits
  pub fits_read : fits_heading h ≡ true
  unfolding fits_heading
  fits_read =
      let f = form s h e in
      ap (λ (x : Heading). numbers_fit layout (parts x)) (sym f.1) ∙ ap (numbers_fit layout) (back s) ∙ fits_numbers layout s f.0

-- the same on targets
module _ (h : Heading) (t : List ℕ) (room : 54 ≤ length t) where
  pub read_target : fits_heading h ≡ true → heading_of (take 54 (written_target h t)) ≡ Some h
  read_target e = rw (← (done h t e room).1, take_at (heading_text h) (drop 54 t) 54 (text_size h)) (read_written h e)

  pub write_target : (s : List ℕ) → heading_of s ≡ Some h → written_target h t ≡ s ++ drop 54 t
  write_target s e = sym (done h t (fits_read s h e) room).1 ∙ ap (λ (x : List ℕ). x ++ drop 54 t) (written_read s h e)
