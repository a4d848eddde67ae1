-- Writing a heading: its 54 bytes, and what a target holds after.
use Rattle.std.specs.Prelude.{ℕ, ◌≡◌, Bool, cond, not, List, [], ◌∷◌, ◌++◌, length, drop, eqb, ltb, Result, Ok, Err}
use Rattle.laws.specs.Refusals.{Refusal, ◌if◌, first}
use Rattle.text.specs.Forms.{numbers_fit, form_text}
use Rattle.headings.specs.declared.Heading.{Heading}
use Rattle.heading_writer.specs.declared.WriteError.{WriteError}
use Rattle.heading_writer.specs.declared.WriteError.TheVariants.{TooLarge, TooShort}
use Rattle.headings.specs.Reading.{layout}

-- a heading's seven numbers in the order of the layout
abbrev pub parts : Heading → List ℕ
parts h =
    h.kind ∷ h.day ∷ h.first.0 ∷ h.number.0 ∷ h.second.0 ∷ h.output.0 ∷ h.third.0 ∷ []

-- each part fits its digits
unfoldable pub fits_heading : Heading → Bool
fits_heading h = numbers_fit layout (parts h)

unfoldable pub heading_text : Heading → List ℕ
heading_text h = form_text layout (parts h)

-- 'A refusal changes no lent byte. A longer target keeps its bytes after the 54th.'
-- What a target holds after a job that refuses with a number, or with 0 and then writes 54 bytes
abbrev pub target_after : ℕ → List ℕ → List ℕ → List ℕ
target_after refusal text target = cond (eqb refusal 0) (text ++ drop 54 target) target

-- document 01's number for each refusal
abbrev pub refusal_number : WriteError → ℕ
refusal_number TooLarge = 17
refusal_number TooShort = 16

-- and for each answer
abbrev pub written_number : Result (Unit {0}) WriteError → ℕ
written_number (Ok done) = 0
written_number (Err e) = refusal_number e

-- '16: target under 54 bytes', '17: a value too large for its digits', 'writing tests 17 before 16'
abbrev pub write_refusals : Heading → ℕ → List Refusal
write_refusals h room = (17 if not (fits_heading h)) ∷ (16 if ltb room 54) ∷ []

-- the target after writing
unfoldable pub written_target : Heading → List ℕ → List ℕ
written_target h target = target_after (first (write_refusals h (length target))) (heading_text h) target

-- what writing promises of its answer, and of the target after it
abbrev pub Writes : Heading → List ℕ → Result (Unit {0}) WriteError → List ℕ → Type 0
Writes h target w after = (written_number w ≡ first (write_refusals h (length target))) × (after ≡ written_target h target)
