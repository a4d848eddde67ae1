-- Reading a heading (document 01, 'Layouts'; 000, 3.1): which texts are one, and what they say.
use Rattle.std.specs.Prelude.{ℕ, ◌≡◌, Bool, cond, not, List, [], ◌∷◌, get_or, None, Option, Some}
use Rattle.laws.specs.Ascii.{ascii}
use Rattle.laws.specs.Refusals.{Refusal, ◌if◌, first}
use Rattle.text.specs.Forms.{Piece, fixed, padded, template, has_form, numbers}
use Rattle.headings.specs.declared.Heading.{Heading}

-- 'HD: type 2, day 8, first code 7, input number 7, second code 7, output number 7, third code 7, all fixed: 54 bytes'
abbrev pub layout : List Piece
layout =
    fixed (ascii "HD:") ∷ padded 2 ∷ fixed (ascii " ") ∷ padded 8 ∷ fixed (ascii " ") ∷ padded 7 ∷ fixed (ascii " ") ∷ padded 7 ∷ fixed (ascii " ")
    ∷ padded 7 ∷ fixed (ascii " ") ∷ padded 7 ∷ fixed (ascii " ") ∷ padded 7 ∷ []

-- a heading of seven numbers in the order of the layout
abbrev pub heading_from : List ℕ → Heading
heading_from vs =
    record {
      kind = get_or vs 0 0;
      day = get_or vs 1 0;
      first = record { 0 = get_or vs 2 0 };
      number = record { 0 = get_or vs 3 0 };
      second = record { 0 = get_or vs 4 0 };
      output = record { 0 = get_or vs 5 0 };
      third = record { 0 = get_or vs 6 0 };
    }

abbrev pub is_heading : List ℕ → Bool
is_heading s = has_form (template layout) s

-- what reading a text gives
unfoldable pub heading_of : List ℕ → Option Heading
heading_of s = cond (is_heading s) (Some (heading_from (numbers layout s))) None

-- document 01's number for each answer
abbrev pub read_number : Option Heading → ℕ
read_number (Some h) = 0
read_number None = 11

-- '11: not 54 bytes in the heading layout'
abbrev pub read_refusals : List ℕ → List Refusal
read_refusals s = (11 if not (is_heading s)) ∷ []

-- what reading promises of its answer: document 01's number for it, and the heading that the text says
abbrev pub ReadsAs : List ℕ → Option Heading → Type 0
ReadsAs s r = (read_number r ≡ first (read_refusals s)) × (r ≡ heading_of s)
