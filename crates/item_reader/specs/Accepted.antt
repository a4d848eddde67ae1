-- What holds of each item of a file without faults, by its terms: so that no job which uses a file's
-- items leaves one out because it does not read.
use Rattle.std.specs.Prelude.{ℕ, ◌≡◌, true, false, List, [], ◌∷◌, Some}
use Rattle.text.specs.Digits.{value}
use Rattle.words.specs.Words.{bytes_of}
use Rattle.headings.specs.declared.Heading.{Heading}
use Rattle.headings.specs.declared.Amount.{Amount}
use Rattle.headings.specs.ItemTypes.{is_payment}
use Rattle.headings.specs.HeadRules.{rule10, rule13, rule14}
use Rattle.rules.specs.declared.First.TheVariants.{Says}
use Rattle.rules.specs.Terms.{Terms}
use Rattle.rules.specs.HeadingRules.{rule11}
use Rattle.item_reader.specs.declared.Slip.{Slip}
use Rattle.item_reader.specs.declared.Numbered.{Numbered}
use Rattle.item_reader.specs.Slips.{IsHead}

-- its heading reads and keeps 10 to 14, and a payment's first KC reads
pub record Fine (terms : Terms) (s : Slip) : Type 0 where
  pub heading : Heading
  pub reads : s.head ≡ Some heading
  pub kind : rule10 heading ≡ false
  pub day : rule11 terms heading ≡ false
  pub own : heading.first.0 ≡ terms.code.0
  pub number : rule13 heading ≡ false
  pub codes : rule14 heading ≡ false
  pub paid : is_payment heading.kind ≡ true → (a : Amount) × (d : ℕ) × (s.kc ≡ Says (record { amount = a; day = d }))

abbrev pub Each : (Slip → Type 0) → List Slip → Type 0
Each P [] = Unit {0}
Each P (s ∷ ss) = P s × Each P ss

-- its heading reads
abbrev pub Readable : Slip → Type 0
Readable s = (h : Heading) × (s.head ≡ Some h)

-- the day and the number that the heading at a place says, where it is known to read, bytes that stand for that day, and the place of the
-- next
pub record IsNumbered (s : List ℕ) (at : ℕ) (r : Numbered) : Type 0 where
  pub heading : Heading
  pub head : IsHead s at (record { head = Some heading; next = r.next })
  pub day : r.day ≡ heading.day
  pub number : r.number ≡ heading.number.0
  pub word : value (bytes_of 8 r.word) ≡ r.day
