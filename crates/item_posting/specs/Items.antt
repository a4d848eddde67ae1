-- Posting the items of a file (document 02, A1): the refusals that look at them, and the sheet after.
use Rattle.std.specs.Prelude.{ℕ, ◌≡◌, ⊤, cond, not, List, [], ◌∷◌, eqb, ℤ, Option, Result, Ok, Err}
use Rattle.laws.specs.Refusals.{Refusal, ◌if◌, first}
use Rattle.listing.specs.Checking.{unchecked_number}
use Rattle.turnovers.specs.declared.Move.{Move}
use Rattle.booking.specs.Sheet.{all_are_listed, some_passes, after}
use Rattle.item_posting.specs.declared.PostError.{PostError}
use Rattle.item_posting.specs.declared.PostError.TheVariants.{BadList, Refused, HasFaults, NotListed, TooLarge}

-- '21, payer or beneficiary of a posted item isn't listed; 22, a turnover would pass 10^17 - 1 either way after any item'
abbrev pub item_refusals : List ℕ → List ℤ → List (Option Move) → List Refusal
item_refusals codes sheet ps = (21 if not (all_are_listed codes ps)) ∷ (22 if some_passes codes sheet ps) ∷ []

-- document 02's number for each refusal, and for each answer
abbrev pub unposted_number : PostError → ℕ
unposted_number BadList = 19
unposted_number (Refused u) = unchecked_number u
unposted_number HasFaults = 20
unposted_number NotListed = 21
unposted_number TooLarge = 22

abbrev pub posted_number : Result ⊤ PostError → ℕ
posted_number (Ok done) = 0
posted_number (Err e) = unposted_number e

-- the part of posting that looks at the items
abbrev pub items_posted : List ℕ → List ℤ → List (Option Move) → List ℤ
items_posted codes sheet ps = cond (eqb (first (item_refusals codes sheet ps)) 0) (after codes sheet ps) sheet

pub record PostsItems (codes : List ℕ) (ts₀ : List ℤ) (ps : List (Option Move)) (r : Result ⊤ PostError) (ts : List ℤ) : Type 0 where
  pub number : posted_number r ≡ first (item_refusals codes ts₀ ps)
  pub sheet : ts ≡ items_posted codes ts₀ ps
