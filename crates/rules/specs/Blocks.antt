-- Blocks, over items as the rules at headings see them. The items above one are listed with the nearest first.
use Rattle.std.specs.Prelude.{ℕ, Bool, true, false, cond, not, ◌&&◌, List, [], ◌∷◌, eqb, None, Option, Some}
use Rattle.headings.specs.declared.Heading.{Heading}
use Rattle.headings.specs.ItemTypes.{is_closing, is_payment, group_of}
use Rattle.rules.specs.declared.First.{First}
use Rattle.rules.specs.declared.First.TheVariants.{Missing, Unread, Says}
use Rattle.rules.specs.declared.Payment.{Payment}
use Rattle.rules.specs.declared.Digest.{Digest}

abbrev pub empty : {A : Type 0} → List A → Bool
empty [] = true
empty (x ∷ xs) = false

-- of x and those above it, the one that stands first in the file
abbrev pub oldest : {A : Type 0} → A → List A → A
oldest x [] = x
oldest x (y ∷ ys) = oldest y ys

-- 'A block ends with each readable heading of type 51'
abbrev pub closes_at : Option Heading → Bool
closes_at (Some h) = is_closing h.kind
closes_at None = false

abbrev pub closes : Digest → Bool
closes i = closes_at i.head

abbrev pub none_closes : List Digest → Bool
none_closes [] = true
none_closes (i ∷ is) = not (closes i) && none_closes is

-- the items above that are in the same block: back to the nearest that closes one
abbrev pub block_above : List Digest → List Digest
block_above [] = []
block_above (i ∷ is) = cond (closes i) [] (i ∷ block_above is)

abbrev pub with_head : Option Heading → List Heading → List Heading
with_head (Some h) hs = h ∷ hs
with_head None hs = hs

-- the readable headings of some items
abbrev pub readable : List Digest → List Heading
readable [] = []
readable (i ∷ is) = with_head i.head (readable is)

-- the types among them that are input types other than 51
abbrev pub payments : List Heading → List ℕ
payments [] = []
payments (h ∷ hs) = cond (is_payment h.kind) (h.kind ∷ payments hs) (payments hs)

-- a readable heading of an input type other than 51 with tens digit d
abbrev pub in_group : ℕ → Option Heading → Bool
in_group d (Some h) = is_payment h.kind && eqb (group_of h.kind) d
in_group d None = false

abbrev pub with_amount : First Payment → Bool → List ℕ → List ℕ
with_amount Missing counted ns = ns
with_amount Unread counted ns = ns
with_amount (Says p) counted ns = cond counted (p.amount.0 ∷ ns) ns

-- the amounts of group d: of each of its items whose first KC reads. 'Every amount is added as it stands'
abbrev pub amounts : ℕ → List Digest → List ℕ
amounts d [] = []
amounts d (i ∷ is) = with_amount i.kc (in_group d i.head) (amounts d is)
