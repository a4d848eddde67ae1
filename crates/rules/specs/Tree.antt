-- A file as a tree: a heading or field owns the lines below it up to the next heading or field ('continuations belong to the nearest
-- heading or field above them, also past lines of no kind'), and an item is a heading and all up to the next heading. Built from the
-- right: what a line does to the tree of the lines below it.
use Rattle.std.specs.Prelude.{List, [], ◌∷◌}
use Rattle.rules.specs.Rows.{Row, FieldRow, LowRow, Sorted, heading, field, low}

-- a heading or field, with the lines that it owns
pub record Owned (A : Type 0) : Type 0 where
  pub owner : A
  pub below : List LowRow

pub record Item : Type 0 where
  pub head : Owned Row
  pub fields : List (Owned FieldRow)

-- top: what stands before the first heading or field; loose: the fields before the first heading
pub record File : Type 0 where
  pub top : List LowRow
  pub loose : List (Owned FieldRow)
  pub items : List Item

abbrev pub no_lines : File
no_lines = record { top = []; loose = []; items = [] }

-- the item of a heading above a file
abbrev pub item_of : Row → File → Item
item_of h f = record { head = record { owner = h; below = f.top }; fields = f.loose }

-- a line above a file
infixr 60 ◌▹◌
abbrev pub ◌▹◌ : Sorted → File → File
heading h ▹ f = record { top = []; loose = []; items = item_of h f ∷ f.items }
field x ▹ f = record { top = []; loose = record { owner = x; below = f.top } ∷ f.loose; items = f.items }
low l ▹ f = record { top = l ∷ f.top; loose = f.loose; items = f.items }

abbrev pub tree : List Sorted → File
tree [] = no_lines
tree (l ∷ ls) = l ▹ tree ls
