-- Each line of a file has one spot, in line order.
use Prim.Native.Nat.{ℕ, zero, suc}
use native.Mathlib.Nat.{le_refl}
use mathlib.Core.Path.{◌≡◌, refl, ap, ◌∙◌}
use mathlib.Core.Option.{Option, none, some}
use mathlib.Core.List.{List, [], ◌∷◌, ◌++◌, map, append_assoc}
use lib.ListN.{length}
use Rattle.fields.specs.declared.kinds.Kind.{Kind}
use Rattle.fields.specs.declared.kinds.Kind.TheVariants.{Heading, Continuation, Field, Other}
use Rattle.fields.specs.Kinds.{kind_of}
use Rattle.lines.specs.Lines.{Line}
use Rattle.rules.specs.Terms.{Terms}
use Rattle.rules.specs.Rows.{Row, FieldRow, LowRow, Sorted, heading, field, low, sorted_as, sorted, rows_from}
use Rattle.rules.specs.Tree.{Owned, Item, File, ◌▹◌, item_of, tree}
use Rattle.rules.specs.Tests.{Spot}
use Rattle.rules.specs.LineRules.{Place, nowhere, prelude, inside}
use Rattle.rules.specs.Spots.{low_spot, lows, place_in, field_spot, fields, inner, items, spots}
use Rattle.rules.specs.Demand.{count_from}
use Rattle.rules.proofs.Rising.{Rising}

abbrev pub number : Sorted → ℕ
number (heading h) = h.no
number (field x) = x.row.no
number (low l) = l.row.no

abbrev pub numbers : List Spot → List ℕ
numbers es = map (λ (e : Spot). e.line) es

count_rises : (n k : ℕ) → Rising n (count_from n k)
count_rises n zero = tt
count_rises n (suc k) = (le_refl n, count_rises (suc n) k)

numbers_append : (xs ys : List Spot) → numbers (xs ++ ys) ≡ numbers xs ++ numbers ys
numbers_append [] ys = refl
numbers_append (x ∷ xs) ys = rw (numbers_append xs ys)

module _ (terms : Terms) where
  -- whatever stands above
  lows_numbers : (p q : Place) (ls : List LowRow) → numbers (lows p ls) ≡ numbers (lows q ls)
  unfolding low_spot
  lows_numbers p q [] = refl
  lows_numbers p q (l ∷ ls) = rw (lows_numbers p q ls)

  field_line : (h : Option (Owned Row)) (ups : List (Owned FieldRow)) (g : Owned FieldRow) → (field_spot terms h ups g).line ≡ g.owner.row.no
  unfolding field_spot
  field_line h ups g = refl

  fields_numbers : (h k : Option (Owned Row)) (ups vps gs : List (Owned FieldRow)) → numbers (fields terms h ups gs) ≡ numbers (fields terms k vps gs)
  fields_numbers h k ups vps [] = refl
  fields_numbers h k ups vps (g ∷ gs) =
      rw (field_line, field_line, numbers_append, numbers_append, lows_numbers (place_in h) (place_in k) g.below, fields_numbers h k (g ∷ ups) (g ∷ vps) gs)

  -- the numbers of items one after the other
  abbrev item_numbers : List Item → List ℕ
  item_numbers [] = []
  item_numbers (i ∷ is) = i.head.owner.no ∷ (numbers (inner terms i) ++ item_numbers is)

  items_numbers : (b is : List Item) → numbers (items terms b is) ≡ item_numbers is
  items_numbers b [] = refl
  items_numbers b (i ∷ is) = rw (numbers_append, items_numbers (i ∷ b) is)

  spots_numbers : (f : File) → numbers (spots terms f) ≡ numbers (lows prelude f.top) ++ (numbers (fields terms none [] f.loose) ++ item_numbers f.items)
  spots_numbers f = rw (numbers_append (lows nowhere f.top), lows_numbers nowhere prelude f.top, numbers_append (fields terms none [] f.loose), items_numbers)

  inner_numbers : (i : Item) → numbers (inner terms i) ≡ numbers (lows prelude i.head.below) ++ numbers (fields terms none [] i.fields)
  inner_numbers i =
      numbers_append (lows inside i.head.below) (fields terms (some i.head) [] i.fields)
      ∙ rw (lows_numbers inside prelude i.head.below, fields_numbers (some i.head) none [] [] i.fields)

  fields_cons : (g : Owned FieldRow) (gs : List (Owned FieldRow))
      → numbers (fields terms none [] (g ∷ gs)) ≡ g.owner.row.no ∷ (numbers (lows prelude g.below) ++ numbers (fields terms none [] gs))
  unfolding field_spot
  fields_cons g gs =
      ap {B = List ℕ} (λ r. g.owner.row.no ∷ r)
      (numbers_append (lows prelude g.below) (fields terms none (g ∷ []) gs) ∙ rw (fields_numbers none none (g ∷ []) [] gs))

  top_number : (x : Sorted) (f : File) → numbers (spots terms (x ▹ f)) ≡ number x ∷ numbers (spots terms f)
  unfolding low_spot field_spot
  top_number (low l) f = refl
  top_number (field x) f =
      rw (spots_numbers f)
      (spots_numbers (field x ▹ f) ∙ ap (λ (r : List ℕ). r ++ item_numbers f.items) (fields_cons (record { owner = x; below = f.top }) f.loose) ∙ rw append_assoc)
  top_number (heading h) f = rw (spots_numbers f) (spots_numbers (heading h ▹ f) ∙ rw (inner_numbers (item_of h f), append_assoc))

  tree_numbers : (xs : List Sorted) → numbers (spots terms (tree xs)) ≡ map number xs
  tree_numbers [] = refl
  tree_numbers (x ∷ xs) = top_number x (tree xs) ∙ rw (tree_numbers xs)

  -- each line has its own number
  sorted_number : (r : Row) → number (sorted r) ≡ r.no
  unfolding sorted
  sorted_number r = go (kind_of r.bytes)
    where
      go : (k : Kind) → number (sorted_as k r) ≡ r.no
      go Heading = refl
      go Continuation = refl
      go (Field i) = refl
      go Other = refl

  rows_count : (n : ℕ) (ls : List Line) → map number (rows_from n ls) ≡ count_from n (length ls)
  unfolding rows_from
  rows_count n [] = refl
  rows_count n (l ∷ ls) = λ i. sorted_number (record { no = n; bytes = l.bytes; ended = l.ended }) i ∷ rows_count (suc n) ls i

  -- the numbers of a file's spots are those of its lines
  pub every_number : (n : ℕ) (ls : List Line) → numbers (spots terms (tree (rows_from n ls))) ≡ count_from n (length ls)
  every_number n ls = tree_numbers (rows_from n ls) ∙ rows_count n ls

  pub lines_rise : (n : ℕ) (ls : List Line) → Rising n (numbers (spots terms (tree (rows_from n ls))))
  lines_rise n ls = rw (every_number n ls) (count_rises n (length ls))
