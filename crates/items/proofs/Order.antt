-- What the pass puts out is what is declared, for any list in which the order of two entries does not matter.
use mathlib.Core.Path.{◌≡◌, refl, sym, ap, ◌∙◌}
use mathlib.Core.Bool.{Bool, true, false, not, ◌&&◌, cond, and-false}
use mathlib.Core.Option.{none, some}
use mathlib.Core.List.{List, [], ◌∷◌, ◌++◌, map, append-nil, append_assoc}
use Rattle.rules.specs.Terms.{Terms}
use Rattle.rules.specs.Tests.{Spot}
use Rattle.rules.specs.Blocks.{empty, block_above}
use Rattle.rules.specs.Rows.{Sorted, heading, field, low}
use Rattle.rules.specs.Tree.{Item, File, no_lines, ◌▹◌, item_of, tree}
use Rattle.rules.specs.LineRules.{prelude, inside}
use Rattle.rules.specs.Said.{digest}
use Rattle.rules.specs.Spots.{low_spot, lows, field_spot, fields, inner, items, spots}
use Rattle.ledger.proofs.Entries.{put_all, put_all_append, past, swap, one}
use Rattle.items.proofs.Ideal.{head_spot_as, head_as, ends, fresh, none_ends, start, early, at_head, at_field, closed, item, push, waits_at, out_at, under, waits, heads_out, out, final, pending, heads, left, Pieces}

module _ (terms : Terms) where
  -- where the block has no item yet, nobody waits
  waits_none : (b : List Item) (z : Bool) → fresh b ≡ true → waits terms b z ≡ []
  waits_none [] z e = refl
  waits_none (i ∷ b) z e = go (ends i) e
    where
      go : (t : Bool) → empty (cond t [] (digest i ∷ block_above (map digest b))) ≡ true → waits_at t (fresh b) (waits terms b z) (head_spot_as terms z b i) ≡ []
      go true e = refl
      go false e = cc

  module _ {L : Type 0} (put : Spot → L → L) where
    -- the pass from what is open, over the lines that are left
    abbrev pub run : Pieces → L → List Sorted → L
    run c l [] = put_all put (final terms c) l
    run c l (x ∷ xs) = run (push c x) (put_all put (out terms c x) l) xs

    module _ (comm : (a b : Spot) (l : L) → put a (put b l) ≡ put b (put a l)) where
      -- v, then e, then bo: in whichever order
      around : (e : Spot) (v bo rest : List Spot) (l : L) → put_all put (v ++ (e ∷ (bo ++ rest))) l ≡ put_all put rest (put e (put_all put v (put_all put bo l)))
      around e v bo rest l =
          put_all_append put v (e ∷ (bo ++ rest)) l ∙ put_all_append put bo rest (put e (put_all put v l))
          ∙ ap (put_all put rest) (past put comm e bo (put_all put v l) ∙ ap (put e) (swap put comm bo v l))

      -- an item above others. t: it ends a block; e: it is the first of its block; z: no block ends below; w: who waits; bo: its other lines
      key : (t e z : Bool) (w : Bool → List Spot) (bo rest : List Spot) (h : Bool → Spot) (l : L) → (e ≡ true → w z ≡ [])
          → put_all put (w (not t && z) ++ (h (e && (not t && z)) ∷ (bo ++ rest))) l
          ≡ put_all put (bo ++ (out_at t e (w false) (h false) ++ (waits_at t e (w z) (h z) ++ rest))) l
      key true e z w bo rest h l n =
          rw (and-false e)
          (around (h false) (w false) bo rest l
          ∙ sym (put_all_append put bo _ l ∙ put_all_append put (w false ++ (h false ∷ [])) rest _ ∙ ap (put_all put rest) (put_all_append put (w false) (h false ∷ []) (put_all put bo l))))
      key false true z w bo rest h l n = rw (n refl) (one put comm (h z) bo rest l)
      key false false z w bo rest h l n =
          around (h false) (w z) bo rest l ∙ ap (put_all put rest) (sym (past put comm (h false) (w z) (put_all put bo l)))
          ∙ sym (put_all_append put bo (h false ∷ (w z ++ rest)) l ∙ put_all_append put (w z) rest (put (h false) (put_all put bo l)))

      headed : (b : List Item) (i : Item) (is : List Item) (l : L)
          → put_all put (pending terms b (i ∷ is)) l
          ≡ put_all put (lows inside i.head.below ++ (fields terms (some i.head) [] i.fields ++ heads terms b i is)) l
      headed b i is l =
          ap (λ (s : Spot). put_all put (waits terms b (none_ends (i ∷ is)) ++ (s ∷ (inner terms i ++ items terms (i ∷ b) is))) l) (head_as terms b i is)
          ∙ key (ends i) (fresh b) (none_ends is) (waits terms b) (inner terms i) (items terms (i ∷ b) is) (λ z. head_spot_as terms z b i) l
          (waits_none b (none_ends is))
          ∙ ap (λ (es : List Spot). put_all put es l) (append_assoc (lows inside i.head.below) _ _)

      -- an item closes, and another stands below it
      closes : (b : List Item) (i j : Item) (is : List Item) (l : L)
          → put_all put (heads terms b i (j ∷ is)) l
          ≡ put_all put (lows inside j.head.below ++ (fields terms (some j.head) [] j.fields ++ heads terms (i ∷ b) j is)) (put_all put (heads_out terms b i) l)
      closes b i j is l =
          put_all_append put (heads_out terms b i) (pending terms (i ∷ b) (j ∷ is)) l ∙ headed (i ∷ b) j is (put_all put (heads_out terms b i) l)

      -- one line: what was left is what it puts out and what is then left
      step : (c : Pieces) (x : Sorted) (f : File) (l : L)
          → put_all put (left terms c (x ▹ f)) l ≡ put_all put (left terms (push c x) f) (put_all put (out terms c x) l)
      step start (low y) f l = refl
      step start (field y) f l = simp append_assoc
      step start (heading k) f l = headed [] (item_of k f) f.items l
      step (early ups x ls) (low y) f l = cc (comm (low_spot prelude y) (field_spot terms none ups (under x (y ∷ ls) f)) l)
      step (early ups x ls) (field y) f l = simp append_assoc
      step (early ups x ls) (heading k) f l = headed [] (item_of k f) f.items (put (field_spot terms none ups (closed x ls)) l)
      step (at_head b h ls) (low y) f l = refl
      step (at_head b h ls) (field y) f l = simp append_assoc
      step (at_head b h ls) (heading k) f l = closes b (item (closed h ls) []) (item_of k f) f.items l
      step (at_field b h hl ups x ls) (low y) f l = cc (comm (low_spot inside y) (field_spot terms (some (closed h hl)) ups (under x (y ∷ ls) f)) l)
      step (at_field b h hl ups x ls) (field y) f l = simp append_assoc
      step (at_field b h hl ups x ls) (heading k) f l =
          closes b (item (closed h hl) (closed x ls ∷ ups)) (item_of k f) f.items (put (field_spot terms (some (closed h hl)) ups (closed x ls)) l)

      -- nothing below: what is left is what the end puts out
      last : (c : Pieces) → left terms c no_lines ≡ final terms c
      last start = refl
      last (early ups x ls) = refl
      last (at_head b h ls) = rw (append-nil (waits terms (item (closed h ls) [] ∷ b) true))
      last (at_field b h hl ups x ls) = rw (append-nil (waits terms (item (closed h hl) (closed x ls ∷ ups) ∷ b) true))

      whole : (c : Pieces) (l : L) (xs : List Sorted) → run c l xs ≡ put_all put (left terms c (tree xs)) l
      whole c l [] = rw last
      whole c l (x ∷ xs) = whole (push c x) (put_all put (out terms c x) l) xs ∙ sym (step c x (tree xs) l)

      pub emitted : (l : L) (xs : List Sorted) → run start l xs ≡ put_all put (spots terms (tree xs)) l
      emitted l xs = whole start l xs
