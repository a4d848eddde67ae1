-- The first line of a slice: a heading, and so the first item's; or another, which bars all.
use Prim.Native.Nat.{ℕ, ◌<◌}
use mathlib.Core.Path.{◌≡◌, refl, sym, ap, subst, ◌∙◌}
use mathlib.Core.Bool.{Bool, true, false, cond, not, ◌||◌, true≢false}
use mathlib.Core.Option.{none}
use mathlib.Core.List.{List, [], ◌∷◌, ◌++◌}
use lib.ListN.{length, drop}
use Rattle.laws.specs.Lists.{any_of}
use Rattle.lines.specs.Lines.{Line, lines}
use Rattle.lines.specs.Reading.{line_at, span}
use Rattle.lines.proofs.Reading.{is_next}
use Rattle.headings.specs.declared.Heading.{Heading}
use Rattle.headings.specs.Reading.{heading_of}
use Rattle.headings.specs.ItemTypes.{is_priority}
use Rattle.fields.specs.declared.kinds.Kind.{Kind}
use Rattle.fields.specs.declared.kinds.Kind.TheVariants.{Heading as HeadingKind, Continuation, Field, Other}
use Rattle.fields.specs.Kinds.{kind_of}
use Rattle.rules.specs.Terms.{Terms}
use Rattle.rules.specs.Tests.{◌if◌, broken_of}
use Rattle.rules.specs.Rows.{Row, LowRow, FieldRow, field, low, sorted_as, sorted, rows_from}
use Rattle.rules.specs.Tree.{Item, File, item_of, ◌▹◌, tree}
use Rattle.rules.specs.LineRules.{nowhere, prelude, rule1, rule4}
use Rattle.rules.specs.Spots.{low_tests, loose_tests, low_spot, lows, field_spot, fields, items, spots, spots_in}
use Rattle.item_reader.specs.Slips.{Headed}
use Rattle.vetting.specs.Vetting.{bars, any_barred}
use Rattle.outgoing_lines.specs.Outgoing.{Orders}
use Rattle.surveying.specs.declared.Lead.{Lead}
use Rattle.surveying.specs.declared.Way.{Way}
use Rattle.surveying.specs.Items.{items_of, type_in, is_alone, out_kind, goes_to}
use Rattle.surveying.specs.Model.{way_of, Asks, Leads, LeadsIf, items_barred}
use Rattle.surveying.proofs.Ways.{way_none, way_some, unread_refused, refused_by, kind_by, to_by}
use Rattle.surveying.proofs.Barring.{items_barred_lem}
use Rattle.std.specs.Prelude.{None, Option, Some, unwrap_or}

-- what is said of the first item where something is, said of it anyhow
pub lead_anyhow : (q : Orders) (is : List Item) (r : Option Lead) (l : Lead) → LeadsIf q is r → Leads q is (unwrap_or r l)
lead_anyhow q [] r l f = f
lead_anyhow q (i ∷ is) None l f = λ e. absurd (true≢false (sym f ∙ e))
lead_anyhow q (i ∷ is) (Some x) l f = λ e. (f.1, f.2, f.3)

module _ (s : List ℕ) (l : 0 < length s) where
  abbrev text : List ℕ
  text = span 0 (line_at s 0).end s

  abbrev below : File
  below = tree (rows_from 2 (lines (drop (line_at s 0).next s)))

  abbrev row : Row
  row = record { no = 1; bytes = text; ended = (line_at s 0).ended }

  tree_is : (k : Kind) → kind_of text ≡ k → tree (rows_from 1 (lines s)) ≡ sorted_as k row ▹ below
  unfolding rows_from sorted
  tree_is k e = ap (λ (ls : List Line). tree (rows_from 1 ls)) (is_next s 0 (line_at s 0) refl l).cut ∙ ap (λ (q : Kind). sorted_as q row ▹ below) e

  -- ---- a heading
  module _ (h : Headed s 0) where
    pub first_item : items_of s ≡ item_of row below ∷ below.items
    unfolding items_of
    first_item = ap (λ (f : File). f.items) (tree_is HeadingKind h)

    pub headed_barred : (terms : Terms) → any_barred (spots_in terms s) ≡ items_barred terms (items_of s)
    unfolding items_of
    headed_barred terms =
        let t = tree_is HeadingKind h in
        ap (λ (f : File). any_barred (spots terms f)) t ∙ items_barred_lem terms [] (item_of row below ∷ below.items) ∙ sym (ap (λ (f : File). items_barred terms f.items) t)

    -- what the first item says is asked only where deriving does not refuse it
    module _ (q : Orders) {o p n : ℕ} (A : Asks q 0 o p n) where
      abbrev item : Item
      item = item_of row below

      leads_by : (lead : Option Lead) → LeadsIf q (item ∷ below.items) lead → LeadsIf q (items_of s) lead
      leads_by lead f = subst (λ (is : List Item). LeadsIf q is lead) (sym first_item) f

      pub lead_unread : heading_of text ≡ None → LeadsIf q (items_of s) None
      lead_unread e = leads_by None (unread_refused q 0 text e)

      module _ (g : Heading) (e : heading_of text ≡ Some g) where
        pub lead_refused : way_of g o p n ≡ None → LeadsIf q (items_of s) None
        lead_refused w = leads_by None (refused_by q 0 A text g e ∙ ap not (way_none g o p n w))

        pub lead_goes : (way : Way) → way_of g o p n ≡ Some way → LeadsIf q (items_of s) (Some (record { to = way.to; priority = is_priority g.kind; alone = is_alone way.kind }))
        unfolding out_kind goes_to
        lead_goes way w =
            let x = way_some g o p n way w in
            leads_by _ (
              refused_by q 0 A text g e ∙ ap not x.0,
              ap (λ (y : Way). y.to) x.1 ∙ sym (to_by q 0 A text g e),
              ap (λ (r : Option Heading). is_priority (type_in r)) (sym e),
              ap is_alone (ap (λ (y : Way). y.kind) x.1 ∙ sym (kind_by q 0 A text g e)),
            )

  -- ---- any other line breaks rule 3
  module _ (terms : Terms) where
    low_bars : (x : LowRow) (f : File) → any_barred (spots terms (low x ▹ f)) ≡ true
    unfolding any_barred low_spot low_tests any_of
    low_bars x f = by (rule1 x.row)
      where
        rest : List ℕ
        rest = broken_of ((4 if rule4 x.row) ∷ [])

        more : Bool
        more = any_barred (lows nowhere f.top ++ (fields terms none [] f.loose ++ items terms [] f.items))

        by : (b : Bool) → (any_of bars (cond b (1 ∷ 2 ∷ 3 ∷ rest) (2 ∷ 3 ∷ rest)) || more) ≡ true
        by true = refl
        by false = refl

    field_bars : (x : FieldRow) (f : File) → any_barred (spots terms (field x ▹ f)) ≡ true
    unfolding any_barred field_spot loose_tests any_of
    field_bars x f = by (rule1 x.row)
      where
        rest : List ℕ
        rest = broken_of ((4 if rule4 x.row) ∷ [])

        more : Bool
        more = any_barred ((lows prelude f.top ++ fields terms none (record { owner = x; below = f.top } ∷ []) f.loose) ++ items terms [] f.items)

        by : (b : Bool) → (any_of bars (cond b (1 ∷ 3 ∷ rest) (3 ∷ rest)) || more) ≡ true
        by true = refl
        by false = refl

    pub unheaded_barred : (kind_of text ≡ HeadingKind → ⊥) → any_barred (spots_in terms s) ≡ true
    unheaded_barred h = go (kind_of text) refl
      where
        go : (k : Kind) → kind_of text ≡ k → any_barred (spots_in terms s) ≡ true
        go HeadingKind e = absurd (h e)
        go Continuation e = ap (λ (f : File). any_barred (spots terms f)) (tree_is Continuation e) ∙ low_bars (record { row = row; continues = true }) below
        go (Field i) e = ap (λ (f : File). any_barred (spots terms f)) (tree_is (Field i) e) ∙ field_bars (record { row = row; ident = i }) below
        go Other e = ap (λ (f : File). any_barred (spots terms f)) (tree_is Other e) ∙ low_bars (record { row = row; continues = false }) below
