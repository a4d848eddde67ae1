-- The lines of a closing item as fields, which have nothing below them: what the first of a kind says is what was written, and of an empty group
-- nothing is said.
use mathlib.Core.Path.{◌≡◌, refl, sym, ap, ◌∙◌}
use mathlib.Core.Bool.{Bool, true, false, cond}
use mathlib.Core.Option.{Option, none, some}
use mathlib.Core.List.{List, [], ◌∷◌, ◌++◌, reverse_aux}
use Prim.Native.Nat.{ℕ, zero, suc, ◌+◌, ◌≤◌, ◌<◌}
use native.Mathlib.Nat.{add-zero, add-suc, suc-add, zero-add}
use native.Mathlib.Omega.{arith}
use lib.Dec.{eqb}
use lib.ListN.{length, get_or}
use borrow.Author.Tests.{eq-eqb, ne_eqb}
use Rattle.laws.proofs.Truth.{by_test}
use Rattle.fields.specs.declared.kinds.Kind.{Kind}
use Rattle.fields.specs.declared.kinds.Kind.TheVariants.{Field}
use Rattle.fields.specs.declared.readings.Reading.{Reading}
use Rattle.fields.specs.declared.readings.Reading.TheVariants.{Span, Stated}
use Rattle.fields.specs.Kinds.{ident_of, named, place, kind_of}
use Rattle.fields.specs.Classes.{class_of, sum_group}
use Rattle.fields.specs.Tails.{says_of}
use Rattle.fields.proofs.LineKinds.{field_is}
use Rattle.lines.specs.Texts.{ended_lines}
use Rattle.rules.specs.Rows.{FieldRow, Sorted, field, sorted, rows_from}
use Rattle.rules.specs.Tree.{Owned, File, ◌▹◌, tree}
use Rattle.rules.specs.Said.{continuations, says, stands, first_said, is, is_group}
use Rattle.closing_lines.specs.Closing.{in_text, sum_text, sum_texts_from, closing_texts}
use Rattle.closing_lines.proofs.ReadBack.{in_kind, in_class_lem, in_says, group_field, group_class, group_digit, field_digit, sum_kind, sum_says}

-- a field that CR LF ends, with nothing below it
abbrev pub bare_field : ℕ → ℕ → List ℕ → Owned FieldRow
bare_field n i t = record { owner = record { row = record { no = n; bytes = t; ended = true }; ident = i }; below = [] }

-- texts as such fields, whatever the numbers of their lines
pub data AsFields : List (List ℕ) → List (Owned FieldRow) → Type 0 where
  nothing : AsFields [] []
  next : {t : List ℕ} {ts : List (List ℕ)} {gs : List (Owned FieldRow)} (n i : ℕ) → kind_of t ≡ Field i → AsFields ts gs → AsFields (t ∷ ts) (bare_field n i t ∷ gs)

-- each of some texts is a field
abbrev pub AllFields : List (List ℕ) → Type 0
AllFields [] = Unit {0}
AllFields (t ∷ ts) = (kind_of t ≡ Field (ident_of t)) × AllFields ts

-- the fields of such texts, the first of which has the number n
unfoldable pub fields_from : ℕ → List (List ℕ) → List (Owned FieldRow)
fields_from n [] = []
fields_from n (t ∷ ts) = bare_field n (ident_of t) t ∷ fields_from (suc n) ts

pub as_fields : (n : ℕ) (ts : List (List ℕ)) → AllFields ts → AsFields ts (fields_from n ts)
unfolding fields_from
as_fields n [] f = nothing
as_fields n (t ∷ ts) f = next n (ident_of t) f.0 (as_fields (suc n) ts f.1)

-- their rows, above rows that begin with no line of theirs
pub tree_fields : (n : ℕ) (ts : List (List ℕ)) (rs : List Sorted) → AllFields ts → (tree rs).top ≡ []
    → tree (rows_from n (ended_lines ts) ++ rs) ≡ record { top = []; loose = fields_from n ts ++ (tree rs).loose; items = (tree rs).items }
unfolding fields_from rows_from ended_lines sorted
tree_fields n [] rs f e = λ i. record { top = e i; loose = (tree rs).loose; items = (tree rs).items }
tree_fields n (t ∷ ts) rs f e = rw f.0 (ap (λ (x : File). field (bare_field n (ident_of t) t).owner ▹ x) (tree_fields (suc n) ts rs f.1 e))

a_field : (t : List ℕ) (i : ℕ) → kind_of t ≡ Field i → kind_of t ≡ Field (ident_of t)
a_field t i e = e ∙ ap (λ (j : ℕ). Field j) (sym (field_is t i e).1)

sums_fields : (d : ℕ) (ns ts : List ℕ) → d + length ns ≤ 10 → AllFields (sum_texts_from d ns ts)
unfolding sum_texts_from
sums_fields d [] ts l = tt
sums_fields d (n ∷ ns) [] l = tt
sums_fields d (n ∷ ns) (t ∷ ts) l = by_test (eqb n 0)
    (λ q. rw q (sums_fields (suc d) ns ts (omega arith)))
    (λ q. rw q (a_field (sum_text d n t) (group_field d) (sum_kind d (omega arith) n t), sums_fields (suc d) ns ts (omega arith)))

pub closing_fields : (a b : ℕ) (counts sums : List ℕ) → length counts ≤ 10 → AllFields (closing_texts a b counts sums)
unfolding closing_texts
closing_fields a b counts sums l = (a_field (in_text a b) (named "IN") (in_kind a b), sums_fields 0 counts sums (omega arith))

pub one_ident : (k : Kind) {i j : ℕ} → k ≡ Field i → k ≡ Field j → i ≡ j
one_ident k p q = cc

pub says_bare : (n i : ℕ) (t : List ℕ) → says (bare_field n i t) ≡ says_of (class_of i) t []
unfolding says continuations
says_bare n i t = refl

-- ---- fields none of whose identifiers passes a test

abbrev pub Unmet : (ℕ → Bool) → List (Owned FieldRow) → Type 0
Unmet p [] = Unit {0}
Unmet p (g ∷ gs) = (p g.owner.ident ≡ false) × Unmet p gs

-- they say nothing of that sort
pub unmet_said : (p : ℕ → Bool) (gs : List (Owned FieldRow)) → Unmet p gs → first_said p gs ≡ none
unfolding first_said
unmet_said p [] u = refl
unmet_said p (g ∷ gs) u = rw u.0 (unmet_said p gs u.1)

-- above others they make no identifier stand that did not
pub unmet_stands : (i : ℕ) (gs above : List (Owned FieldRow)) → Unmet (is i) gs → stands i (reverse_aux gs above) ≡ stands i above
unfolding stands
unmet_stands i [] above u = refl
unmet_stands i (g ∷ gs) above u = unmet_stands i gs (g ∷ above) u.1 ∙ rw u.0

-- ---- the groups from d on

sums_unmet : (p : ℕ → Bool) (d : ℕ) (ns ts : List ℕ) (gs : List (Owned FieldRow)) → d + length ns ≤ 10
    → ((k : ℕ) → d ≤ k → k < 10 → p (group_field k) ≡ false) → AsFields (sum_texts_from d ns ts) gs → Unmet p gs
unfolding sum_texts_from
sums_unmet p d [] ts _ l f nothing = tt
sums_unmet p d (n ∷ ns) [] _ l f nothing = tt
sums_unmet p d (n ∷ ns) (t ∷ ts) gs l f A = go (eqb n 0) gs (λ hs. sums_unmet p (suc d) ns ts hs (omega arith) (λ k a b. f k (omega arith) b)) A
  where
    go : (b : Bool) (hs : List (Owned FieldRow)) → ((is : List (Owned FieldRow)) → AsFields (sum_texts_from (suc d) ns ts) is → Unmet p is)
        → AsFields (cond b (sum_texts_from (suc d) ns ts) (sum_text d n t ∷ sum_texts_from (suc d) ns ts)) hs → Unmet p hs
    go true hs r B = r hs B
    go false _ r (next m i q B) =
        (rw (one_ident (kind_of (sum_text d n t)) q (sum_kind d (omega arith) n t)) (f d (omega arith) (omega arith)), r _ B)

-- what is said of a group
abbrev pub said_of : ℕ → ℕ → Option Reading
said_of n t = cond (eqb n 0) none (some (Stated n (record { 0 = t })))

sum_said : (j d : ℕ) (ns ts : List ℕ) (gs : List (Owned FieldRow)) → j < length ns → j < length ts → d + length ns ≤ 10
    → ((k : ℕ) → get_or ns k 0 < 10000000) → ((k : ℕ) → get_or ts k 0 < 100000000000000000)
    → AsFields (sum_texts_from d ns ts) gs → first_said (is_group (d + j)) gs ≡ said_of (get_or ns j 0) (get_or ts j 0)
unfolding sum_texts_from first_said
sum_said j d [] ts gs h k l u v A = absurd (omega arith)
sum_said j d (n ∷ ns) [] gs h k l u v A = absurd (omega arith)
sum_said zero d (n ∷ ns) (t ∷ ts) gs h k l u v A = rw (add-zero d) (go (eqb n 0) gs A)
  where
    later : (c : ℕ) → suc d ≤ c → c < 10 → is_group d (group_field c) ≡ false
    later c a b = rw (group_digit c b) (ne_eqb c d (λ e. omega arith))

    go : (b : Bool) (hs : List (Owned FieldRow)) → AsFields (cond b (sum_texts_from (suc d) ns ts) (sum_text d n t ∷ sum_texts_from (suc d) ns ts)) hs
        → first_said (is_group d) hs ≡ cond b none (some (Stated n (record { 0 = t })))
    go true hs B = unmet_said (is_group d) hs (sums_unmet (is_group d) (suc d) ns ts hs (omega arith) later B)
    go false _ (next m i q B) =
        let w : d < 10 = omega arith in
        rw (one_ident (kind_of (sum_text d n t)) q (sum_kind d w n t), group_digit d w, eq-eqb d d refl, says_bare m (group_field d) (sum_text d n t), group_class d w, sum_says d w n t (u 0) (v 0))
sum_said (suc j) d (n ∷ ns) (t ∷ ts) gs h k l u v A =
    rw (add-suc d j, ← suc-add d j)
    (go (eqb n 0) gs (λ hs. sum_said j (suc d) ns ts hs (omega arith) (omega arith) (omega arith) (λ c. u (suc c)) (λ c. v (suc c))) A)
  where
    go : (b : Bool) (hs : List (Owned FieldRow))
        → ((is : List (Owned FieldRow)) → AsFields (sum_texts_from (suc d) ns ts) is → first_said (is_group (suc d + j)) is ≡ said_of (get_or ns j 0) (get_or ts j 0))
        → AsFields (cond b (sum_texts_from (suc d) ns ts) (sum_text d n t ∷ sum_texts_from (suc d) ns ts)) hs
        → first_said (is_group (suc d + j)) hs ≡ said_of (get_or ns j 0) (get_or ts j 0)
    go true hs r B = r hs B
    go false _ r (next m i q B) =
        let w : d < 10 = omega arith in
        rw (one_ident (kind_of (sum_text d n t)) q (sum_kind d w n t), group_digit d w, ne_eqb d (suc d + j) (λ e. omega arith)) (r _ B)

-- ---- identifiers that ascend, from m on

abbrev pub IdentsRise : ℕ → List (Owned FieldRow) → Type 0
IdentsRise m [] = Unit {0}
IdentsRise m (g ∷ gs) = (m ≤ g.owner.ident) × IdentsRise (suc g.owner.ident) gs

sums_rise : (m d : ℕ) (ns ts : List ℕ) (gs : List (Owned FieldRow)) → m ≤ 1008 + d → d + length ns ≤ 10 → AsFields (sum_texts_from d ns ts) gs → IdentsRise m gs
unfolding sum_texts_from
sums_rise m d [] ts _ h l nothing = tt
sums_rise m d (n ∷ ns) [] _ h l nothing = tt
sums_rise m d (n ∷ ns) (t ∷ ts) gs h l A = go (eqb n 0) gs (λ k is w. sums_rise k (suc d) ns ts is w (omega arith)) A
  where
    go : (b : Bool) (hs : List (Owned FieldRow)) → ((k : ℕ) (is : List (Owned FieldRow)) → k ≤ 1008 + suc d → AsFields (sum_texts_from (suc d) ns ts) is → IdentsRise k is)
        → AsFields (cond b (sum_texts_from (suc d) ns ts) (sum_text d n t ∷ sum_texts_from (suc d) ns ts)) hs → IdentsRise m hs
    go true hs r B = r m hs (omega arith) B
    go false _ r (next k i q B) =
        let e : i ≡ 1008 + d = one_ident (kind_of (sum_text d n t)) q (sum_kind d (omega arith) n t) ∙ sym (field_digit d (omega arith)) in
        (omega arith, r (suc i) _ (omega arith) B)

-- ---- all of them

in_no_group : (d : ℕ) → d < 10 → is_group d (named "IN") ≡ false
unfolding sum_group place
in_no_group d h = ne_eqb 10 d (λ e. omega arith)

module _ (a b : ℕ) (counts sums : List ℕ) (gs : List (Owned FieldRow)) (A : AsFields (closing_texts a b counts sums) gs) where
  pub in_said : a < 10000000 → b < 10000000 → first_said (is (named "IN")) gs ≡ some (Span (record { 0 = a }) (record { 0 = b }))
  unfolding closing_texts first_said
  in_said l m = go gs A
    where
      go : (hs : List (Owned FieldRow)) → AsFields (in_text a b ∷ sum_texts_from 0 counts sums) hs → first_said (is (named "IN")) hs ≡ some (Span (record { 0 = a }) (record { 0 = b }))
      go _ (next n i q B) =
          rw (one_ident (kind_of (in_text a b)) q (in_kind a b), eq-eqb (named "IN") (named "IN") refl, says_bare n (named "IN") (in_text a b), in_class_lem, in_says a b l m)

  -- no other identifier stands there
  pub closing_unmet : (p : ℕ → Bool) → length counts ≤ 10 → p (named "IN") ≡ false → ((k : ℕ) → k < 10 → p (group_field k) ≡ false) → Unmet p gs
  unfolding closing_texts
  closing_unmet p l e f = go gs A
    where
      go : (hs : List (Owned FieldRow)) → AsFields (in_text a b ∷ sum_texts_from 0 counts sums) hs → Unmet p hs
      go _ (next n i q B) = (rw (one_ident (kind_of (in_text a b)) q (in_kind a b)) e, sums_unmet p 0 counts sums _ (omega arith) (λ k _ h. f k h) B)

  -- IN first, then the groups ascending
  pub closing_rises : length counts ≤ 10 → IdentsRise (named "IN") gs
  unfolding closing_texts place
  closing_rises l = go gs A
    where
      go : (hs : List (Owned FieldRow)) → AsFields (in_text a b ∷ sum_texts_from 0 counts sums) hs → IdentsRise (named "IN") hs
      go _ (next n i q B) =
          let e : i ≡ named "IN" = one_ident (kind_of (in_text a b)) q (in_kind a b) in
          (omega arith, sums_rise (suc i) 0 counts sums _ (omega arith) (omega arith) B)

  pub group_said : (d : ℕ) → d < 10 → length counts ≡ 10 → length sums ≡ 10
      → ((k : ℕ) → get_or counts k 0 < 10000000) → ((k : ℕ) → get_or sums k 0 < 100000000000000000)
      → first_said (is_group d) gs ≡ said_of (get_or counts d 0) (get_or sums d 0)
  unfolding closing_texts first_said
  group_said d h x y u v = go gs A
    where
      go : (hs : List (Owned FieldRow)) → AsFields (in_text a b ∷ sum_texts_from 0 counts sums) hs → first_said (is_group d) hs ≡ said_of (get_or counts d 0) (get_or sums d 0)
      go _ (next n i q B) =
          rw (one_ident (kind_of (in_text a b)) q (in_kind a b), in_no_group d h)
          (rw (zero-add d) at (sum_said d 0 counts sums _ (omega arith) (omega arith) (omega arith) u v B))
