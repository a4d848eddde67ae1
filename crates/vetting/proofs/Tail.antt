-- The lines below a field, line by line.
use Prim.Native.Nat.{ℕ, suc, ◌-◌, ◌<◌, min}
use native.Mathlib.Omega.{arith}
use mathlib.Core.Path.{◌≡◌, refl, sym, ap, ◌∙◌}
use mathlib.Core.Bool.{Bool, true, false, cond, ◌&&◌, ◌||◌, true≢false, false≢true, or-true}
use mathlib.Core.List.{List, [], ◌∷◌, reverse_aux}
use lib.Dec.{ltb, eqb}
use lib.ListN.{length, drop, drop_of_length-le}
use borrow.Author.Tests.{ltb-true, ltb-false, lt-ltb, le-ltb}
use Rattle.laws.proofs.Truth.{both_left, both_right}
use Rattle.laws.proofs.Any.{or_left, or_right}
use Rattle.lines.proofs.Reading.{span_long}
use Rattle.lines.specs.Reading.{line_at}
use Rattle.fields.specs.declared.kinds.Kind.{Kind}
use Rattle.fields.specs.declared.kinds.Kind.TheVariants.{Heading, Continuation, Field, Other}
use Rattle.fields.specs.declared.readings.Reading.{Reading}
use Rattle.fields.specs.declared.readings.Reading.TheVariants.{Broken}
use Rattle.fields.specs.Kinds.{kind_of}
use Rattle.fields.proofs.LineKinds.{short}
use Rattle.fields.specs.Codes.{code_of}
use Rattle.fields.specs.Tails.{is_broken}
use Rattle.rules.specs.LineRules.{inside, rule1}
use Rattle.rules.specs.Rows.{FieldRow, LowRow, low}
use Rattle.rules.specs.Tree.{File, ◌▹◌}
use Rattle.rules.specs.Said.{continuations, says}
use Rattle.rules.specs.Spots.{lows}
use Rattle.items.proofs.Ideal.{closed}
use Rattle.judging.specs.Opening.{breaks_tail}
use Rattle.judging.proofs.OpenField.{says_more, says_same}
use Rattle.item_reader.specs.Slips.{file_from}
use Rattle.vetting.specs.Vetting.{any_barred}
use Rattle.vetting.specs.Parts.{bad_at, is_continuation, is_low, low_at, owned, TailAt}
use Rattle.vetting.proofs.Here.{row_at, here, file_at, bare}
use Rattle.vetting.proofs.Barring.{bad_row, low_more, lows_none}

abbrev counted : List LowRow → ℕ
counted ls = length (continuations ls)

-- the count stops at four
capped : (class c n : ℕ) → breaks_tail class (min 4 (suc (min 4 c))) n ≡ breaks_tail class (suc c) n
capped class c n = ap (λ (t : Bool). ((eqb class 2 || eqb class 3) || (eqb class 5 || eqb class 6)) || (eqb class 4 && (t || ltb 38 n))) same
  where
    go : (t : Bool) → ltb 3 (suc c) ≡ t → ltb 3 (min 4 (suc (min 4 c))) ≡ t
    go true e = lt-ltb 3 (min 4 (suc (min 4 c))) (omega (arith, ltb-true 3 (suc c) e))
    go false e = le-ltb 3 (min 4 (suc (min 4 c))) (omega (arith, ltb-false 3 (suc c) e))

    same : ltb 3 (min 4 (suc (min 4 c))) ≡ ltb 3 (suc c)
    same = go (ltb 3 (suc c)) refl

-- a field that its lines break stays broken
stays : (x : FieldRow) (ms ls : List LowRow) → says (closed x ls) ≡ Broken → says (owned x (reverse_aux ls ms)) ≡ Broken
stays x [] ls e = e
stays x (m ∷ ms) ls e = stays x ms (m ∷ ls) (go m.continues refl)
  where
    either : (b : Bool) → cond b Broken Broken ≡ Broken
    either true = refl
    either false = refl

    go : (t : Bool) → m.continues ≡ t → says (closed x (m ∷ ls)) ≡ Broken
    go true q =
        let b = breaks_tail (code_of x.ident) (suc (counted ls)) (length m.row.bytes) in
        says_more x m ls q ∙ ap (cond b Broken) e ∙ either b
    go false q = says_same x m ls q ∙ e

-- what is known at a place below the field, of the lines ls so far, nearest first
pub record Tailing (s : List ℕ) (at n class p tail : ℕ) : Type 0 where
  pub below : ℕ
  pub ls : List LowRow
  pub top : (file_from n (drop at s)).top ≡ reverse_aux ls (file_from below (drop p s)).top
  pub loose : (file_from n (drop at s)).loose ≡ (file_from below (drop p s)).loose
  pub items : (file_from n (drop at s)).items ≡ (file_from below (drop p s)).items
  pub clean : (ms : List LowRow) → any_barred (lows inside (reverse_aux ls ms)) ≡ any_barred (lows inside ms)
  pub takes : (x : FieldRow) → code_of x.ident ≡ class → says (closed x ls) ≡ says (owned x [])
  pub count : tail ≡ min 4 (counted ls)

pub tail_start : (s : List ℕ) (at n class : ℕ) → Tailing s at n class at 0
unfolding continuations
tail_start s at n class = record {
  below = n;
  ls = [];
  top = refl;
  loose = refl;
  items = refl;
  clean = λ ms. refl;
  takes = λ x e. refl;
  count = refl;
}

-- a line that goes on stands in the slice
pub continues_in : (s : List ℕ) (p : ℕ) → is_continuation (kind_of (drop p s)) ≡ true → (p < length s) × (kind_of (drop p s) ≡ Continuation)
continues_in s p e = (in_slice (ltb p (length s)) refl, by_kind (kind_of (drop p s)) refl e)
  where
    by_kind : (k : Kind) → kind_of (drop p s) ≡ k → is_continuation k ≡ true → kind_of (drop p s) ≡ Continuation
    by_kind Heading q w = absurd (false≢true w)
    by_kind Continuation q w = q
    by_kind (Field i) q w = absurd (false≢true w)
    by_kind Other q w = absurd (false≢true w)

    in_slice : (t : Bool) → ltb p (length s) ≡ t → p < length s
    in_slice true q = ltb-true p (length s) q
    in_slice false q =
        let none : is_continuation (kind_of (drop p s)) ≡ false = ap (λ (x : List ℕ). is_continuation (kind_of x)) (drop_of_length-le s (ltb-false p (length s) q)) ∙ sym (ap is_continuation (short [] (omega arith))) in
        absurd (false≢true (sym none ∙ e))

module _ {s : List ℕ} {at n class p tail : ℕ} (T : Tailing s at n class p tail) where
  abbrev Bars : FieldRow → Type 0
  Bars x = (is_broken (says (owned x (file_from n (drop at s)).top)) || any_barred (lows inside (file_from n (drop at s)).top)) ≡ true

  -- one of the lines bars
  by_line : (l : LowRow) (ms : List LowRow) → (file_from T.below (drop p s)).top ≡ l ∷ ms → any_barred (lows inside (l ∷ ms)) ≡ true → (x : FieldRow) → Bars x
  by_line l ms e q x =
      ap (λ (t : Bool). is_broken (says (owned x (file_from n (drop at s)).top)) || t)
      (ap (λ (ls : List LowRow). any_barred (lows inside ls)) (T.top ∙ ap (reverse_aux T.ls) e) ∙ T.clean (l ∷ ms) ∙ q)
      ∙ or-true (is_broken (says (owned x (file_from n (drop at s)).top)))

  module _ (h : p < length s) (e : kind_of (drop p s) ≡ Continuation) where
    abbrev line : LowRow
    line = record { row = row_at s p T.below; continues = true }

    abbrev next : File
    next = file_from (suc T.below) (drop (line_at s p).next s)

    file_here : file_from T.below (drop p s) ≡ low line ▹ next
    file_here = file_at s p h Continuation e T.below

    -- the field goes on, by as many continuations and the bytes of this one
    breaks_is : (x : FieldRow) → code_of x.ident ≡ class → {b : Bool} → b ≡ breaks_tail class (min 4 (suc tail)) ((line_at s p).end - p)
        → says (closed x (line ∷ T.ls)) ≡ cond b Broken (says (closed x T.ls))
    breaks_is x q {b} w =
        let same : b ≡ breaks_tail (code_of x.ident) (suc (counted T.ls)) (length line.row.bytes) =
        w
        ∙ ap (λ (c : ℕ). breaks_tail class (min 4 (suc c)) ((line_at s p).end - p)) T.count
        ∙ capped class (counted T.ls) ((line_at s p).end - p)
        ∙ (λ i. breaks_tail (sym q i) (suc (counted T.ls)) (span_long (here s p h) i)) in
        says_more x line T.ls refl ∙ ap (λ (t : Bool). cond t Broken (says (closed x T.ls))) (sym same)

    -- it bars, or breaks the field
    pub tail_breaks : {b : Bool} → b ≡ breaks_tail class (min 4 (suc tail)) ((line_at s p).end - p) → (bad_at s p || b) ≡ true → (x : FieldRow) → code_of x.ident ≡ class → Bars x
    unfolding rule1
    tail_breaks {b} w g x q = go (bad_at s p) b refl refl g
      where
        go : (u v : Bool) → bad_at s p ≡ u → b ≡ v → (u || v) ≡ true → Bars x
        go true v e₁ e₂ z =
            by_line line next.top (ap (λ (f : File). f.top) file_here) (low_more line next.top ∙ ap (λ (t : Bool). (t || false) || any_barred (lows inside next.top)) e₁) x
        go false true e₁ e₂ z =
            ap (λ (r : Reading). is_broken r || any_barred (lows inside (file_from n (drop at s)).top))
            (ap (λ (ls : List LowRow). says (owned x ls)) (T.top ∙ ap (λ (f : File). reverse_aux T.ls f.top) file_here)
            ∙ stays x next.top (line ∷ T.ls) (breaks_is x q w ∙ ap (λ (t : Bool). cond t Broken (says (closed x T.ls))) e₂))
        go false false e₁ e₂ z = absurd (false≢true z)

    -- it does not
    pub tail_more : {b : Bool} → b ≡ breaks_tail class (min 4 (suc tail)) ((line_at s p).end - p) → (bad_at s p || b) ≡ false → Tailing s at n class (line_at s p).next (min 4 (suc tail))
    unfolding rule1 continuations
    tail_more {b} w g = record {
      below = suc T.below;
      ls = line ∷ T.ls;
      top = T.top ∙ ap (λ (f : File). reverse_aux T.ls f.top) file_here;
      loose = T.loose ∙ ap (λ (f : File). f.loose) file_here;
      items = T.items ∙ ap (λ (f : File). f.items) file_here;
      clean = λ ms. T.clean (line ∷ ms) ∙ low_more line ms ∙ ap (λ (t : Bool). (t || false) || any_barred (lows inside ms)) (or_left (bad_at s p) b g);
      takes = λ x q. breaks_is x q w ∙ ap (λ (t : Bool). cond t Broken (says (closed x T.ls))) (or_right (bad_at s p) b g) ∙ T.takes x q;
      count = ap (λ (c : ℕ). min 4 (suc c)) T.count ∙ (let z : min 4 (suc (min 4 (counted T.ls))) ≡ min 4 (suc (counted T.ls)) = omega arith in z);
    }

  -- the lines end at a line of no kind
  pub tail_other : is_continuation (kind_of (drop p s)) ≡ false → low_at s p ≡ true → (x : FieldRow) → Bars x
  tail_other c l x = go (kind_of (drop p s)) refl c (both_right (ltb p (length s)) (is_low (kind_of (drop p s))) l)
    where
      h : p < length s
      h = ltb-true p (length s) (both_left (ltb p (length s)) (is_low (kind_of (drop p s))) l)

      go : (k : Kind) → kind_of (drop p s) ≡ k → is_continuation k ≡ false → is_low k ≡ true → Bars x
      go Heading e q w = absurd (false≢true w)
      go Continuation e q w = absurd (true≢false q)
      go (Field i) e q w = absurd (false≢true w)
      go Other e q w =
          let o : LowRow = record { row = row_at s p T.below; continues = false } in
          let ms = (file_from (suc T.below) (drop (line_at s p).next s)).top in
          by_line o ms (ap (λ (f : File). f.top) (file_at s p h Other e T.below))
          (low_more o ms ∙ ap (λ (t : Bool). t || any_barred (lows inside ms)) (or-true (bad_row o.row))) x

  -- .. or where there is none
  pub tail_stops : low_at s p ≡ false → TailAt s at n class p
  tail_stops l =
      let top : (file_from n (drop at s)).top ≡ reverse_aux T.ls [] = T.top ∙ ap (reverse_aux T.ls) (bare s p l T.below) in
      record {
        below = T.below;
        clean = ap (λ (ls : List LowRow). any_barred (lows inside ls)) top ∙ T.clean [] ∙ lows_none;
        takes = λ x q. ap (λ (ls : List LowRow). says (owned x ls)) top ∙ T.takes x q;
        loose = T.loose;
        items = T.items;
      }
