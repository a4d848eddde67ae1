-- The open field's four numbers against the tree: what a field opens, what a line below it changes, what is entered when it closes.
use mathlib.Core.Path.{◌≡◌, refl, sym, ap, ◌∙◌}
use mathlib.Core.Bool.{Bool, true, false, cond, not, ◌&&◌, ◌||◌, and-false}
use mathlib.Core.List.{List, [], ◌∷◌}
use Prim.Native.Nat.{ℕ, suc, ◌+◌, ◌*◌, ◌%◌, ◌^◌, ◌<◌, min}
use native.Mathlib.Numerals.{add-one}
use native.Mathlib.Omega.{arith}
use lib.Dec.{eqb, ltb, leb}
use lib.ListN.{length}
use borrow.Author.Tests.{le-leb, lt-leb, le-ltb, lt-ltb, ltb-true, ltb-false, ne_eqb}
use Rattle.laws.specs.Tests.{mark}
use Rattle.fields.specs.declared.classes.Class.{Class}
use Rattle.fields.specs.declared.classes.Class.TheVariants.{Money, Number, Range, Group, Account, Text, Free}
use Rattle.fields.specs.declared.readings.Reading.{Reading}
use Rattle.fields.specs.declared.readings.Reading.TheVariants.{Broken, Plain, Paid, Span, Stated, Party}
use Rattle.fields.specs.Kinds.{named}
use Rattle.fields.specs.Classes.{class_of}
use Rattle.fields.specs.Codes.{code_by, code_of}
use Rattle.fields.specs.Readings.{text_of, reading_of, if_fits}
use Rattle.fields.specs.Tails.{is_broken, all_fit}
use Rattle.fields.specs.Kept.{Tail, tail_of, more_tail, takes_by}
use Rattle.fields.proofs.Kept.{broken, tail_more}
use Rattle.rules.specs.Terms.{Terms}
use Rattle.rules.specs.Faults.{Fault}
use Rattle.rules.specs.Rows.{Row, FieldRow, LowRow, low}
use Rattle.rules.specs.Tree.{Item, Owned}
use Rattle.rules.specs.Said.{head_of, continuations, says, stands}
use Rattle.rules.specs.Spots.{field_spot}
use Rattle.rules.specs.LineRules.{rule1}
use Rattle.rules.specs.FieldRules.{of_party, prefix_fails, number_fails, number_zero, rule6, late, large}
use Rattle.ledger.specs.Marks.{insert_all, marked}
use Rattle.ledger.proofs.Entries.{put_all, put}
use Rattle.own_rules.specs.Model.{basis_of}
use Rattle.account.proofs.Accounting.{same_eight}
use Rattle.items.proofs.Ideal.{start, early, at_head, at_field, closed, push, Pieces}
use Rattle.items.proofs.Turned.{says_closed}
use Rattle.items.proofs.Puts.{fields_out}
use Rattle.judging.specs.declared.opening.Open.{Open}
use Rattle.judging.specs.Opening.{kc_marks, breaks_tail, no_open, broken_by, more_open, low_open, fits_by, party_marks, said_marks, late_by}
use Rattle.closing.proofs.Sets.{line_marks}
use Rattle.judging.proofs.Sets.{field_marks, field_set, loose_marks, loose_set}
use Rattle.closing.proofs.Shutting.{put_none, Positive}
use Rattle.headings.specs.declared.Heading.{Heading}
use Rattle.std.specs.Prelude.{None, Option, Some}

-- ---- a class as a number says whether a tail breaks it
abbrev breaks_as : Class → ℕ → ℕ → Bool
breaks_as Money tail n = false
breaks_as Number tail n = true
breaks_as Range tail n = true
breaks_as Group tail n = true
breaks_as Account tail n = true
breaks_as Text tail n = ltb 3 tail || ltb 38 n
breaks_as Free tail n = false

breaks_by : (k : Class) (tail n : ℕ) → breaks_tail (code_by k) tail n ≡ breaks_as k tail n
breaks_by Money tail n = refl
breaks_by Number tail n = refl
breaks_by Range tail n = refl
breaks_by Group tail n = refl
breaks_by Account tail n = refl
breaks_by Text tail n = refl
breaks_by Free tail n = refl

breaks_is : (i tail n : ℕ) → breaks_tail (code_of i) tail n ≡ breaks_as (class_of i) tail n
unfolding code_of
breaks_is i tail n = breaks_by (class_of i) tail n

-- ---- what a field says with one continuation more
abbrev tail_at : ℕ → Bool → Tail
tail_at count short = record { count = min 4 count; short = short }

text_more : (count n : ℕ) (short : Bool) (r : Reading)
    → if_fits (takes_by Text (more_tail (tail_at count short) n)) r ≡ cond (ltb 3 (suc count) || ltb 38 n) Broken (if_fits (takes_by Text (tail_at count short)) r)
text_more count n short r = go (ltb 3 (suc count)) (ltb 38 n) refl refl
  where
    go : (a b : Bool) → ltb 3 (suc count) ≡ a → ltb 38 n ≡ b
        → if_fits (takes_by Text (more_tail (tail_at count short) n)) r ≡ cond (a || b) Broken (if_fits (takes_by Text (tail_at count short)) r)
    go true b p q =
        let e : leb (min 4 (suc (min 4 count))) 3 ≡ false = lt-leb (min 4 (suc (min 4 count))) 3 (omega (arith, ltb-true 3 (suc count) p)) in
        rw e
    go false true p q =
        let e : leb n (3 + 35) ≡ false = lt-leb n 38 (omega (arith, ltb-true 38 n q)) in
        rw (e, and-false (leb (min 4 (suc (min 4 count))) 3))
    go false false p q =
        let e : leb n (3 + 35) ≡ true = le-leb n 38 (omega (arith, ltb-false 38 n q)) in
        let f : leb (min 4 (suc (min 4 count))) 3 ≡ true = le-leb (min 4 (suc (min 4 count))) 3 (omega (arith, ltb-false 3 (suc count) p)) in
        let g : leb (min 4 count) 3 ≡ true = le-leb (min 4 count) 3 (omega (arith, ltb-false 3 (suc count) p)) in
        rw (e, f, g)

some_more : (count : ℕ) → eqb (min 4 (suc (min 4 count))) 0 ≡ false
some_more count = ne_eqb (min 4 (suc (min 4 count))) 0 (λ z. omega arith)

said_more : (k : Class) (count n : ℕ) (short : Bool) (r : Reading)
    → if_fits (takes_by k (more_tail (tail_at count short) n)) r ≡ cond (breaks_as k (suc count) n) Broken (if_fits (takes_by k (tail_at count short)) r)
said_more Money count n short r = refl
said_more Number count n short r = rw (some_more count)
said_more Range count n short r = rw (some_more count)
said_more Group count n short r = rw (some_more count)
said_more Account count n short r = rw (some_more count)
said_more Text count n short r = text_more count n short r
said_more Free count n short r = refl

kept_more : (k : Class) (ls : List (List ℕ)) (n : ℕ) (r : Reading)
    → if_fits (takes_by k (more_tail (tail_of ls) n)) r ≡ cond (breaks_as k (suc (length ls)) n) Broken (if_fits (takes_by k (tail_of ls)) r)
unfolding tail_of
kept_more k ls n r = said_more k (length ls) n (tail_of ls).short r

-- the field x with the lines ls below it, and one continuation more
pub says_more : (x : FieldRow) (l : LowRow) (ls : List LowRow) → l.continues ≡ true
    → says (closed x (l ∷ ls)) ≡ cond (breaks_tail (code_of x.ident) (suc (length (continuations ls))) (length l.row.bytes)) Broken (says (closed x ls))
says_more x l ls e =
    let k : Class = class_of x.ident in
    let r : Reading = reading_of k (text_of x.row.bytes) in
    sym (says_closed x (l ∷ ls))
    ∙ ap (λ (c : List (List ℕ)). if_fits (takes_by k (tail_of c)) r) (on e)
    ∙ ap (λ (t : Tail). if_fits (takes_by k t) r) (sym (tail_more l.row.bytes (continuations ls)))
    ∙ kept_more k (continuations ls) (length l.row.bytes) r
    ∙ (λ i. cond (sym (breaks_is x.ident (suc (length (continuations ls))) (length l.row.bytes)) i) Broken (says_closed x ls i))
  where
    on : l.continues ≡ true → continuations (l ∷ ls) ≡ l.row.bytes ∷ continuations ls
    on q = unfold continuations in rw q

-- a line of no kind changes nothing
pub says_same : (x : FieldRow) (l : LowRow) (ls : List LowRow) → l.continues ≡ false → says (closed x (l ∷ ls)) ≡ says (closed x ls)
says_same x l ls e =
    sym (says_closed x (l ∷ ls)) ∙ ap (λ (c : List (List ℕ)). if_fits (takes_by (class_of x.ident) (tail_of c)) (reading_of (class_of x.ident) (text_of x.row.bytes))) off
    ∙ says_closed x ls
  where
    off : continuations (l ∷ ls) ≡ continuations ls
    off = unfold continuations in rw e

-- with no line below it, it says what its own line says
pub says_own : (x : FieldRow) → says (closed x []) ≡ reading_of (class_of x.ident) (text_of x.row.bytes)
unfolding continuations tail_of all_fit
says_own x = sym (says_closed x []) ∙ go (class_of x.ident)
  where
    go : (k : Class) → if_fits (takes_by k (tail_of (continuations []))) (reading_of k (text_of x.row.bytes)) ≡ reading_of k (text_of x.row.bytes)
    go Money = refl
    go Number = refl
    go Range = refl
    go Group = refl
    go Account = refl
    go Text = refl
    go Free = refl

-- ---- marks: 1 to 5 are below 64, the others above
own_small : (r : Row) (again : Bool) → line_marks r + mark 5 again < 64
unfolding line_marks
own_small r again = go (rule1 r) (not r.ended) again
  where
    go : (a b c : Bool) → mark 1 a + mark 4 b + mark 5 c < 64
    go true true true = omega arith
    go true true false = omega arith
    go true false true = omega arith
    go true false false = omega arith
    go false true true = omega arith
    go false true false = omega arith
    go false false true = omega arith
    go false false false = omega arith

low_part : (m q : ℕ) → m < 64 → (m + 64 * q) % 64 ≡ m
low_part m q h = omega arith

regroup : (o a b c d e f g : ℕ) → o + (a + b + c + d + e + f + g) ≡ o + a + (b + (c + (f + g)) + (d + e))
regroup o a b c d e f g = omega arith

-- a mark from 7 on
by_128 : (b c d e f : Bool) → (q : ℕ) × (mark 7 b + (mark 23 e + mark 24 f) + (mark 8 c + mark 9 d) ≡ 128 * q)
by_128 b c d e f =
    (cond b 1 0 + (cond e (2 ^ 16) 0 + cond f (2 ^ 17) 0) + (cond c 2 0 + cond d 4 0), add b c d e f)
  where
    times : (k q : ℕ) (t : Bool) → k ≡ 128 * q → cond t k 0 ≡ 128 * cond t q 0
    times k q true z = z
    times k q false z = refl

    add : (b c d e f : Bool) → mark 7 b + (mark 23 e + mark 24 f) + (mark 8 c + mark 9 d) ≡ 128 * (cond b 1 0 + (cond e (2 ^ 16) 0 + cond f (2 ^ 17) 0) + (cond c 2 0 + cond d 4 0))
    add b c d e f = omega (arith, times (2 ^ 7) 1 b refl, times (2 ^ 23) (2 ^ 16) e refl, times (2 ^ 24) (2 ^ 17) f refl, times (2 ^ 8) 2 c refl, times (2 ^ 9) 4 d refl)

-- .. and from 6 on
by_64 : (a b c d e f : Bool) → (q : ℕ) × (mark 6 a + (mark 7 b + (mark 23 e + mark 24 f)) + (mark 8 c + mark 9 d) ≡ 64 * q)
by_64 a b c d e f = go a
  where
    go : (a : Bool) → (q : ℕ) × (mark 6 a + (mark 7 b + (mark 23 e + mark 24 f)) + (mark 8 c + mark 9 d) ≡ 64 * q)
    go true = let p = by_128 b c d e f in (1 + 2 * p.0, omega (arith, p.1))
    go false = let p = by_128 b c d e f in (2 * p.0, omega (arith, p.1))

-- bit 6
six : (a b c d e f : Bool) (own : ℕ) → own < 64 → fits_by (own + (mark 6 a + (mark 7 b + (mark 23 e + mark 24 f)) + (mark 8 c + mark 9 d))) ≡ not a
six a b c d e f own h =
    ap fits_by (over own (mark 6 a) (mark 7 b + (mark 23 e + mark 24 f)) (mark 8 c + mark 9 d)) ∙ rw (by_128 b c d e f).1 (go a (by_128 b c d e f).0)
  where
    over : (o u v w : ℕ) → o + (u + v + w) ≡ o + u + (v + w)
    over o u v w = omega arith

    go : (a : Bool) (q : ℕ) → fits_by (own + mark 6 a + 128 * q) ≡ not a
    go true q = let e : (own + 64 + 128 * q) % 128 ≡ own + 64 = omega arith in rw e (le-ltb (own + 64) 64 (omega arith))
    go false q = let e : (own + 0 + 128 * q) % 128 ≡ own = omega arith in rw e (lt-ltb own 64 h)

late_is : (terms : Terms) (h : Option Heading) (r : Reading) → late_by (basis_of terms) h r ≡ late terms h r
late_is terms (Some h) Broken = refl
late_is terms (Some h) Plain = refl
late_is terms (Some h) (Paid a d) = same_eight terms h.kind d
late_is terms (Some h) (Span a b) = refl
late_is terms (Some h) (Stated n a) = refl
late_is terms (Some h) (Party b) = refl
late_is terms None r = refl

broken_is : (x : FieldRow) (ls : List LowRow) → is_broken (says (closed x ls)) ≡ rule6 (closed x ls)
unfolding says
broken_is x ls = broken (class_of x.ident) x.row.bytes (continuations (closed x ls).below)

module _ (terms : Terms) where
  -- 6 to 9, 23 and 24 by what the field says
  abbrev high : Bool → Option Heading → Reading → ℕ
  high first r said = mark 6 (is_broken said) + party_marks said + (mark 8 (first && late terms r said) + mark 9 (first && large r said))

  high_broken : (first : Bool) (r : Option Heading) → high first r Broken ≡ 64
  high_broken true (Some h) = refl
  high_broken true None = refl
  high_broken false (Some h) = refl
  high_broken false None = refl

  -- a mark below 64 and what is broken
  broken_marks : (own : ℕ) (first : Bool) (r : Option Heading) (said : Reading) → own < 64 → own + high first r Broken ≡ (own + high first r said) % 64 + 64
  broken_marks own first r said h =
      let q = by_64 (is_broken said) (of_party prefix_fails said) (first && late terms r said) (first && large r said) (of_party number_fails said) (of_party number_zero said) in
      rw (high_broken first r, q.1, low_part own q.0 h)

  module _ (r : Option Heading) (ups : List (Owned FieldRow)) (x : FieldRow) where
    abbrev own : ℕ
    own = line_marks x.row + mark 5 (stands x.ident ups)

    abbrev first : Bool
    first = eqb x.ident (named "KC") && not (stands (named "KC") ups)

    field_sum : (ls : List LowRow) → field_marks terms r ups (closed x ls) ≡ own + high first r (says (closed x ls))
    unfolding field_marks
    field_sum ls =
        ap (λ (t : Bool). let s = says (closed x ls) in
        line_marks x.row
        + (mark 5 (stands x.ident ups) + mark 6 t + mark 7 (of_party prefix_fails s) + mark 8 (first && late terms r s) + mark 9 (first && large r s) + mark 23 (of_party number_fails s) + mark 24 (of_party number_zero s)))
        (sym (broken_is x ls))
        ∙ regroup _ _ _ _ _ _ _ _

    -- one continuation more
    pub marks_more : (l : LowRow) (ls : List LowRow) → l.continues ≡ true
        → field_marks terms r ups (closed x (l ∷ ls)) ≡ broken_by (breaks_tail (code_of x.ident) (suc (length (continuations ls))) (length l.row.bytes)) (field_marks terms r ups (closed x ls))
    marks_more l ls e =
        field_sum (l ∷ ls) ∙ ap (λ (s : Reading). own + high first r s) (says_more x l ls e)
        ∙ go (breaks_tail (code_of x.ident) (suc (length (continuations ls))) (length l.row.bytes))
        ∙ sym (ap (broken_by (breaks_tail (code_of x.ident) (suc (length (continuations ls))) (length l.row.bytes))) (field_sum ls))
      where
        go : (b : Bool) → own + high first r (cond b Broken (says (closed x ls))) ≡ broken_by b (own + high first r (says (closed x ls)))
        go true = broken_marks own first r (says (closed x ls)) (own_small x.row (stands x.ident ups))
        go false = refl

    -- a line of no kind
    pub marks_same : (l : LowRow) (ls : List LowRow) → l.continues ≡ false → field_marks terms r ups (closed x (l ∷ ls)) ≡ field_marks terms r ups (closed x ls)
    marks_same l ls e = field_sum (l ∷ ls) ∙ ap (λ (s : Reading). own + high first r s) (says_same x l ls e) ∙ sym (field_sum ls)

    -- at its own line
    pub marks_own : field_marks terms r ups (closed x []) ≡ own + said_marks (basis_of terms) first r (reading_of (class_of x.ident) (text_of x.row.bytes))
    unfolding kc_marks said_marks
    marks_own =
        field_sum [] ∙ ap (λ (s : Reading). own + high first r s) (says_own x)
        ∙ (λ i. let s = reading_of (class_of x.ident) (text_of x.row.bytes) in own + (mark 6 (is_broken s) + party_marks s + (mark 8 (first && sym (late_is terms r s) i) + mark 9 (first && large r s))))

    -- bit 6 says whether it reads
    pub fits_is : (ls : List LowRow) → fits_by (field_marks terms r ups (closed x ls)) ≡ not (is_broken (says (closed x ls)))
    fits_is ls =
        let s = says (closed x ls) in
        ap fits_by (field_sum ls)
        ∙ six (is_broken s) (of_party prefix_fails s) (first && late terms r s) (first && large r s) (of_party number_fails s) (of_party number_zero s) own (own_small x.row (stands x.ident ups))

-- ---- the open field over the tree's open pieces
abbrev pub open_at : ℕ → ℕ → ℕ → ℕ → Open
open_at n m k t = record { no = n; marks = m; class = k; tail = t }

-- where it is continued
abbrev counted : List LowRow → ℕ
counted ls = length (continuations ls)

counted_more : (l : LowRow) (ls : List LowRow) → l.continues ≡ true → counted (l ∷ ls) ≡ counted ls + 1
unfolding continuations
counted_more l ls e = rw e (sym (add-one (counted ls)))

counted_same : (l : LowRow) (ls : List LowRow) → l.continues ≡ false → counted (l ∷ ls) ≡ counted ls
unfolding continuations
counted_same l ls e = rw e

loose_same : (x : FieldRow) (ls ms : List LowRow) → loose_marks (closed x ls) ≡ loose_marks (closed x ms)
unfolding loose_marks
loose_same x ls ms = refl

module _ (terms : Terms) where
  abbrev pub open_of : Pieces → Open
  open_of start = no_open
  open_of (early ups x ls) = open_at x.row.no (loose_marks (closed x ls)) 0 (counted ls)
  open_of (at_head b h ls) = no_open
  open_of (at_field b h hl ups x ls) = open_at x.row.no (field_marks terms (head_of (closed h hl)) ups (closed x ls)) (code_of x.ident) (counted ls)

  -- a line below it
  pub low_open_lem : (c : Pieces) (l : LowRow) → Positive c → open_of (push c (low l)) ≡ low_open l.continues (open_of c) (length l.row.bytes)
  low_open_lem start l P = go l.continues
    where
      go : (t : Bool) → no_open ≡ cond (t && false) (more_open no_open (length l.row.bytes)) no_open
      go true = refl
      go false = refl
  low_open_lem (early ups x ls) l P =
      let z : eqb x.row.no 0 ≡ false = ne_eqb x.row.no 0 (λ q. omega arith) in
      rw z (go l.continues refl)
    where
      go : (t : Bool) → l.continues ≡ t
          → open_at x.row.no (loose_marks (closed x (l ∷ ls))) 0 (counted (l ∷ ls)) ≡ cond (t && true) (more_open (open_of (early ups x ls)) (length l.row.bytes)) (open_of (early ups x ls))
      go true e = λ i. open_at x.row.no (loose_same x (l ∷ ls) ls i) 0 (counted_more l ls e i)
      go false e = λ i. open_at x.row.no (loose_same x (l ∷ ls) ls i) 0 (counted_same l ls e i)
  low_open_lem (at_head b h ls) l P = go l.continues
    where
      go : (t : Bool) → no_open ≡ cond (t && false) (more_open no_open (length l.row.bytes)) no_open
      go true = refl
      go false = refl
  low_open_lem (at_field b h hl ups x ls) l P =
      let z : eqb x.row.no 0 ≡ false = ne_eqb x.row.no 0 (λ q. omega (arith, P)) in
      rw z (go l.continues refl)
    where
      go : (t : Bool) → l.continues ≡ t
          → open_of (at_field b h hl ups x (l ∷ ls)) ≡ cond (t && true) (more_open (open_of (at_field b h hl ups x ls)) (length l.row.bytes)) (open_of (at_field b h hl ups x ls))
      go true e =
          (λ i. open_at x.row.no (marks_more terms (head_of (closed h hl)) ups x l ls e i) (code_of x.ident) (counted_more l ls e i))
          ∙ (λ i. open_at x.row.no (broken_by (breaks_tail (code_of x.ident) (sym (add-one (counted ls)) i) (length l.row.bytes)) (field_marks terms (head_of (closed h hl)) ups (closed x ls))) (code_of x.ident) (counted ls + 1))
      go false e = λ i. open_at x.row.no (marks_same terms (head_of (closed h hl)) ups x l ls e i) (code_of x.ident) (counted_same l ls e i)

  -- a field above every heading, and a field of an item
  pub early_open : (ups : List (Owned FieldRow)) (y : FieldRow) → open_of (early ups y []) ≡ open_at y.row.no (line_marks y.row + mark 3 true) 0 0
  unfolding loose_marks continuations
  early_open ups y = refl

  pub field_open : (b : List Item) (h : Row) (hl : List LowRow) (ups : List (Owned FieldRow)) (y : FieldRow)
      → open_of (at_field b h hl ups y [])
      ≡ open_at y.row.no
      (line_marks y.row + mark 5 (stands y.ident ups)
      + said_marks (basis_of terms) (eqb y.ident (named "KC") && not (stands (named "KC") ups)) (head_of (closed h hl)) (reading_of (class_of y.ident) (text_of y.row.bytes)))
      (code_of y.ident) 0
  unfolding continuations
  field_open b h hl ups y = ap (λ (m : ℕ). open_at y.row.no m (code_of y.ident) 0) (marks_own terms (head_of (closed h hl)) ups y)

  -- what is entered when it closes
  pub close_open : (c : Pieces) (l : List Fault) → put_all put (fields_out terms c) l ≡ insert_all (marked (open_of c).no (open_of c).marks) l
  unfolding field_spot
  close_open start l = sym (put_none 0 l)
  close_open (early ups x ls) l = ap (λ (m : ℕ). insert_all (marked x.row.no m) l) (loose_set (closed x ls))
  close_open (at_head b h ls) l = sym (put_none 0 l)
  close_open (at_field b h hl ups x ls) l = ap (λ (m : ℕ). insert_all (marked x.row.no m) l) (field_set terms (head_of (closed h hl)) ups (closed x ls))
