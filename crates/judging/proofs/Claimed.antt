-- What is claimed while a field is open and once it has closed, against the tree.
use mathlib.Core.Path.{◌≡◌, refl, sym, ap, ◌∙◌, subst}
use mathlib.Core.Bool.{Bool, true, false, cond, not, ◌||◌}
use mathlib.Core.List.{List, [], ◌∷◌}
use Prim.Native.Nat.{ℕ, suc, ◌≤◌}
use native.Mathlib.Omega.{arith}
use lib.Dec.{eqb, ltb, leb}
use lib.ListN.{length}
use borrow.Author.Tests.{eqb-true, ltb-false}
use Rattle.laws.specs.Tests.{among}
use Rattle.fields.specs.declared.readings.Reading.{Reading}
use Rattle.fields.specs.declared.readings.Reading.TheVariants.{Broken, Plain, Paid, Span, Stated, Party}
use Rattle.fields.specs.Kinds.{named, place}
use Rattle.fields.specs.Classes.{group_fields, account_fields, text_fields, class_by, class_of, sum_group}
use Rattle.fields.specs.Codes.{code_by, code_of}
use Rattle.fields.specs.Readings.{text_of, reading_of, if_fits}
use Rattle.fields.specs.Tails.{is_broken}
use Rattle.fields.specs.Kept.{tail_of, takes_by}
use Rattle.fields.proofs.Places.{place_in}
use Rattle.rules.specs.Terms.{Terms}
use Rattle.rules.specs.Rows.{Row, FieldRow, LowRow, low, field}
use Rattle.rules.specs.Tree.{Item, Owned}
use Rattle.rules.specs.Said.{continuations, says, stands, head_of, kc_by, span_by}
use Rattle.items.specs.Claims.{Claims, claims_as, first_of, group_claims}
use Rattle.items.proofs.Ideal.{start, early, at_head, at_field, closed, push, Pieces}
use Rattle.items.proofs.Turned.{first_up, says_closed}
use Rattle.items.proofs.Firsts.{claims_of, grown_claims, groups_same, claim_at}
use Rattle.judging.specs.declared.opening.Open.{Open}
use Rattle.judging.specs.declared.opening.Pend.{Pend}
use Rattle.judging.specs.Opening.{breaks_tail, fits_by, said_closed, span_closed, stated_closed, own_claims, close_claims, pend_of}
use Rattle.closing.proofs.Shutting.{claims_later}
use Rattle.judging.proofs.OpenField.{says_more, says_same, says_own, open_of, fits_is}

-- ---- which fields claim when they close
abbrev Tells : ℕ → Type 0
Tells i = (eqb (code_of i) 5 ≡ eqb i (named "IN")) × (eqb (code_of i) 6 ≡ ltb (sum_group i) 10)

-- an identifier that is written out is computed
module _ (i : ℕ) where
  by_name : (n : ℕ) → eqb i n ≡ true → Tells n → Tells i
  by_name n e h = subst Tells (sym (eqb-true i n e)) h

  -- neither KC nor IN nor a number: a group, if anything
  no_name : eqb i (named "KC") ≡ false → eqb i (named "EC") ≡ false → eqb i (named "AK") ≡ false → eqb i (named "ZK") ≡ false → eqb i (named "IN") ≡ false → Tells i
  unfolding code_of class_of sum_group
  no_name k e a z n = (
    (λ j. eqb (coded j) 5) ∙ never (among i group_fields) (among i account_fields) (among i text_fields) ∙ sym n,
    (λ j. eqb (coded j) 6) ∙ only (among i group_fields) (among i account_fields) (among i text_fields) ∙ sym (place_in i group_fields),
  )
    where
      coded : code_of i ≡ code_by (class_by false false false (among i group_fields) (among i account_fields) (among i text_fields))
      coded = λ j. code_by (class_by (k j || false) (e j || (a j || (z j || false))) (n j || false) (among i group_fields) (among i account_fields) (among i text_fields))

      never : (d f g : Bool) → eqb (code_by (class_by false false false d f g)) 5 ≡ false
      never true f g = refl
      never false true g = refl
      never false false true = refl
      never false false false = refl

      only : (d f g : Bool) → eqb (code_by (class_by false false false d f g)) 6 ≡ d
      only true f g = refl
      only false true g = refl
      only false false true = refl
      only false false false = refl

  tells : Tells i
  unfolding code_of class_of sum_group place
  tells = go (eqb i (named "KC")) (eqb i (named "EC")) (eqb i (named "AK")) (eqb i (named "ZK")) (eqb i (named "IN")) refl refl refl refl refl
    where
      go : (k e a z n : Bool) → eqb i (named "KC") ≡ k → eqb i (named "EC") ≡ e → eqb i (named "AK") ≡ a → eqb i (named "ZK") ≡ z → eqb i (named "IN") ≡ n → Tells i
      go true e a z n p q r t u = by_name (named "KC") p (refl, refl)
      go false true a z n p q r t u = by_name (named "EC") q (refl, refl)
      go false false true z n p q r t u = by_name (named "AK") r (refl, refl)
      go false false false true n p q r t u = by_name (named "ZK") t (refl, refl)
      go false false false false true p q r t u = by_name (named "IN") u (refl, refl)
      go false false false false false p q r t u = no_name p q r t u

-- ---- what is claimed with a field open
abbrev pub claims_now : Pieces → Claims
claims_now start = claims_of []
claims_now (early ups x ls) = claims_of []
claims_now (at_head b h ls) = claims_of []
claims_now (at_field b h hl ups x ls) = cond (eqb x.ident (named "KC")) (claims_of (closed x ls ∷ ups)) (claims_of ups)

-- what is kept of a field that waits
abbrev pub Pending : Pieces → Pend → Type 0
Pending start p = Unit {0}
Pending (early ups x ls) p = Unit {0}
Pending (at_head b h ls) p = Unit {0}
Pending (at_field b h hl ups x ls) p = leb 5 (code_of x.ident) ≡ true → p ≡ record { ident = x.ident; said = reading_of (class_of x.ident) (text_of x.row.bytes) }

grown_is : (ups : List (Owned FieldRow)) (x : FieldRow) (ls : List LowRow) → grown_claims ups x.ident (says (closed x ls)) ≡ claims_of (closed x ls ∷ ups)
unfolding first_up stands
grown_is ups x ls = refl

-- a KC takes any tail
kc_any : (x : FieldRow) (l : LowRow) (ls : List LowRow) → eqb x.ident (named "KC") ≡ true → says (closed x (l ∷ ls)) ≡ says (closed x ls)
kc_any x l ls e = go l.continues refl
  where
    free : breaks_tail (code_of x.ident) (suc (length (continuations ls))) (length l.row.bytes) ≡ false
    free = rw (eqb-true x.ident (named "KC") e) (unfold code_of class_of place in refl)

    go : (t : Bool) → l.continues ≡ t → says (closed x (l ∷ ls)) ≡ says (closed x ls)
    go true c = says_more x l ls c ∙ ap (λ (b : Bool). cond b Broken (says (closed x ls))) free
    go false c = says_same x l ls c

pub claims_low : (c : Pieces) (l : LowRow) → claims_now (push c (low l)) ≡ claims_now c
claims_low start l = refl
claims_low (early ups x ls) l = refl
claims_low (at_head b h ls) l = refl
claims_low (at_field b h hl ups x ls) l = go (eqb x.ident (named "KC")) refl
  where
    go : (t : Bool) → eqb x.ident (named "KC") ≡ t
        → cond t (claims_of (closed x (l ∷ ls) ∷ ups)) (claims_of ups) ≡ cond t (claims_of (closed x ls ∷ ups)) (claims_of ups)
    go true e = sym (grown_is ups x (l ∷ ls)) ∙ ap (grown_claims ups x.ident) (kc_any x l ls e) ∙ grown_is ups x ls
    go false e = refl

-- what it says, by its own line and bit 6
fitting : (t : Bool) (r : Reading) → if_fits (not (is_broken (if_fits t r))) r ≡ if_fits t r
fitting true Broken = refl
fitting true Plain = refl
fitting true (Paid a d) = refl
fitting true (Span a b) = refl
fitting true (Stated n a) = refl
fitting true (Party b) = refl
fitting false r = refl

said_by : (terms : Terms) (b : List Item) (h : Row) (hl : List LowRow) (ups : List (Owned FieldRow)) (x : FieldRow) (ls : List LowRow)
    → if_fits (fits_by (open_of terms (at_field b h hl ups x ls)).marks) (reading_of (class_of x.ident) (text_of x.row.bytes)) ≡ says (closed x ls)
said_by terms b h hl ups x ls =
    let r : Reading = reading_of (class_of x.ident) (text_of x.row.bytes) in
    ap (λ (t : Bool). if_fits t r) (fits_is terms (head_of (closed h hl)) ups x ls)
    ∙ ap (λ (s : Reading). if_fits (not (is_broken s)) r) (sym (says_closed x ls)) ∙ fitting (takes_by (class_of x.ident) (tail_of (continuations ls))) r ∙ says_closed x ls

-- the open field closes
pub claims_close : (terms : Terms) (c : Pieces) (p : Pend) → Pending c p → close_claims (claims_now c) (open_of terms c) p ≡ claims_later c
claims_close terms start p P = refl
claims_close terms (early ups x ls) p P = refl
claims_close terms (at_head b h ls) p P = refl
claims_close terms (at_field b h hl ups x ls) p P = go (eqb x.ident (named "KC")) refl
  where
    o : Open
    o = open_of terms (at_field b h hl ups x ls)

    c : Claims
    c = claims_of ups

    i : ℕ
    i = x.ident

    said : Reading
    said = says (closed x ls)

    -- it was kept
    waited : (k : ℕ) → leb 5 k ≡ true → eqb (code_of i) k ≡ true → (p.ident ≡ i) × (said_closed o p ≡ said)
    waited k m e =
        let q : p ≡ record { ident = i; said = reading_of (class_of i) (text_of x.row.bytes) } = P (ap (leb 5) (eqb-true (code_of i) k e) ∙ m) in
        (ap (λ (a : Pend). a.ident) q, ap (λ (a : Pend). if_fits (fits_by o.marks) a.said) q ∙ said_by terms b h hl ups x ls)

    span_is : span_closed c.span o p ≡ cond (eqb i (named "IN")) (first_of c.span (span_by said)) c.span
    span_is = by (eqb (code_of i) 5) refl ∙ ap (λ (t : Bool). cond t (first_of c.span (span_by said)) c.span) (tells i).0
      where
        by : (t : Bool) → eqb (code_of i) 5 ≡ t → cond t (first_of c.span (span_by (said_closed o p))) c.span ≡ cond t (first_of c.span (span_by said)) c.span
        by true e = ap (λ (r : Reading). first_of c.span (span_by r)) (waited 5 refl e).1
        by false e = refl

    groups_are : stated_closed c.sums o p ≡ group_claims c.sums (sum_group i) said
    groups_are = by (eqb (code_of i) 6) refl
      where
        by : (t : Bool) → eqb (code_of i) 6 ≡ t → cond t (group_claims c.sums (sum_group p.ident) (said_closed o p)) c.sums ≡ group_claims c.sums (sum_group i) said
        by true e = let w = waited 6 refl e in λ j. group_claims c.sums (sum_group (w.0 j)) (w.1 j)
        by false e = sym (groups_same c.sums (sum_group i) said (ltb-false (sum_group i) 10 (sym (tells i).1 ∙ e)))

    go : (t : Bool) → eqb i (named "KC") ≡ t → close_claims (cond t (claims_of (closed x ls ∷ ups)) c) o p ≡ claims_of (closed x ls ∷ ups)
    go true e = rw (eqb-true i (named "KC") e) (unfold code_of class_of place in refl)
    go false e =
        (λ j. claims_as (cond (sym e j) (first_of c.kc (kc_by said)) c.kc) (span_is j) (groups_are j)) ∙ claim_at ups i said ∙ grown_is ups x ls

-- a field opens in an item
own_claims_lem : (ups : List (Owned FieldRow)) (y : FieldRow)
    → cond (eqb y.ident (named "KC")) (claims_of (closed y [] ∷ ups)) (claims_of ups) ≡ own_claims (claims_of ups) y.ident (reading_of (class_of y.ident) (text_of y.row.bytes))
own_claims_lem ups y = go (eqb y.ident (named "KC")) refl
  where
    kc_other : eqb y.ident (named "KC") ≡ true → (eqb y.ident (named "IN") ≡ false) × (10 ≤ sum_group y.ident)
    kc_other e = rw (eqb-true y.ident (named "KC") e) (unfold sum_group place in (refl, omega arith))

    go : (t : Bool) → eqb y.ident (named "KC") ≡ t
        → cond t (claims_of (closed y [] ∷ ups)) (claims_of ups)
        ≡ claims_as (cond t (first_of (claims_of ups).kc (kc_by (reading_of (class_of y.ident) (text_of y.row.bytes)))) (claims_of ups).kc) (claims_of ups).span (claims_of ups).sums
    go true e =
        let c = claims_of ups in
        let said = says (closed y []) in
        let other = kc_other e in
        sym (grown_is ups y []) ∙ sym (claim_at ups y.ident said)
        ∙ (λ j. claims_as (cond (e j) (first_of c.kc (kc_by said)) c.kc) (cond (other.0 j) (first_of c.span (span_by said)) c.span) (groups_same c.sums (sum_group y.ident) said other.1 j))
        ∙ ap (λ (r : Reading). claims_as (first_of c.kc (kc_by r)) c.span c.sums) (says_own y)
    go false e = refl

abbrev pub headed : Pieces → Bool
headed start = false
headed (early ups x ls) = false
headed (at_head b h ls) = true
headed (at_field b h hl ups x ls) = true

pub claims_own : (c : Pieces) (y : FieldRow)
    → claims_now (push c (field y)) ≡ cond (headed c) (own_claims (claims_later c) y.ident (reading_of (class_of y.ident) (text_of y.row.bytes))) (claims_later c)
claims_own start y = refl
claims_own (early ups x ls) y = refl
claims_own (at_head b h ls) y = own_claims_lem [] y
claims_own (at_field b h hl ups x ls) y = own_claims_lem (closed x ls ∷ ups) y

-- what is kept of it
pub pending_own : (c : Pieces) (y : FieldRow) (p : Pend) → Pending (push c (field y)) (pend_of p y.ident (reading_of (class_of y.ident) (text_of y.row.bytes)))
pending_own start y p = tt
pending_own (early ups x ls) y p = tt
pending_own (at_head b h ls) y p = λ e. rw e
pending_own (at_field b h hl ups x ls) y p = λ e. rw e

pub pending_low : (c : Pieces) (l : LowRow) (p : Pend) → Pending c p → Pending (push c (low l)) p
pending_low start l p P = tt
pending_low (early ups x ls) l p P = tt
pending_low (at_head b h ls) l p P = tt
pending_low (at_field b h hl ups x ls) l p P = P
