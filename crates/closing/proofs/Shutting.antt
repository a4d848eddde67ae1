-- An item closes: the account, the heading that waits for 16, and what is entered, against the tree.
use mathlib.Core.Path.{◌≡◌, refl, sym, ap, ◌∙◌}
use mathlib.Core.Bool.{Bool, true, false, cond, not}
use mathlib.Core.List.{List, [], ◌∷◌, map}
use Prim.Native.Nat.{ℕ, ◌+◌, ◌^◌, ◌<◌}
use native.Mathlib.Nat.{add-zero}
use native.Mathlib.Omega.{arith}
use lib.Dec.{eqb}
use borrow.Author.Tests.{ne_eqb}
use Rattle.laws.specs.Tests.{mark}
use Rattle.fields.specs.Kinds.{named}
use Rattle.rules.specs.Terms.{Terms}
use Rattle.rules.specs.Faults.{Fault}
use Rattle.rules.specs.Blocks.{empty, closes_at, block_above}
use Rattle.rules.specs.Rows.{Row, FieldRow, LowRow}
use Rattle.rules.specs.Tree.{Owned, Item}
use Rattle.rules.specs.Said.{head_of, is_unreadable, is, is_group, kc_of, span_of, stated_of, ten_sums, digest}
use Rattle.ledger.specs.Marks.{marked, insert_all}
use Rattle.ledger.proofs.Marks.{no_rules}
use Rattle.ledger.proofs.Entries.{put_all, put_all_append, put}
use Rattle.blocks.specs.declared.Block.{Block}
use Rattle.own_rules.specs.Model.{basis_of}
use Rattle.account.specs.Model.{close_model}
use Rattle.account.specs.Summary.{summary, marks_by}
use Rattle.account.proofs.Accounting.{account}
use Rattle.items.specs.Claims.{Claims}
use Rattle.items.proofs.Ideal.{head_spot_as, ends, fresh, start, early, at_head, at_field, closed, item, waits_at, out_at, waits, heads_out, Pieces}
use Rattle.items.proofs.Puts.{above, above_then, items_out}
use Rattle.items.proofs.Turned.{first_closed}
use Rattle.items.proofs.Firsts.{claims_of}
use Rattle.closing.specs.declared.Wait.{Wait}
use Rattle.closing.specs.Closing.{Ended, no_wait, shut, shut_as, digest_of, close_as, last_marks}
use Rattle.closing.proofs.Sets.{line_marks, head_marks, head_set}
use Rattle.closing.proofs.Within.{digest_within}
use Rattle.headings.specs.declared.Heading.{Heading}
use Rattle.std.specs.Prelude.{None, Option}

pub no_zero : (n : ℕ) → 0 < n → eqb n 0 ≡ false
no_zero n h = ne_eqb n 0 (λ z. omega arith)

-- no marks, nothing entered
pub put_none : (n : ℕ) (l : List Fault) → insert_all (marked n 0) l ≡ l
unfolding insert_all
put_none n l = rw no_rules

-- the account of the items above
abbrev pub account_of : List Item → Block
account_of b = summary (map digest b)

pub any_is : (b : List Item) → (account_of b).course.any ≡ not (fresh b)
unfolding summary
any_is b = refl

abbrev pub wait_next : (ends first : Bool) → Wait → Wait → Wait
wait_next true e w x = no_wait
wait_next false true w x = x
wait_next false false w x = w

module _ (terms : Terms) where
  -- the heading that waits
  abbrev pub wait : List Item → Wait
  wait [] = no_wait
  wait (i ∷ b) = wait_next (ends i) (fresh b) (wait b) (record { line = i.head.owner.no; marks = head_marks terms b i })

  -- a heading put in, with 16 decided
  head_put : (z : Bool) (b : List Item) (i : Item) (l : List Fault) → put (head_spot_as terms z b i) l ≡ insert_all (marked i.head.owner.no (head_marks terms b i + mark 16 z)) l
  head_put z b i l = ap (λ (m : ℕ). insert_all (marked i.head.owner.no m) l) (head_set terms z b i)

  -- what is entered of it
  abbrev told : Bool → Wait → Bool → List Fault
  told true w z = []
  told false w z = marked w.line (w.marks + mark 16 z)

  waits_is : (b : List Item) (z : Bool) (l : List Fault) → put_all put (waits terms b z) l ≡ insert_all (told (fresh b) (wait b) z) l
  unfolding insert_all
  waits_is [] z l = refl
  waits_is (i ∷ b) z l = go (ends i) (fresh b) (waits_is b z l)
    where
      go : (t e : Bool) → put_all put (waits terms b z) l ≡ insert_all (told e (wait b) z) l
          → put_all put (waits_at t e (waits terms b z) (head_spot_as terms z b i)) l
          ≡ insert_all (told (empty (cond t [] (digest i ∷ block_above (map digest b)))) (wait_next t e (wait b) (record { line = i.head.owner.no; marks = head_marks terms b i })) z) l
      go true e ih = refl
      go false true ih = head_put z b i l
      go false false ih = ih

  pub last_out : (b : List Item) (l : List Fault) → put_all put (waits terms b true) l ≡ insert_all (marked (wait b).line (last_marks (account_of b).course.any (wait b))) l
  unfolding last_marks summary insert_all
  last_out b l = waits_is b true l ∙ go (fresh b) (wait b)
    where
      go : (e : Bool) (w : Wait) → insert_all (told e w true) l ≡ insert_all (marked w.line (cond (not e) (w.marks + 2 ^ 16) 0)) l
      go true w = sym (put_none w.line l)
      go false w = refl

  -- an item closes, whose heading is h with the lines hl below it, and whose fields are gs, nearest first
  module _ (b : List Item) (h : Row) (hl : List LowRow) (gs : List (Owned FieldRow)) where
    abbrev pub it : Item
    it = item (closed h hl) gs

    digest_is : digest_of (head_of (closed h hl)) (claims_of gs) ≡ digest it
    unfolding digest
    digest_is = λ j. record {
      head = head_of (closed h hl);
      kc = kc_of (sym (first_closed (is (named "KC")) gs) j);
      span = span_of (sym (first_closed (is (named "IN")) gs) j);
      sums = record { groups = ten_sums (λ d. record { stated = stated_of (sym (first_closed (is_group d) gs) j) }) };
    }

    marks_is : line_marks h + mark 6 (is_unreadable (digest it).head) + marks_by terms (map digest b) (digest it) (digest it).head ≡ head_marks terms b it
    unfolding head_marks digest
    marks_is = refl

    -- what closing gives, by whether the item ends its block and is the first of it
    abbrev pub closes_as : (t e : Bool) → Ended
    closes_as true e = shut (account_of (it ∷ b)) (wait (it ∷ b)) (cond (not e) (wait b).marks 0) (head_marks terms b it)
    closes_as false true = shut (account_of (it ∷ b)) (wait (it ∷ b)) 0 0
    closes_as false false = shut (account_of (it ∷ b)) (wait (it ∷ b)) 0 (head_marks terms b it)

    wait_at : (t e : Bool) → ends it ≡ t → fresh b ≡ e → wait (it ∷ b) ≡ wait_next t e (wait b) (record { line = h.no; marks = head_marks terms b it })
    wait_at t e p q = λ i. wait_next (p i) (q i) (wait b) (record { line = h.no; marks = head_marks terms b it })

    closes : (t e : Bool) → ends it ≡ t → fresh b ≡ e
        → shut_as true t (not e) (account_of b) (account_of (it ∷ b)) (wait b) h.no (head_marks terms b it) ≡ closes_as t e
    closes true e p q = ap (λ (w : Wait). shut (account_of (it ∷ b)) w (cond (not e) (wait b).marks 0) (head_marks terms b it)) (sym (wait_at true e p q))
    closes false true p q = ap (λ (w : Wait). shut (account_of (it ∷ b)) w 0 0) (sym (wait_at false true p q))
    closes false false p q = ap (λ (w : Wait). shut (account_of (it ∷ b)) w 0 (head_marks terms b it)) (sym (wait_at false false p q))

    -- the code's closing of this item
    pub shut_is : 0 < h.no → close_as (basis_of terms) (account_of b) (wait b) h.no (line_marks h) (head_of (closed h hl)) (claims_of gs) ≡ closes_as (ends it) (fresh b)
    unfolding close_as
    shut_is P =
        (λ j. let d = digest_is j in
        let c = close_model (basis_of terms) (account_of b) d in
        shut_as (not (no_zero h.no P j)) (closes_at d.head) (any_is b j) (account_of b) c.block (wait b) h.no (line_marks h + mark 6 (is_unreadable d.head) + c.marks))
        ∙ (λ j. let c = account terms (map digest b) (digest it) (digest_within it) j in
        shut_as true (ends it) (not (fresh b)) (account_of b) c.block (wait b) h.no (line_marks h + mark 6 (is_unreadable (digest it).head) + c.marks))
        ∙ ap (shut_as true (ends it) (not (fresh b)) (account_of b) (account_of (it ∷ b)) (wait b) h.no) marks_is
        ∙ closes (ends it) (fresh b) refl refl

    pub account_of_lem : (t e : Bool) → (closes_as t e).block ≡ account_of (it ∷ b)
    account_of_lem true e = refl
    account_of_lem false true = refl
    account_of_lem false false = refl

    pub wait_of : (t e : Bool) → (closes_as t e).wait ≡ wait (it ∷ b)
    wait_of true e = refl
    wait_of false true = refl
    wait_of false false = refl

    pub item_out : (l : List Fault) → let c = closes_as (ends it) (fresh b) in
        put_all put (heads_out terms b it) l ≡ insert_all (marked h.no c.marks) (insert_all (marked (wait b).line c.told) l)
    unfolding insert_all
    item_out l = go (ends it) (fresh b) (waits_is b false l)
      where
        own : (m : List Fault) → put (head_spot_as terms false b it) m ≡ insert_all (marked h.no (head_marks terms b it)) m
        own m = head_put false b it m ∙ ap (λ (n : ℕ). insert_all (marked h.no n) m) (add-zero (head_marks terms b it))

        go : (t e : Bool) → put_all put (waits terms b false) l ≡ insert_all (told e (wait b) false) l
            → put_all put (out_at t e (waits terms b false) (head_spot_as terms false b it)) l
            ≡ insert_all (marked h.no (closes_as t e).marks) (insert_all (marked (wait b).line (closes_as t e).told) l)
        go true true w =
            put_all_append put (waits terms b false) (head_spot_as terms false b it ∷ []) l ∙ own (put_all put (waits terms b false) l)
            ∙ ap (insert_all (marked h.no (head_marks terms b it))) (w ∙ sym (put_none (wait b).line l))
        go true false w =
            put_all_append put (waits terms b false) (head_spot_as terms false b it ∷ []) l ∙ own (put_all put (waits terms b false) l)
            ∙ ap (insert_all (marked h.no (head_marks terms b it))) (w ∙ ap (λ (n : ℕ). insert_all (marked (wait b).line n) l) (add-zero (wait b).marks))
        go false true w = sym (put_none h.no (insert_all (marked (wait b).line 0) l) ∙ put_none (wait b).line l)
        go false false w = own l ∙ ap (insert_all (marked h.no (head_marks terms b it))) (sym (put_none (wait b).line l))

-- ---- the item that is open closes
-- its heading's line, the marks of that line, and what it reads as
abbrev pub since_of : Pieces → ℕ
since_of start = 0
since_of (early ups x ls) = 0
since_of (at_head b h ls) = h.no
since_of (at_field b h hl ups x ls) = h.no

abbrev pub own_of : Pieces → ℕ
own_of start = 0
own_of (early ups x ls) = 0
own_of (at_head b h ls) = line_marks h
own_of (at_field b h hl ups x ls) = line_marks h

abbrev pub read_now : Pieces → Option Heading
read_now start = None
read_now (early ups x ls) = None
read_now (at_head b h ls) = head_of (closed h ls)
read_now (at_field b h hl ups x ls) = head_of (closed h hl)

-- what its fields claim, the open one among them
abbrev pub claims_later : Pieces → Claims
claims_later start = claims_of []
claims_later (early ups x ls) = claims_of []
claims_later (at_head b h ls) = claims_of []
claims_later (at_field b h hl ups x ls) = claims_of (closed x ls ∷ ups)

-- the numbers of what is open are none of them 0
abbrev pub Positive : Pieces → Type 0
Positive start = Unit {0}
Positive (early ups x ls) = 0 < x.row.no
Positive (at_head b h ls) = 0 < h.no
Positive (at_field b h hl ups x ls) = (0 < h.no) × (0 < x.row.no)

module _ (terms : Terms) where
  abbrev pub shut_of : Pieces → Ended
  shut_of c = close_as (basis_of terms) (account_of (above c)) (wait terms (above c)) (since_of c) (own_of c) (read_now c) (claims_later c)

  pub item_says : (c : Pieces) → Positive c → (l : List Fault)
      → (put_all put (items_out terms c) l ≡ insert_all (marked (since_of c) (shut_of c).marks) (insert_all (marked (wait terms (above c)).line (shut_of c).told) l))
      × ((shut_of c).block ≡ account_of (above_then c)) × ((shut_of c).wait ≡ wait terms (above_then c))
  unfolding close_as
  item_says start P l = (sym (put_none 0 (insert_all (marked 0 0) l) ∙ put_none 0 l), refl, refl)
  item_says (early ups x ls) P l = (sym (put_none 0 (insert_all (marked 0 0) l) ∙ put_none 0 l), refl, refl)
  item_says (at_head b h ls) P l =
      let e = shut_is terms b h ls [] P in
      let i = item (closed h ls) [] in
      rw e (item_out terms b h ls [] l, account_of_lem terms b h ls [] (ends i) (fresh b), wait_of terms b h ls [] (ends i) (fresh b))
  item_says (at_field b h hl ups x ls) P l =
      let e = shut_is terms b h hl (closed x ls ∷ ups) P.0 in
      let i = item (closed h hl) (closed x ls ∷ ups) in
      rw e (item_out terms b h hl (closed x ls ∷ ups) l, account_of_lem terms b h hl (closed x ls ∷ ups) (ends i) (fresh b), wait_of terms b h hl (closed x ls ∷ ups) (ends i) (fresh b))
