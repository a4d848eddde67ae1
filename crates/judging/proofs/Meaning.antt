-- All that the pass holds, against what is open: the open field's four numbers, the heading's, the claims, the account, who waits, and
-- the lines at which identifiers last stood. What each line enters is what the pass puts out.
use mathlib.Core.Path.{◌≡◌, refl, sym, ap, ◌∙◌}
use mathlib.Core.Bool.{Bool, true, false, cond, not, ◌&&◌, ◌||◌}
use mathlib.Core.List.{List, [], ◌∷◌, ◌++◌}
use Prim.Native.Nat.{ℕ, zero, suc, ◌+◌, ◌≤◌, ◌<◌}
use native.Mathlib.Omega.{arith}
use lib.Dec.{eqb, ltb}
use lib.ListN.{length, get_or, set, length-set}
use lib.Seq.{get_or-set_same, get_or-set_other}
use borrow.Author.Tests.{le-ltb, lt-ltb, eqb-true, eqb-false}
use Rattle.laws.specs.Tests.{mark}
use Rattle.headings.specs.Reading.{heading_of}
use Rattle.fields.specs.declared.readings.Reading.{Reading}
use Rattle.fields.specs.Kinds.{named}
use Rattle.fields.specs.Classes.{class_of}
use Rattle.fields.specs.Codes.{code_of}
use Rattle.fields.specs.Readings.{text_of, reading_of}
use Rattle.rules.specs.Terms.{Terms}
use Rattle.rules.specs.Faults.{Fault}
use Rattle.rules.specs.Tests.{Spot}
use Rattle.rules.specs.Rows.{Row, FieldRow, LowRow, heading, field, low}
use Rattle.rules.specs.Tree.{Item, Owned}
use Rattle.rules.specs.LineRules.{nowhere, prelude}
use Rattle.rules.specs.LineRules.{inside as within}
use Rattle.rules.specs.Said.{stands, continued, head_of}
use Rattle.rules.specs.Spots.{low_spot}
use Rattle.ledger.specs.Marks.{insert_all, marked}
use Rattle.ledger.proofs.Insertion.{insert_all_append}
use Rattle.ledger.proofs.Entries.{put_all, put_all_append, put}
use Rattle.blocks.specs.declared.Block.{Block}
use Rattle.own_rules.specs.Model.{basis_of}
use Rattle.items.specs.Claims.{Claims, no_claims}
use Rattle.items.proofs.Ideal.{start, early, at_head, at_field, closed, push, waits, out, final, Pieces}
use Rattle.items.proofs.Turned.{continued_closed}
use Rattle.items.proofs.Firsts.{no_kc_is, claims_of, no_claims_is}
use Rattle.items.proofs.Puts.{above, above_then, fields_out, items_out, field_puts, head_puts, final_puts}
use Rattle.closing.specs.declared.Wait.{Wait}
use Rattle.judging.specs.declared.opening.Open.{Open}
use Rattle.judging.specs.declared.opening.Pend.{Pend}
use Rattle.closing.specs.Closing.{Ended, last_marks, close_as, close_faults}
use Rattle.judging.specs.Opening.{said_marks, no_open, low_open, own_claims, close_claims, pend_of, open_own, open_loose, low_marks_at}
use Rattle.closing.proofs.Sets.{line_marks}
use Rattle.judging.proofs.Sets.{low_marks, low_set}
use Rattle.closing.proofs.Shutting.{account_of, wait, last_out, item_says, Positive, claims_later, own_of, shut_of, read_now, no_zero, since_of}
use Rattle.judging.proofs.OpenField.{open_at, open_of, low_open_lem, early_open, field_open, close_open}
use Rattle.judging.proofs.Claimed.{claims_now, Pending, claims_low, claims_close, claims_own, pending_own, pending_low, headed}
use Rattle.headings.specs.declared.Heading.{Heading}
use Rattle.std.specs.Prelude.{None, Option}

-- ---- the lines at which identifiers last stood
-- the numbers of what is open, after n lines
abbrev pub Numbered : Pieces → ℕ → Type 0
Numbered start n = Unit {0}
Numbered (early ups x ls) n = (x.row.no ≤ n) × (x.ident < 1296)
Numbered (at_head b h ls) n = h.no ≤ n
Numbered (at_field b h hl ups x ls) n = (h.no < x.row.no) × (x.row.no ≤ n) × (x.ident < 1296)

set_le : (a : List ℕ) (i v n k : ℕ) → v ≤ n → get_or a k 0 ≤ n → get_or (set a i v) k 0 ≤ n
set_le [] i v n k h q = q
set_le (x ∷ a) zero v n zero h q = h
set_le (x ∷ a) zero v n (suc k) h q = q
set_le (x ∷ a) (suc i) v n zero h q = q
set_le (x ∷ a) (suc i) v n (suc k) h q = set_le a i v n k h q

-- a field more: its identifier stands at its line, the others where they stood
stood_on : (a : List ℕ) (since i v k : ℕ) (t : Bool) → i < length a → since < v → ltb since (get_or a k 0) ≡ t → ltb since (get_or (set a i v) k 0) ≡ (eqb i k || t)
stood_on a since i v k t h s e = go (eqb i k) refl
  where
    go : (q : Bool) → eqb i k ≡ q → ltb since (get_or (set a i v) k 0) ≡ (q || t)
    go true q =
        let same : i ≡ k = eqb-true i k q in
        ap (λ (j : ℕ). ltb since (get_or (set a i v) j 0)) (sym same) ∙ ap (ltb since) (get_or-set_same a i v 0 h) ∙ lt-ltb since v s
    go false q = ap (ltb since) (get_or-set_other a i k v 0 (λ p. eqb-false i k q (sym p))) ∙ e

-- inside an item: an identifier stood in a field of it exactly when it last stood below the heading
abbrev pub Stood : Pieces → List ℕ → Type 0
Stood start a = Unit {0}
Stood (early ups x ls) a = Unit {0}
Stood (at_head b h ls) a = (k : ℕ) → get_or a k 0 ≤ h.no
Stood (at_field b h hl ups x ls) a = (k : ℕ) → ltb h.no (get_or a k 0) ≡ stands k (closed x ls ∷ ups)

headed_is : (c : Pieces) → Positive c → eqb (since_of c) 0 ≡ not (headed c)
headed_is start P = refl
headed_is (early ups x ls) P = refl
headed_is (at_head b h ls) P = no_zero h.no P
headed_is (at_field b h hl ups x ls) P = no_zero h.no P.0

-- a heading with one line more below it
read_more : (h : Row) (l : LowRow) (ls : List LowRow) → head_of (closed h (l ∷ ls)) ≡ cond l.continues None (head_of (closed h ls))
unfolding head_of continued
read_more h l ls = rw (continued_closed (l ∷ ls), continued_closed ls) (go l.continues (continued ls))
  where
    go : (a b : Bool) → cond (a || b) None (heading_of h.bytes) ≡ cond a None (cond b None (heading_of h.bytes))
    go true b = refl
    go false b = refl

read_own : (h : Row) → head_of (closed h []) ≡ heading_of h.bytes
unfolding head_of continued
read_own h = refl

module _ (terms : Terms) where
  -- ---- a continuation or a line of no kind
  low_enters : (c : Pieces) → Positive c → (l : LowRow) (all : List Fault)
      → put_all put (out terms c (low l)) all ≡ insert_all (marked l.row.no (low_marks_at (line_marks l.row) (since_of c) (open_of terms c).no l.continues)) all
  unfolding low_spot low_marks
  low_enters start P l all = ap (λ (m : ℕ). insert_all (marked l.row.no m) all) (low_set nowhere l)
  low_enters (early ups x ls) P l all = rw (no_zero x.row.no P) (ap (λ (m : ℕ). insert_all (marked l.row.no m) all) (low_set prelude l))
  low_enters (at_head b h ls) P l all = rw (no_zero h.no P) (ap (λ (m : ℕ). insert_all (marked l.row.no m) all) (low_set within l))
  low_enters (at_field b h hl ups x ls) P l all = rw (no_zero h.no P.0) (ap (λ (m : ℕ). insert_all (marked l.row.no m) all) (low_set within l))

  -- a field opens in an item
  open_in : (b : List Item) (h : Row) (hl : List LowRow) (ups : List (Owned FieldRow)) (y : FieldRow) (again : Bool) → again ≡ stands y.ident ups
      → open_own (basis_of terms) (claims_of ups).kc (head_of (closed h hl)) y.row.no (line_marks y.row) again y.ident (reading_of (class_of y.ident) (text_of y.row.bytes))
      ≡ open_of terms (at_field b h hl ups y [])
  open_in b h hl ups y again e =
      (λ i. open_at y.row.no (line_marks y.row + mark 5 (e i) + said_marks (basis_of terms) (eqb y.ident (named "KC") && no_kc_is (named "KC") ups i) (head_of (closed h hl)) (reading_of (class_of y.ident) (text_of y.row.bytes))) (code_of y.ident) 0)
      ∙ sym (field_open terms b h hl ups y)

  -- ---- all that the pass holds
  pub record Means (c : Pieces) (n : ℕ) (o : Open) (since own : ℕ) (r : Option Heading) (cl : Claims) (p : Pend) (b : Block) (w : Wait) (stood : List ℕ) : Type 0 where
    pub open_is : o ≡ open_of terms c
    pub since_is : since ≡ since_of c
    pub own_is : own ≡ own_of c
    pub reads_as : r ≡ read_now c
    pub claims_are : cl ≡ claims_now c
    pub pending : Pending c p
    pub account_is : b ≡ account_of (above c)
    pub wait_is : w ≡ wait terms (above c)
    pub numbered : Numbered c n
    pub positive : Positive c
    pub long : length stood ≡ 1296
    pub past : (k : ℕ) → get_or stood k 0 ≤ n
    pub inside : Stood c stood

  module _ (c : Pieces) (n : ℕ) (o : Open) (since own : ℕ) (r : Option Heading) (cl : Claims) (p : Pend) (b : Block) (w : Wait) (stood : List ℕ) (M : Means c n o since own r cl p b w stood) where
    abbrev pub claimed : Claims
    claimed = close_claims cl o p

    claims_then : claimed ≡ claims_later c
    claims_then = (λ i. close_claims (M.claims_are i) (M.open_is i) p) ∙ claims_close terms c p M.pending

    abbrev pub closing : Ended
    closing = close_as (basis_of terms) b w since own r claimed

    closing_is : closing ≡ shut_of terms c
    closing_is = (λ i. close_as (basis_of terms) (M.account_is i) (M.wait_is i) (M.since_is i) (M.own_is i) (M.reads_as i) (claims_then i))

    pub low_out : (l : LowRow) (all : List Fault) → put_all put (out terms c (low l)) all ≡ insert_all (marked l.row.no (low_marks_at (line_marks l.row) since o.no l.continues)) all
    low_out l all = rw (M.since_is, M.open_is) (low_enters c M.positive l all)

    field_enters : (all : List Fault) → put_all put (fields_out terms c) all ≡ insert_all (marked o.no o.marks) all
    field_enters all = rw M.open_is (close_open terms c all)

    pub field_out : (y : FieldRow) (all : List Fault) → put_all put (out terms c (field y)) all ≡ insert_all (marked o.no o.marks) all
    field_out y all = ap (λ (es : List Spot). put_all put es all) (field_puts terms c y) ∙ field_enters all

    item_enters : (all : List Fault) → put_all put (items_out terms c) all ≡ insert_all (close_faults (basis_of terms) b w since own r claimed) all
    item_enters all =
        (item_says terms c M.positive all).0
        ∙ (λ i. insert_all (marked (sym M.since_is i) (sym closing_is i).marks) (insert_all (marked (sym M.wait_is i).line (sym closing_is i).told) all))
        ∙ sym (insert_all_append (marked w.line closing.told) (marked since closing.marks) all)

    all_enter : (all : List Fault)
        → put_all put (fields_out terms c ++ items_out terms c) all ≡ insert_all (marked o.no o.marks ++ close_faults (basis_of terms) b w since own r claimed) all
    all_enter all =
        put_all_append put (fields_out terms c) (items_out terms c) all ∙ ap (put_all put (items_out terms c)) (field_enters all)
        ∙ item_enters (insert_all (marked o.no o.marks) all)
        ∙ sym (insert_all_append (marked o.no o.marks) (close_faults (basis_of terms) b w since own r claimed) all)

    pub head_out : (k : Row) (all : List Fault) → put_all put (out terms c (heading k)) all ≡ insert_all (marked o.no o.marks ++ close_faults (basis_of terms) b w since own r claimed) all
    head_out k all = ap (λ (es : List Spot). put_all put es all) (head_puts terms c k) ∙ all_enter all

    pub final_out : (all : List Fault)
        → put_all put (final terms c) all
        ≡ insert_all (marked closing.wait.line (last_marks closing.block.course.any closing.wait)) (insert_all (marked o.no o.marks ++ close_faults (basis_of terms) b w since own r claimed) all)
    final_out all =
        let eb : closing.block ≡ account_of (above_then c) = ap (λ (x : Ended). x.block) closing_is ∙ (item_says terms c M.positive all).1 in
        let ew : closing.wait ≡ wait terms (above_then c) = ap (λ (x : Ended). x.wait) closing_is ∙ (item_says terms c M.positive all).2 in
        let now : List Fault = insert_all (marked o.no o.marks ++ close_faults (basis_of terms) b w since own r claimed) all in
        ap (λ (es : List Spot). put_all put es all) (final_puts terms c) ∙ put_all_append put (fields_out terms c ++ items_out terms c) (waits terms (above_then c) true) all
        ∙ ap (put_all put (waits terms (above_then c) true)) (all_enter all) ∙ last_out terms (above_then c) now
        ∙ sym (λ j. insert_all (marked (ew j).line (last_marks (eb j).course.any (ew j))) now)

    -- ---- and what it holds then
    pub means_low : (l : LowRow)
        → Means (push c (low l)) (suc n) (low_open l.continues o (length l.row.bytes)) since own (cond (l.continues && eqb o.no 0) None r) cl p b w stood
    means_low l = record {
      open_is = ap (λ (x : Open). low_open l.continues x (length l.row.bytes)) M.open_is ∙ sym (low_open_lem terms c l M.positive);
      since_is = M.since_is ∙ same_since c;
      own_is = M.own_is ∙ same_own c;
      reads_as = (λ i. cond (l.continues && eqb (M.open_is i).no 0) None (M.reads_as i)) ∙ reads c M.positive;
      claims_are = M.claims_are ∙ sym (claims_low c l);
      pending = pending_low c l p M.pending;
      account_is = M.account_is ∙ ap account_of (same_above c);
      wait_is = M.wait_is ∙ ap (wait terms) (same_above c);
      numbered = numbers c M.numbered;
      positive = stay c M.positive;
      long = M.long;
      past = λ k. let q : get_or stood k 0 ≤ n = M.past k in omega arith;
      inside = stays c M.inside;
    }
      where
        same_since : (c : Pieces) → since_of c ≡ since_of (push c (low l))
        same_since start = refl
        same_since (early ups x ls) = refl
        same_since (at_head b h ls) = refl
        same_since (at_field b h hl ups x ls) = refl

        same_own : (c : Pieces) → own_of c ≡ own_of (push c (low l))
        same_own start = refl
        same_own (early ups x ls) = refl
        same_own (at_head b h ls) = refl
        same_own (at_field b h hl ups x ls) = refl

        both : (t : Bool) → ◌≡◌ {A = Option Heading} (cond t None None) None
        both true = refl
        both false = refl

        off : (t : Bool) (x : Option Heading) → cond (t && false) None x ≡ x
        off true x = refl
        off false x = refl

        on : (t : Bool) (x : Option Heading) → cond (t && true) None x ≡ cond t None x
        on true x = refl
        on false x = refl

        reads : (c : Pieces) → Positive c → cond (l.continues && eqb (open_of terms c).no 0) None (read_now c) ≡ read_now (push c (low l))
        reads start P = both (l.continues && true)
        reads (early ups x ls) P = both (l.continues && eqb x.row.no 0)
        reads (at_head b h ls) P = on l.continues (head_of (closed h ls)) ∙ sym (read_more h l ls)
        reads (at_field b h hl ups x ls) P = rw (no_zero x.row.no P.1) (off l.continues (head_of (closed h hl)))

        same_above : (c : Pieces) → above c ≡ above (push c (low l))
        same_above start = refl
        same_above (early ups x ls) = refl
        same_above (at_head b h ls) = refl
        same_above (at_field b h hl ups x ls) = refl

        numbers : (c : Pieces) → Numbered c n → Numbered (push c (low l)) (suc n)
        numbers start N = tt
        numbers (early ups x ls) N = (omega (arith, N), omega (arith, N))
        numbers (at_head b h ls) N = omega arith
        numbers (at_field b h hl ups x ls) N = (omega (arith, N), omega (arith, N), omega (arith, N))

        stay : (c : Pieces) → Positive c → Positive (push c (low l))
        stay start P = tt
        stay (early ups x ls) P = P
        stay (at_head b h ls) P = P
        stay (at_field b h hl ups x ls) P = P

        stays : (c : Pieces) → Stood c stood → Stood (push c (low l)) stood
        stays start I = tt
        stays (early ups x ls) I = tt
        stays (at_head b h ls) I = I
        stays (at_field b h hl ups x ls) I = λ k. unfold stands in I k

    pub means_field : (y : FieldRow) → y.row.no ≡ suc n → y.ident < 1296
        → let said = reading_of (class_of y.ident) (text_of y.row.bytes) in
        Means (push c (field y)) (suc n)
        (cond (eqb since 0) (open_loose y.row.no (line_marks y.row))
        (open_own (basis_of terms) claimed.kc r y.row.no (line_marks y.row) (ltb since (get_or stood y.ident 0)) y.ident said))
        since own r (cond (eqb since 0) claimed (own_claims claimed y.ident said)) (cond (eqb since 0) p (pend_of p y.ident said)) b w (set stood y.ident y.row.no)
    means_field y e small = record {
      open_is = (λ i. cond (eqb (M.since_is i) 0) (open_loose y.row.no (line_marks y.row))
          (open_own (basis_of terms) (claims_then i).kc (M.reads_as i) y.row.no (line_marks y.row) (ltb (M.since_is i) (get_or stood y.ident 0)) y.ident said))
          ∙ opens c M.positive M.inside;
      since_is = M.since_is ∙ same_since c;
      own_is = M.own_is ∙ same_own c;
      reads_as = M.reads_as ∙ same_read c;
      claims_are = (λ i. cond (eqb (M.since_is i) 0) (claims_then i) (own_claims (claims_then i) y.ident said))
          ∙ (λ i. cond (headed_is c M.positive i) (claims_later c) (own_claims (claims_later c) y.ident said)) ∙ turn (headed c) (claims_later c) (own_claims (claims_later c) y.ident said)
          ∙ sym (claims_own c y);
      pending = rw M.since_is (pends c M.positive);
      account_is = M.account_is ∙ ap account_of (same_above c);
      wait_is = M.wait_is ∙ ap (wait terms) (same_above c);
      numbered = numbers c M.numbered;
      positive = stay c M.positive;
      long = length-set stood y.ident y.row.no ∙ M.long;
      past = λ k. set_le stood y.ident y.row.no (suc n) k (omega arith) (let q : get_or stood k 0 ≤ n = M.past k in omega arith);
      inside = stays c M.inside M.numbered;
    }
      where
        said : Reading
        said = reading_of (class_of y.ident) (text_of y.row.bytes)

        turn : (t : Bool) (a x : Claims) → cond (not t) a x ≡ cond t x a
        turn true a x = refl
        turn false a x = refl

        opens : (c : Pieces) → Positive c → Stood c stood
            → cond (eqb (since_of c) 0) (open_loose y.row.no (line_marks y.row))
            (open_own (basis_of terms) (claims_later c).kc (read_now c) y.row.no (line_marks y.row) (ltb (since_of c) (get_or stood y.ident 0)) y.ident said)
            ≡ open_of terms (push c (field y))
        opens start P I = sym (early_open terms [] y)
        opens (early ups x ls) P I = sym (early_open terms (closed x ls ∷ ups) y)
        opens (at_head b h ls) P I = rw (no_zero h.no P) (open_in b h ls [] y (ltb h.no (get_or stood y.ident 0)) (unfold stands in le-ltb h.no (get_or stood y.ident 0) (I y.ident)))
        opens (at_field b h hl ups x ls) P I = rw (no_zero h.no P.0) (open_in b h hl (closed x ls ∷ ups) y (ltb h.no (get_or stood y.ident 0)) (I y.ident))

        same_since : (c : Pieces) → since_of c ≡ since_of (push c (field y))
        same_since start = refl
        same_since (early ups x ls) = refl
        same_since (at_head b h ls) = refl
        same_since (at_field b h hl ups x ls) = refl

        same_own : (c : Pieces) → own_of c ≡ own_of (push c (field y))
        same_own start = refl
        same_own (early ups x ls) = refl
        same_own (at_head b h ls) = refl
        same_own (at_field b h hl ups x ls) = refl

        same_read : (c : Pieces) → read_now c ≡ read_now (push c (field y))
        same_read start = refl
        same_read (early ups x ls) = refl
        same_read (at_head b h ls) = refl
        same_read (at_field b h hl ups x ls) = refl

        pends : (c : Pieces) → Positive c → Pending (push c (field y)) (cond (eqb (since_of c) 0) p (pend_of p y.ident said))
        pends start P = tt
        pends (early ups x ls) P = tt
        pends (at_head b h ls) P = rw (no_zero h.no P) (pending_own (at_head b h ls) y p)
        pends (at_field b h hl ups x ls) P = rw (no_zero h.no P.0) (pending_own (at_field b h hl ups x ls) y p)

        same_above : (c : Pieces) → above c ≡ above (push c (field y))
        same_above start = refl
        same_above (early ups x ls) = refl
        same_above (at_head b h ls) = refl
        same_above (at_field b h hl ups x ls) = refl

        numbers : (c : Pieces) → Numbered c n → Numbered (push c (field y)) (suc n)
        numbers start N = (omega arith, small)
        numbers (early ups x ls) N = (omega arith, small)
        numbers (at_head b h ls) N = (omega arith, omega arith, small)
        numbers (at_field b h hl ups x ls) N = (omega (arith, N), omega arith, small)

        stay : (c : Pieces) → Positive c → Positive (push c (field y))
        stay start P = omega arith
        stay (early ups x ls) P = omega arith
        stay (at_head b h ls) P = (P, omega arith)
        stay (at_field b h hl ups x ls) P = (P.0, omega arith)

        stays : (c : Pieces) → Stood c stood → Numbered c n → Stood (push c (field y)) (set stood y.ident y.row.no)
        stays start I N = tt
        stays (early ups x ls) I N = tt
        stays (at_head b h ls) I N =
            λ k. unfold stands in stood_on stood h.no y.ident y.row.no k false (omega (arith, M.long)) (omega arith) (le-ltb h.no (get_or stood k 0) (I k))
        stays (at_field b h hl ups x ls) I N =
            λ k. unfold stands in stood_on stood h.no y.ident y.row.no k (stands k (closed x ls ∷ ups)) (omega (arith, M.long)) (omega (arith, N)) (I k)

    pub means_head : (k : Row) → k.no ≡ suc n
        → Means (push c (heading k)) (suc n) no_open k.no (line_marks k) (heading_of k.bytes) no_claims p closing.block closing.wait stood
    means_head k e = record {
      open_is = opens c;
      since_is = since_then c;
      own_is = own_then c;
      reads_as = sym (read_own k) ∙ read_then c;
      claims_are = no_claims_is ∙ none c;
      pending = pends c;
      account_is = ap (λ (x : Ended). x.block) closing_is ∙ (item_says terms c M.positive []).1 ∙ ap account_of (same c);
      wait_is = ap (λ (x : Ended). x.wait) closing_is ∙ (item_says terms c M.positive []).2 ∙ ap (wait terms) (same c);
      numbered = numbers c;
      positive = stay c;
      long = M.long;
      past = λ j. let q : get_or stood j 0 ≤ n = M.past j in omega arith;
      inside = stays c;
    }
      where
        opens : (c : Pieces) → no_open ≡ open_of terms (push c (heading k))
        opens start = refl
        opens (early ups x ls) = refl
        opens (at_head b h ls) = refl
        opens (at_field b h hl ups x ls) = refl

        since_then : (c : Pieces) → k.no ≡ since_of (push c (heading k))
        since_then start = refl
        since_then (early ups x ls) = refl
        since_then (at_head b h ls) = refl
        since_then (at_field b h hl ups x ls) = refl

        own_then : (c : Pieces) → line_marks k ≡ own_of (push c (heading k))
        own_then start = refl
        own_then (early ups x ls) = refl
        own_then (at_head b h ls) = refl
        own_then (at_field b h hl ups x ls) = refl

        read_then : (c : Pieces) → head_of (closed k []) ≡ read_now (push c (heading k))
        read_then start = refl
        read_then (early ups x ls) = refl
        read_then (at_head b h ls) = refl
        read_then (at_field b h hl ups x ls) = refl

        none : (c : Pieces) → claims_of [] ≡ claims_now (push c (heading k))
        none start = refl
        none (early ups x ls) = refl
        none (at_head b h ls) = refl
        none (at_field b h hl ups x ls) = refl

        pends : (c : Pieces) → Pending (push c (heading k)) p
        pends start = tt
        pends (early ups x ls) = tt
        pends (at_head b h ls) = tt
        pends (at_field b h hl ups x ls) = tt

        same : (c : Pieces) → above_then c ≡ above (push c (heading k))
        same start = refl
        same (early ups x ls) = refl
        same (at_head b h ls) = refl
        same (at_field b h hl ups x ls) = refl

        numbers : (c : Pieces) → Numbered (push c (heading k)) (suc n)
        numbers start = omega arith
        numbers (early ups x ls) = omega arith
        numbers (at_head b h ls) = omega arith
        numbers (at_field b h hl ups x ls) = omega arith

        stay : (c : Pieces) → Positive (push c (heading k))
        stay start = omega arith
        stay (early ups x ls) = omega arith
        stay (at_head b h ls) = omega arith
        stay (at_field b h hl ups x ls) = omega arith

        first : (j : ℕ) → get_or stood j 0 ≤ k.no
        first j = let q : get_or stood j 0 ≤ n = M.past j in omega arith

        stays : (c : Pieces) → Stood (push c (heading k)) stood
        stays start = first
        stays (early ups x ls) = first
        stays (at_head b h ls) = first
        stays (at_field b h hl ups x ls) = first
