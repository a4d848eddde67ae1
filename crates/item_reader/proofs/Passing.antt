-- What the jobs see of some lines, line by line: a line that is no heading and no KC says nothing, and its number does not matter.
use Prim.Native.Nat.{ℕ, suc, ◌<◌}
use native.Mathlib.Omega.{arith}
use mathlib.Core.Path.{◌≡◌, refl, sym, ap, subst, ◌∙◌}
use mathlib.Core.Bool.{Bool, true, false, cond}
use mathlib.Core.List.{List, [], ◌∷◌, map}
use lib.Dec.{eqb}
use borrow.Author.Tests.{eqb-true}
use Rattle.laws.specs.Ascii.{ascii}
use Rattle.laws.specs.Tests.{is_byte}
use Rattle.laws.proofs.Truth.{never_true, both_left, both_right, by_test}
use Rattle.text.specs.Strings.{begins}
use Rattle.lines.specs.Lines.{Line, crlf, onto, lines}
use Rattle.lines.proofs.Lines.{lines_cut, lines_on, crlf_not}
use Rattle.headings.specs.Reading.{heading_of}
use Rattle.figures.specs.Layouts.{fits, part}
use Rattle.figures.proofs.Runs.{run_value}
use Rattle.fields.specs.declared.kinds.Kind.{Kind}
use Rattle.fields.specs.declared.kinds.Kind.TheVariants.{Heading, Continuation, Field, Other}
use Rattle.fields.specs.declared.classes.Class.TheVariants.{Money}
use Rattle.fields.specs.Kinds.{named, place, kind_of}
use Rattle.fields.specs.Classes.{class_of}
use Rattle.fields.specs.Readings.{text_of, layout_of, reading_of}
use Rattle.fields.specs.Tails.{takes, says_of}
use Rattle.rules.specs.declared.First.{First}
use Rattle.rules.specs.declared.First.TheVariants.{Missing}
use Rattle.rules.specs.declared.Payment.{Payment}
use Rattle.rules.specs.Rows.{Row, FieldRow, LowRow, sorted, sorted_as, rows_from}
use Rattle.rules.specs.Tree.{Owned, File, tree, ◌▹◌}
use Rattle.rules.specs.Said.{says, continued, head_of, or_else, if_there, first_said, is, kc_by, kc_of}
use Rattle.item_reader.specs.declared.Slip.{Slip}
use Rattle.item_reader.specs.Slips.{amount_of, kc_among, slip_of}
use Rattle.item_reader.proofs.Starts.{kind_told, heading_not, kc_not}
use Rattle.std.specs.Prelude.{None}

-- ---- the first KC
-- a KC says what its own line says: its continuations are carried unread
pub says_kc : (row : Row) (ls : List LowRow) → says (record { owner = record { row = row; ident = named "KC" }; below = ls }) ≡ reading_of Money (text_of row.bytes)
unfolding says says_of class_of takes place
says_kc row ls = refl

kc_first : (row : Row) (i : ℕ) (ls : List LowRow) (gs : List (Owned FieldRow)) → i ≡ named "KC"
    → kc_among (record { owner = record { row = row; ident = i }; below = ls } ∷ gs) ≡ kc_by (reading_of Money (text_of row.bytes))
unfolding first_said place
kc_first row i ls gs e =
    ap (λ (j : ℕ). kc_among (record { owner = record { row = row; ident = j }; below = ls } ∷ gs)) e ∙ ap kc_by (says_kc row ls)

kc_other : (row : Row) (i : ℕ) (ls : List LowRow) (gs : List (Owned FieldRow)) → eqb i (named "KC") ≡ false
    → kc_among (record { owner = record { row = row; ident = i }; below = ls } ∷ gs) ≡ kc_among gs
unfolding first_said
kc_other row i ls gs e =
    ap (λ (t : Bool). kc_of (or_else (if_there t (says (record { owner = record { row = row; ident = i }; below = ls }))) (first_said (is (named "KC")) gs))) e

-- amounts have fifteen digits at most
paid_small : (s : List ℕ) → amount_of (kc_by (reading_of Money s)) < 1000000000000000
unfolding reading_of part
paid_small s = by_test (fits (layout_of Money).own s)
    (λ q. rw q (run_value 15 s))
    (λ q. rw q (omega arith))

-- ---- what is seen of some lines, the first of which has the number n
abbrev pub slips_in : ℕ → List Line → List Slip
slips_in n ls = map slip_of (tree (rows_from n ls)).items

abbrev pub kc_in : ℕ → List Line → First Payment
kc_in n ls = kc_among (tree (rows_from n ls)).loose

abbrev pub top_in : ℕ → List Line → Bool
top_in n ls = continued (tree (rows_from n ls)).top

pub none_in : (n : ℕ) → (slips_in n [] ≡ []) × (kc_in n [] ≡ Missing) × (top_in n [] ≡ false)
unfolding rows_from continued first_said
none_in n = (refl, refl, refl)

abbrev row_of : ℕ → Line → Row
row_of n l = record { no = n; bytes = l.bytes; ended = l.ended }

-- by the kind of the first line
module _ (l : Line) (ls : List Line) (n : ℕ) where
  abbrev rest : File
  rest = tree (rows_from (suc n) ls)

  cut_at : (k : Kind) → kind_of l.bytes ≡ k → tree (rows_from n (l ∷ ls)) ≡ sorted_as k (row_of n l) ▹ rest
  unfolding rows_from sorted
  cut_at k e = ap (λ (q : Kind). sorted_as q (row_of n l) ▹ rest) e

  in_heading : kind_of l.bytes ≡ Heading
      → (slips_in n (l ∷ ls) ≡ record { head = cond (top_in (suc n) ls) None (heading_of l.bytes); kc = kc_in (suc n) ls } ∷ slips_in (suc n) ls) × (kc_in n (l ∷ ls) ≡ Missing) × (top_in n (l ∷ ls) ≡ false)
  unfolding head_of first_said continued
  in_heading e =
      let c = cut_at Heading e in
      (ap (λ (f : File). map slip_of f.items) c, ap (λ (f : File). kc_among f.loose) c, ap (λ (f : File). continued f.top) c)

  in_continuation : kind_of l.bytes ≡ Continuation → (slips_in n (l ∷ ls) ≡ slips_in (suc n) ls) × (kc_in n (l ∷ ls) ≡ kc_in (suc n) ls) × (top_in n (l ∷ ls) ≡ true)
  unfolding continued
  in_continuation e =
      let c = cut_at Continuation e in
      (ap (λ (f : File). map slip_of f.items) c, ap (λ (f : File). kc_among f.loose) c, ap (λ (f : File). continued f.top) c)

  in_other : kind_of l.bytes ≡ Other → (slips_in n (l ∷ ls) ≡ slips_in (suc n) ls) × (kc_in n (l ∷ ls) ≡ kc_in (suc n) ls) × (top_in n (l ∷ ls) ≡ top_in (suc n) ls)
  unfolding continued
  in_other e =
      let c = cut_at Other e in
      (ap (λ (f : File). map slip_of f.items) c, ap (λ (f : File). kc_among f.loose) c, ap (λ (f : File). continued f.top) c)

  module _ (i : ℕ) (e : kind_of l.bytes ≡ Field i) where
    in_field : (slips_in n (l ∷ ls) ≡ slips_in (suc n) ls) × (top_in n (l ∷ ls) ≡ false)
    unfolding continued
    in_field =
        let c = cut_at (Field i) e in
        (ap (λ (f : File). map slip_of f.items) c, ap (λ (f : File). continued f.top) c)

    in_kc : i ≡ named "KC" → kc_in n (l ∷ ls) ≡ kc_by (reading_of Money (text_of l.bytes))
    in_kc q = ap (λ (f : File). kc_among f.loose) (cut_at (Field i) e) ∙ kc_first (row_of n l) i rest.top rest.loose q

    in_no_kc : eqb i (named "KC") ≡ false → kc_in n (l ∷ ls) ≡ kc_in (suc n) ls
    in_no_kc q = ap (λ (f : File). kc_among f.loose) (cut_at (Field i) e) ∙ kc_other (row_of n l) i rest.top rest.loose q

-- ---- the number does not matter
Alike : ℕ → ℕ → List Line → Type 0
Alike n m ls = (slips_in n ls ≡ slips_in m ls) × (kc_in n ls ≡ kc_in m ls) × (top_in n ls ≡ top_in m ls)

alike : (ls : List Line) (n m : ℕ) → Alike n m ls
unfolding Alike
alike [] n m =
    let a = none_in n in
    let b = none_in m in
    (a.0 ∙ sym b.0, a.1 ∙ sym b.1, a.2 ∙ sym b.2)
alike (l ∷ ls) n m = go (kind_of l.bytes) refl (alike ls (suc n) (suc m))
  where
    go : (k : Kind) → kind_of l.bytes ≡ k → Alike (suc n) (suc m) ls → Alike n m (l ∷ ls)
    go Heading e w =
        let a = in_heading l ls n e in
        let b = in_heading l ls m e in
        (a.0 ∙ (λ i. record { head = cond (w.2 i) None (heading_of l.bytes); kc = w.1 i } ∷ w.0 i) ∙ sym b.0, a.1 ∙ sym b.1, a.2 ∙ sym b.2)
    go Continuation e w =
        let a = in_continuation l ls n e in
        let b = in_continuation l ls m e in
        (a.0 ∙ w.0 ∙ sym b.0, a.1 ∙ w.1 ∙ sym b.1, a.2 ∙ sym b.2)
    go (Field i) e w =
        let a = in_field l ls n i e in
        let b = in_field l ls m i e in
        (a.0 ∙ w.0 ∙ sym b.0, kcs (eqb i (named "KC")) refl, a.1 ∙ sym b.1)
      where
        kcs : (t : Bool) → eqb i (named "KC") ≡ t → kc_in n (l ∷ ls) ≡ kc_in m (l ∷ ls)
        kcs true q = in_kc l ls n i e (eqb-true i (named "KC") q) ∙ sym (in_kc l ls m i e (eqb-true i (named "KC") q))
        kcs false q = in_no_kc l ls n i e q ∙ w.1 ∙ sym (in_no_kc l ls m i e q)
    go Other e w =
        let a = in_other l ls n e in
        let b = in_other l ls m e in
        (a.0 ∙ w.0 ∙ sym b.0, a.1 ∙ w.1 ∙ sym b.1, a.2 ∙ w.2 ∙ sym b.2)

pub kc_alike : (ls : List Line) (n m : ℕ) → kc_in n ls ≡ kc_in m ls
unfolding Alike
kc_alike ls n m = (alike ls n m).1

pub top_alike : (ls : List Line) (n m : ℕ) → top_in n ls ≡ top_in m ls
unfolding Alike
top_alike ls n m = (alike ls n m).2

-- the first KC of any lines is small
pub kc_small : (ls : List Line) (n : ℕ) → amount_of (kc_in n ls) < 1000000000000000
kc_small [] n = subst (λ (k : First Payment). amount_of k < 1000000000000000) (sym (none_in n).1) (omega arith)
kc_small (l ∷ ls) n = go (kind_of l.bytes) refl (kc_small ls (suc n))
  where
    by : {k : First Payment} → kc_in n (l ∷ ls) ≡ k → amount_of k < 1000000000000000 → amount_of (kc_in n (l ∷ ls)) < 1000000000000000
    by e h = subst (λ (k : First Payment). amount_of k < 1000000000000000) (sym e) h

    go : (k : Kind) → kind_of l.bytes ≡ k → amount_of (kc_in (suc n) ls) < 1000000000000000 → amount_of (kc_in n (l ∷ ls)) < 1000000000000000
    go Heading e w = by (in_heading l ls n e).1 (omega arith)
    go Continuation e w = by (in_continuation l ls n e).1 w
    go (Field i) e w = kcs (eqb i (named "KC")) refl
      where
        kcs : (t : Bool) → eqb i (named "KC") ≡ t → amount_of (kc_in n (l ∷ ls)) < 1000000000000000
        kcs true q = by (in_kc l ls n i e (eqb-true i (named "KC") q)) (paid_small (text_of l.bytes))
        kcs false q = by (in_no_kc l ls n i e q) w
    go Other e w = by (in_other l ls n e).1 w

-- ---- past one line
module _ (l : Line) (ls : List Line) (n : ℕ) where
  pub item_here : kind_of l.bytes ≡ Heading → slips_in n (l ∷ ls) ≡ record { head = cond (top_in n ls) None (heading_of l.bytes); kc = kc_in n ls } ∷ slips_in n ls
  unfolding Alike
  item_here e =
      let w = alike ls (suc n) n in
      (in_heading l ls n e).0 ∙ (λ i. record { head = cond (w.2 i) None (heading_of l.bytes); kc = w.1 i } ∷ w.0 i)

  pub kc_none : kind_of l.bytes ≡ Heading → kc_in n (l ∷ ls) ≡ Missing
  kc_none e = (in_heading l ls n e).1

  pub kc_here : kind_of l.bytes ≡ Field (named "KC") → kc_in n (l ∷ ls) ≡ kc_by (reading_of Money (text_of l.bytes))
  kc_here e = in_kc l ls n (named "KC") e refl

  pub top_heading : kind_of l.bytes ≡ Heading → top_in n (l ∷ ls) ≡ false
  top_heading e = (in_heading l ls n e).2

  pub top_continuation : kind_of l.bytes ≡ Continuation → top_in n (l ∷ ls) ≡ true
  top_continuation e = (in_continuation l ls n e).2

  pub top_field : (i : ℕ) → kind_of l.bytes ≡ Field i → top_in n (l ∷ ls) ≡ false
  top_field i e = (in_field l ls n i e).1

  pub top_other : kind_of l.bytes ≡ Other → top_in n (l ∷ ls) ≡ top_in n ls
  unfolding Alike
  top_other e = (in_other l ls n e).2 ∙ (alike ls (suc n) n).2

  pub slips_past : (kind_of l.bytes ≡ Heading → ⊥) → slips_in n (l ∷ ls) ≡ slips_in n ls
  unfolding Alike
  slips_past h = go (kind_of l.bytes) refl ∙ (alike ls (suc n) n).0
    where
      go : (k : Kind) → kind_of l.bytes ≡ k → slips_in n (l ∷ ls) ≡ slips_in (suc n) ls
      go Heading e = absurd (h e)
      go Continuation e = (in_continuation l ls n e).0
      go (Field i) e = (in_field l ls n i e).0
      go Other e = (in_other l ls n e).0

  kc_past : (kind_of l.bytes ≡ Heading → ⊥) → (kind_of l.bytes ≡ Field (named "KC") → ⊥) → kc_in n (l ∷ ls) ≡ kc_in n ls
  unfolding Alike
  kc_past h q = go (kind_of l.bytes) refl ∙ (alike ls (suc n) n).1
    where
      go : (k : Kind) → kind_of l.bytes ≡ k → kc_in n (l ∷ ls) ≡ kc_in (suc n) ls
      go Heading e = absurd (h e)
      go Continuation e = (in_continuation l ls n e).1
      go (Field i) e = in_no_kc l ls n i e (never_true (eqb i (named "KC")) (λ t. q (e ∙ ap Field (eqb-true i (named "KC") t))))
      go Other e = (in_other l ls n e).1

-- ---- the lines after the one that the bytes begin in
abbrev pub others : List Line → List Line
others [] = []
others (l ∷ ls) = ls

others_onto : (b : ℕ) (ls : List Line) → others (onto b ls) ≡ others ls
unfolding onto
others_onto b [] = refl
others_onto b (l ∷ ls) = refl

others_on : (b : ℕ) (x : List ℕ) → crlf (b ∷ x) ≡ false → others (lines (b ∷ x)) ≡ others (lines x)
others_on b x e = ap others (lines_on b x e) ∙ others_onto b (lines x)

-- the first line of some bytes, where it is no heading
pub line_slips : (x : List ℕ) (n : ℕ) → begins x (ascii "HD:") ≡ false → slips_in n (lines x) ≡ slips_in n (others (lines x))
line_slips x n h = go (lines x) refl
  where
    go : (ls : List Line) → lines x ≡ ls → slips_in n ls ≡ slips_in n (others ls)
    go [] e = refl
    go (l ∷ ls) e = slips_past l ls n (λ q. heading_not x h (sym (kind_told x l ls e) ∙ q))

-- .. and no KC
pub line_kc : (x : List ℕ) (n : ℕ) → begins x (ascii "HD:") ≡ false → begins x (ascii "KC:") ≡ false → kc_in n (lines x) ≡ kc_in n (others (lines x))
line_kc x n h k = go (lines x) refl
  where
    go : (ls : List Line) → lines x ≡ ls → kc_in n ls ≡ kc_in n (others ls)
    go [] e = refl
    go (l ∷ ls) e = kc_past l ls n (λ q. heading_not x h (sym (kind_told x l ls e) ∙ q)) (λ q. kc_not x k (sym (kind_told x l ls e) ∙ q))

-- ---- past one byte: of a CR LF, what stands after it decides
after_crlf : (b c : ℕ) (x y : List ℕ) → crlf (b ∷ c ∷ x) ≡ true → begins (b ∷ c ∷ x) (0x0d ∷ 0x0a ∷ y) ≡ begins x y
unfolding crlf begins
after_crlf b c x y e = rw (both_left (is_byte 0x0d b) (is_byte 0x0a c) e, both_right (is_byte 0x0d b) (is_byte 0x0a c) e)

lf_on : (b c : ℕ) (x : List ℕ) → crlf (b ∷ c ∷ x) ≡ true → others (lines (c ∷ x)) ≡ others (lines x)
unfolding crlf
lf_on b c x e =
    others_on c x (crlf_not c x (ap (is_byte 0x0d) (eqb-true c 0x0a (both_right (is_byte 0x0d b) (is_byte 0x0a c) e))))

cut_on : (b c : ℕ) (x : List ℕ) → crlf (b ∷ c ∷ x) ≡ true → others (lines (b ∷ c ∷ x)) ≡ lines x
cut_on b c x e = ap others (lines_cut (b ∷ c ∷ x) e)

one_alone : (b : ℕ) → crlf (b ∷ []) ≡ false
unfolding crlf
one_alone b = refl

pub byte_slips : (b : ℕ) (x : List ℕ) (n : ℕ) → begins (b ∷ x) (0x0d ∷ 0x0a ∷ ascii "HD:") ≡ false → slips_in n (others (lines (b ∷ x))) ≡ slips_in n (others (lines x))
byte_slips b [] n h = ap (slips_in n) (others_on b [] (one_alone b))
byte_slips b (c ∷ x) n h = by_test (crlf (b ∷ c ∷ x))
    (λ e. ap (slips_in n) (cut_on b c x e) ∙ line_slips x n (sym (after_crlf b c x (ascii "HD:") e) ∙ h) ∙ ap (slips_in n) (sym (lf_on b c x e)))
    (λ e. ap (slips_in n) (others_on b (c ∷ x) e))

pub byte_kc : (b : ℕ) (x : List ℕ) (n : ℕ) → begins (b ∷ x) (0x0d ∷ 0x0a ∷ ascii "HD:") ≡ false → begins (b ∷ x) (0x0d ∷ 0x0a ∷ ascii "KC:") ≡ false
    → kc_in n (others (lines (b ∷ x))) ≡ kc_in n (others (lines x))
byte_kc b [] n h k = ap (kc_in n) (others_on b [] (one_alone b))
byte_kc b (c ∷ x) n h k = by_test (crlf (b ∷ c ∷ x))
    (λ e.
    ap (kc_in n) (cut_on b c x e) ∙ line_kc x n (sym (after_crlf b c x (ascii "HD:") e) ∙ h) (sym (after_crlf b c x (ascii "KC:") e) ∙ k)
    ∙ ap (kc_in n) (sym (lf_on b c x e)))
    (λ e. ap (kc_in n) (others_on b (c ∷ x) e))
