-- What the code asks at one line, and finds there.
use mathlib.Core.Path.{◌≡◌, refl, sym, ap, ◌∙◌}
use mathlib.Core.Bool.{Bool, true, false, cond, not, ◌&&◌, true≢false}
use mathlib.Core.List.{List, ◌++◌}
use Prim.Native.Nat.{ℕ, zero, suc, ◌+◌, ◌≤◌, ◌<◌}
use native.Mathlib.Omega.{arith}
use lib.Dec.{eqb, leb}
use lib.ListN.{length, get_or, replicate, length-append}
use borrow.Author.Tests.{eq-eqb, ne_eqb}
use Rattle.laws.specs.Tests.{mark}
use Rattle.laws.specs.Lists.{any_of}
use Rattle.laws.proofs.Any.{or_right}
use Rattle.text.specs.Characters.{is_inadmissible}
use Rattle.text.proofs.Admissible.{odd_asked}
use Rattle.headings.specs.declared.Heading.{Heading}
use Rattle.fields.specs.declared.kinds.Kind.{Kind}
use Rattle.fields.specs.declared.kinds.Kind.TheVariants.{Field}
use Rattle.fields.specs.declared.readings.Reading.{Reading}
use Rattle.fields.specs.Kinds.{place, kind_of}
use Rattle.fields.specs.Codes.{code_of, claims}
use Rattle.fields.proofs.LineKinds.{field_is}
use Rattle.lines.specs.declared.Found.{Found}
use Rattle.lines.specs.Reading.{span, IsNext}
use Rattle.rules.specs.declared.First.{First}
use Rattle.rules.specs.declared.Payment.{Payment}
use Rattle.rules.specs.declared.Range.{Range}
use Rattle.rules.specs.declared.Sums.{Sums}
use Rattle.rules.specs.Terms.{Terms}
use Rattle.rules.specs.Rows.{Row}
use Rattle.rules.specs.LineRules.{rule1}
use Rattle.rules.specs.Said.{is_unreadable}
use Rattle.ledger.specs.Marks.{marked}
use Rattle.ledger.proofs.Marks.{marked_few}
use Rattle.own_rules.specs.declared.Basis.{Basis}
use Rattle.blocks.specs.declared.Block.{Block}
use Rattle.blocks.specs.declared.Course.{Course}
use Rattle.blocks.specs.Model.{course_of, block_of, group_marks}
use Rattle.account.specs.Model.{groups_on}
use Rattle.items.specs.Claims.{Claims, kc_own}
use Rattle.items.proofs.Ideal.{Pieces}
use Rattle.closing.specs.declared.Wait.{Wait}
use Rattle.judging.specs.declared.opening.Open.{Open}
use Rattle.judging.specs.declared.opening.Pend.{Pend}
use Rattle.judging.specs.Opening.{line_marks_of, read_as, heading_in, span_closed, stated_closed, pend_of}
use Rattle.closing.specs.Closing.{Ended, close_as, close_faults, close_by, by_faults, counts_by, sums_by}
use Rattle.judging.proofs.Cases.{not_kc}
use Rattle.closing.proofs.ByParts.{whole, close_parts}
use Rattle.closing.proofs.Sets.{line_marks}
use Rattle.judging.proofs.Meaning.{Means}
use Rattle.std.specs.Prelude.{None, Option, Some}

-- no more is entered at once than leaves room to count on
pub close_few : (o : Open) (j : Basis) (b : Block) (w : Wait) (n m : ℕ) (r : Option Heading) (c : Claims) → length (marked o.no o.marks ++ close_faults j b w n m r c) ≤ 192
close_few o j b w n m r c =
    omega (
      arith,
      length-append (marked o.no o.marks) (close_faults j b w n m r c),
      length-append (marked w.line (close_as j b w n m r c).told) (marked n (close_as j b w n m r c).marks),
      marked_few o.no o.marks,
      marked_few w.line (close_as j b w n m r c).told,
      marked_few n (close_as j b w n m r c).marks,
    )

-- marks 1 and 4 of a line, as the code finds them
pub own_at : {s : List ℕ} {at : ℕ} {f : Found} → IsNext s at f → {bad : Bool} {own : ℕ} (n : ℕ) → bad ≡ (f.odd && any_of is_inadmissible (span at f.end s)) → own ≡ line_marks_of bad f.ended
    → own ≡ line_marks (record { no = suc n; bytes = span at f.end s; ended = f.ended })
unfolding line_marks rule1
own_at {s} {at} {f} N {bad} {own} n eb eo =
    let bytes : List ℕ = span at f.end s in
    eo ∙ (λ i. line_marks_of (eb i) f.ended) ∙ (λ i. line_marks_of (N.tells i && any_of is_inadmissible bytes) f.ended) ∙ (λ i. line_marks_of (odd_asked bytes i) f.ended)

-- a field that closes and claims nothing
pub claims_kept : (o : Open) (p : Pend) (span : First Range) (stated : Sums) → o.class < 5 → (span ≡ span_closed span o p) × (stated ≡ stated_closed stated o p)
claims_kept o p span stated e =
    let five : eqb o.class 5 ≡ false = ne_eqb o.class 5 (λ q. omega arith) in
    let six : eqb o.class 6 ≡ false = ne_eqb o.class 6 (λ q. omega arith) in
    (rw five, rw six)

-- the field that opens stands above every heading, or claims or is kept, or neither
module _ (since i : ℕ) (said : Reading) (kc : First Payment) (p : Pend) where
  pub own_above : since ≡ 0 → (kc ≡ cond (eqb since 0) kc (kc_own kc i said)) × (p ≡ cond (eqb since 0) p (pend_of p i said))
  own_above e = (rw (eq-eqb since 0 e), rw (eq-eqb since 0 e))

  pub own_inside : (since ≡ 0 → ⊥) → {x : First Payment} → x ≡ kc_own kc i said → {y : Pend} → y ≡ pend_of p i said
      → (x ≡ cond (eqb since 0) kc (kc_own kc i said)) × (y ≡ cond (eqb since 0) p (pend_of p i said))
  own_inside e ex ey = (rw (ne_eqb since 0 e) ex, rw (ne_eqb since 0 e) ey)

  pub own_plain : {k : ℕ} → k ≡ code_of i → claims k ≡ false → (kc ≡ cond (eqb since 0) kc (kc_own kc i said)) × (p ≡ cond (eqb since 0) p (pend_of p i said))
  unfolding place
  own_plain {k} ek e =
      let none : eqb i 732 ≡ false = not_kc i (ap claims (sym ek) ∙ e) in
      let low : leb 5 (code_of i) ≡ false = ap (λ (n : ℕ). leb 5 n) (sym ek) ∙ or_right (eqb k 1) (leb 5 k) e in
      (rw none (same (eqb since 0) kc), rw low (same (eqb since 0) p))
    where
      same : {A : Type 0} (b : Bool) (x : A) → x ≡ cond b x x
      same true x = refl
      same false x = refl

-- ---- an item closes by parts
-- 30 to 39, asked of a 51 alone
module _ (counts sums : List ℕ) (stated : Sums) (reads : Bool) (h : Heading) {gm : ℕ} where
  pub groups_took : (reads && eqb h.kind 51) ≡ true → gm ≡ group_marks counts sums stated.groups → gm ≡ groups_on counts sums stated (read_as reads h)
  unfolding groups_on
  groups_took e eg = go reads (eqb h.kind 51) refl e
    where
      go : (a b : Bool) → eqb h.kind 51 ≡ b → (a && b) ≡ true → gm ≡ groups_on counts sums stated (read_as a h)
      go true true p q = eg ∙ sym (rw p)
      go true false p q = absurd (true≢false (sym q))
      go false b p q = absurd (true≢false (sym q))

  pub groups_left : (reads && eqb h.kind 51) ≡ false → gm ≡ 0 → gm ≡ groups_on counts sums stated (read_as reads h)
  unfolding groups_on
  groups_left e eg = go reads (eqb h.kind 51) refl e
    where
      go : (a b : Bool) → eqb h.kind 51 ≡ b → (a && b) ≡ false → gm ≡ groups_on counts sums stated (read_as a h)
      go true true p q = absurd (true≢false q)
      go true false p q = eg ∙ sym (rw p)
      go false b p q = eg

module _ (j : Basis) (c : Course) (counts sums : List ℕ) (w : Wait) (n m : ℕ) (r : Option Heading) {cl cl₀ : Claims} (ec : cl ≡ cl₀) {gm : ℕ} (eg : gm ≡ groups_on counts sums cl.sums r) where
  parts : close_as j (block_of c counts sums) w n m r cl₀
      ≡ whole (close_by j c w n m r cl.kc cl.span gm) (counts_by counts n r cl.kc) (sums_by sums n r cl.kc)
  parts =
      (λ i. close_as j (block_of c counts sums) w n m r (sym ec i)) ∙ close_parts j c counts sums w n m r cl
      ∙ (λ i. whole (close_by j c w n m r cl.kc cl.span (sym eg i)) (counts_by counts n r cl.kc) (sums_by sums n r cl.kc))

  pub shut_block : {c' : Course} → c' ≡ (close_by j c w n m r cl.kc cl.span gm).course → {counts' : List ℕ} → counts' ≡ counts_by counts n r cl.kc
      → {sums' : List ℕ} → sums' ≡ sums_by sums n r cl.kc → block_of c' counts' sums' ≡ (close_as j (block_of c counts sums) w n m r cl₀).block
  shut_block e es et = (λ i. block_of (e i) (es i) (et i)) ∙ ap (λ (x : Ended). x.block) (sym parts)

  pub shut_wait : {w' : Wait} → w' ≡ (close_by j c w n m r cl.kc cl.span gm).wait → w' ≡ (close_as j (block_of c counts sums) w n m r cl₀).wait
  shut_wait e = e ∙ ap (λ (x : Ended). x.wait) (sym parts)

  pub shut_faults : by_faults j c w n m r cl.kc cl.span gm ≡ close_faults j (block_of c counts sums) w n m r cl₀
  shut_faults = λ i. marked w.line (sym parts i).told ++ marked n (sym parts i).marks

-- .. with an account whose course was taken out of it
module _ (j : Basis) (b : Block) (w : Wait) (n m : ℕ) (r : Option Heading) {c : Course} (eb : c ≡ course_of b) {cl cl₀ : Claims} (ec : cl ≡ cl₀) {gm : ℕ} (eg : gm ≡ groups_on b.counts b.sums cl.sums r) where
  account_is : block_of c b.counts b.sums ≡ b
  account_is = λ i. block_of (eb i) b.counts b.sums

  pub end_wait : {w' : Wait} → w' ≡ (close_by j c w n m r cl.kc cl.span gm).wait → w' ≡ (close_as j b w n m r cl₀).wait
  end_wait e = shut_wait j c b.counts b.sums w n m r ec eg e ∙ (λ i. (close_as j (account_is i) w n m r cl₀).wait)

  pub end_any : {c' : Course} → c' ≡ (close_by j c w n m r cl.kc cl.span gm).course → c'.any ≡ (close_as j b w n m r cl₀).block.course.any
  end_any e =
      ap (λ (x : Block). x.course.any) (shut_block j c b.counts b.sums w n m r ec eg e refl refl) ∙ (λ i. (close_as j (account_is i) w n m r cl₀).block.course.any)

  pub end_faults : by_faults j c w n m r cl.kc cl.span gm ≡ close_faults j b w n m r cl₀
  end_faults = shut_faults j c b.counts b.sums w n m r ec eg ∙ (λ i. close_faults j (account_is i) w n m r cl₀)

-- a field's identifier
pub ident_few : (s : List ℕ) {x : Kind} → x ≡ kind_of s → (i : ℕ) → x ≡ Field i → i < 1296
ident_few s ex i e = (field_is s i (sym ex ∙ e)).2

-- a heading reads
pub reads_again : (r : Option Heading) (old : Heading) → read_as (not (is_unreadable r)) (heading_in r old) ≡ r
reads_again (Some h) old = refl
reads_again None old = refl

pub reads_on : (reads z : Bool) (h : Heading) → read_as (reads && not z) h ≡ cond (true && z) None (read_as reads h)
reads_on true true h = refl
reads_on true false h = refl
reads_on false true h = refl
reads_on false false h = refl

pub own_few : (r : Row) → line_marks r ≤ 18
unfolding line_marks
own_few r = go (rule1 r) (not r.ended)
  where
    go : (a b : Bool) → mark 1 a + mark 4 b ≤ 18
    go true true = omega arith
    go true false = omega arith
    go false true = omega arith
    go false false = omega arith

pub zeros : (n k : ℕ) → ◌≡◌ {A = ℕ} (get_or (replicate n 0) k 0) 0
zeros zero k = refl
zeros (suc n) zero = refl
zeros (suc n) (suc k) = zeros n k

pub means_as : {terms : Terms} {c : Pieces} {n : ℕ} {o o' : Open} {since top : ℕ} {r : Option Heading} {cl cl' : Claims} {p p' : Pend} {b : Block} {w : Wait} {stood stood' : List ℕ} → o' ≡ o → cl' ≡ cl → p' ≡ p → stood' ≡ stood
    → Means terms c n o since top r cl p b w stood → Means terms c n o' since top r cl' p' b w stood'
means_as eo ec ep es M = rw (eo, ec, ep, es) M

pub head_as : {terms : Terms} {c : Pieces} {n : ℕ} {o o' : Open} {since since' top top' : ℕ} {r r' : Option Heading} {cl cl' : Claims} {p : Pend} {b b' : Block} {w w' : Wait} {stood : List ℕ} → o' ≡ o → since' ≡ since → top' ≡ top → r' ≡ r → cl' ≡ cl → b' ≡ b → w' ≡ w
    → Means terms c n o since top r cl p b w stood → Means terms c n o' since' top' r' cl' p b' w' stood
head_as eo es et er ec eb ew M = rw (eo, es, et, er, ec, eb, ew) M
