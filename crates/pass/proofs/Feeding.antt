-- The pass over one text: after each of its lines it holds what `Standing` says, whatever came before the text.
use mathlib.Core.Path.{◌≡◌, refl, sym, ap, ◌∙◌, subst}
use mathlib.Core.Bool.{Bool, true, false, cond, not, ◌&&◌}
use mathlib.Core.List.{List, [], ◌∷◌, ◌++◌, append-nil, append_assoc}
use Prim.Native.Nat.{ℕ, suc, ◌+◌, ◌≤◌, ◌<◌, ◌^◌}
use native.Mathlib.Numerals.{add-one}
use native.Mathlib.Omega.{arith}
use lib.Dec.{eqb, ltb}
use lib.ListN.{length, drop, get_or, set}
use Rattle.laws.specs.Tests.{mark}
use Rattle.headings.specs.declared.Heading.{Heading}
use Rattle.headings.specs.Reading.{heading_of}
use Rattle.fields.specs.declared.kinds.Kind.{Kind}
use Rattle.fields.specs.declared.kinds.Kind.TheVariants.{Continuation, Field, Other}
use Rattle.fields.specs.declared.kinds.Kind.TheVariants.{Heading as HeadingLine}
use Rattle.fields.specs.declared.readings.Reading.{Reading}
use Rattle.fields.specs.Kinds.{kind_of}
use Rattle.fields.specs.Classes.{class_of}
use Rattle.fields.specs.Readings.{text_of, reading_of}
use Rattle.lines.specs.declared.Found.{Found}
use Rattle.lines.specs.Lines.{Line, lines, taken, taken_by}
use Rattle.lines.specs.Reading.{span, IsNext}
use Rattle.lines.proofs.Lines.{lines_past}
use Rattle.rules.specs.declared.First.{First}
use Rattle.rules.specs.declared.Payment.{Payment}
use Rattle.rules.specs.declared.Range.{Range}
use Rattle.rules.specs.declared.Sums.{Sums}
use Rattle.rules.specs.Terms.{Terms}
use Rattle.rules.specs.Faults.{Fault}
use Rattle.rules.specs.Rows.{Row, sorted_as, sorted}
use Rattle.rules.specs.LineRules.{rule1}
use Rattle.rules.specs.Said.{is_unreadable}
use Rattle.ledger.specs.declared.Ledger.{Ledger}
use Rattle.ledger.specs.Marks.{marked}
use Rattle.ledger.specs.Slices.{Entered, Kept}
use Rattle.ledger.proofs.Marks.{marked_few}
use Rattle.own_rules.specs.declared.Basis.{Basis}
use Rattle.blocks.specs.declared.Block.{Block}
use Rattle.blocks.specs.declared.Course.{Course}
use Rattle.blocks.specs.Model.{course_of, block_of}
use Rattle.own_rules.specs.Model.{basis_of}
use Rattle.items.specs.Claims.{no_sums, kc_own}
use Rattle.closing.specs.declared.Wait.{Wait}
use Rattle.judging.specs.declared.opening.Open.{Open}
use Rattle.judging.specs.declared.opening.Pend.{Pend}
use Rattle.judging.specs.Opening.{no_open, more_open, low_open, read_as, heading_in, span_closed, stated_closed, close_claims, pend_of, open_own, open_loose, low_marks_at}
use Rattle.closing.specs.Closing.{close_as, close_faults}
use Rattle.closing.proofs.Sets.{line_marks}
use Rattle.pass.specs.declared.Pass.{Pass}
use Rattle.shutting.specs.Starts.{Stands, WaitsAt}
use Rattle.pass.specs.Standing.{claims_in, Bounded, Standing, Alike, InPlace, Fed}
use Rattle.lines.proofs.Reading.{span_long}
use Rattle.pass.proofs.Walk.{close_few, ident_few, reads_on, own_few}
use Rattle.pass.proofs.Standing.{after_low, after_field, after_head, stand_low, stand_field, stand_head}
use Rattle.std.specs.Prelude.{Option}

-- ---- lines that are judged in their own place
alike_same : (l : Line) → Alike l l
alike_same l = record { ended = refl; kind = refl; head = refl; says = λ c. refl; clean = refl; long = λ o. refl }

pub taken_none : taken_by [] ≡ 0
unfolding taken_by
taken_none = refl

taken_more : (past : List Line) (l : Line) → taken_by (past ++ (l ∷ [])) ≡ taken_by past + taken l
unfolding taken_by
taken_more [] l = omega arith
taken_more (x ∷ past) l = omega (arith, taken_more past l)

pub in_place : (base : ℕ) (past ls : List Line) → taken_by past ≡ base → InPlace base past ls ls
in_place base past [] e = tt
in_place base past (l ∷ ls) e = (alike_same l, e, in_place (base + taken l) (past ++ (l ∷ [])) ls (taken_more past l ∙ ap (λ (k : ℕ). k + taken l) e))

-- ---- bounds
pub bounded_more : {b b' : ℕ} {p : Pass} {ls rs ps : List ℕ} → b ≤ b' → Bounded b p ls rs ps → Bounded b' p ls rs ps
bounded_more h B = record { few = omega (arith, B.few); ready = B.ready; level = B.level; small = B.small; calm = B.calm; tail_few = B.tail_few; top_few = B.top_few }

-- what is listed leaves room to count on
pub bounded_room : {b : ℕ} {p : Pass} {ls rs ps : List ℕ} → b ≤ 10000000 → Bounded b p ls rs ps → p.ledger.total < 2 ^ 61
bounded_room h B = omega (arith, B.small, B.few)

pub bounded_tail : {b : ℕ} {p : Pass} {ls rs ps : List ℕ} → b ≤ 10000000 → Bounded b p ls rs ps → p.field.tail < 2 ^ 31
bounded_tail h B = omega (arith, B.tail_few, B.few)

-- ---- at a place of the text
-- the lines up to there are judged, and those ahead still stand for those that are left
pub record Reached (terms : Terms) (whole : List Line) (ls₀ rs₀ ps₀ s : List ℕ) (base : ℕ) (ls rs ps stood : List ℕ) (p : Pass) (at : ℕ) : Type 0 where
  pub past : List Line
  pub real : List Line
  pub are : past ++ real ≡ whole
  pub ahead : InPlace (base + at) past real (lines (drop at s))
  pub stands : Standing terms past ls₀ rs₀ ps₀ ls rs ps stood p

pub record Feeding (s : List ℕ) (base : ℕ) (j : Basis) (ls₁ rs₁ ps₁ stood₁ : List ℕ) (p₁ : Pass) (ls rs ps stood : List ℕ) (p : Pass) (at : ℕ) : Type 0 where
  pub to : at ≤ length s
  pub bounded : Bounded (base + at) p ls rs ps
  pub lines_long : length ls ≡ length ls₁
  pub rules_long : length rs ≡ length rs₁
  pub places_long : length ps ≡ length ps₁
  pub reached : (terms : Terms) (past real : List Line) (ls₀ rs₀ ps₀ : List ℕ) → j ≡ basis_of terms → InPlace base past real (lines s)
      → Standing terms past ls₀ rs₀ ps₀ ls₁ rs₁ ps₁ stood₁ p₁ → Reached terms (past ++ real) ls₀ rs₀ ps₀ s base ls rs ps stood p at

-- a pass whose account is held by its parts
abbrev pub with_block : Pass → Block → Pass
with_block p b = record {
  ledger = p.ledger;
  field = p.field;
  pend = p.pend;
  since = p.since;
  top = p.top;
  reads = p.reads;
  heading = p.heading;
  kc = p.kc;
  span = p.span;
  stated = p.stated;
  block = b;
  wait = p.wait;
  starts = p.starts;
  n = p.n;
}

abbrev pub on_course : Pass → Course → Pass
on_course p c = with_block p (block_of c p.block.counts p.block.sums)

pub feed_start : {s : List ℕ} {base : ℕ} {j : Basis} {ls rs ps stood : List ℕ} {p : Pass} {b : Block} → Bounded base p ls rs ps
    → Feeding s base j ls rs ps stood (with_block p b) ls rs ps stood (with_block p b) 0
feed_start {s} {base} {b} B = record {
  to = omega arith;
  bounded = record { few = omega (arith, B.few); ready = B.ready; level = B.level; small = B.small; calm = B.calm; tail_few = B.tail_few; top_few = B.top_few };
  lines_long = refl;
  rules_long = refl;
  places_long = refl;
  reached = λ terms past real ls₀ rs₀ ps₀ ej I S.
      let z : base ≡ base + 0 = omega arith in
      record { past = past; real = real; are = refl; ahead = subst (λ (b : ℕ). InPlace b past real (lines s)) z I; stands = S };
}

-- its parts put together again
pub feed_close : (s : List ℕ) (base : ℕ) (j : Basis) (p q : Pass) {ls₁ rs₁ ps₁ stood₁ ls rs ps stood : List ℕ} {c : Course} → c ≡ course_of p.block → {b b' : Block} → b' ≡ b
    → Bounded (base + length s) (with_block q b) ls rs ps × Fed s base j ls₁ rs₁ ps₁ stood₁ (on_course p c) ls rs ps stood (with_block q b)
    → Bounded (base + length s) (with_block q b') ls rs ps × Fed s base j ls₁ rs₁ ps₁ stood₁ p ls rs ps stood (with_block q b')
feed_close s base j p q {ls₁} {rs₁} {ps₁} {stood₁} {ls} {rs} {ps} {stood} ec {b} eb X =
    subst (λ (x : Block). Bounded (base + length s) (with_block q x) ls rs ps × Fed s base j ls₁ rs₁ ps₁ stood₁ p ls rs ps stood (with_block q x)) (sym eb)
    (X.0, subst (λ (x : Course). Fed s base j ls₁ rs₁ ps₁ stood₁ (on_course p x) ls rs ps stood (with_block q b)) ec X.1)

module _ {s : List ℕ} {base : ℕ} {j : Basis} {ls₁ rs₁ ps₁ stood₁ : List ℕ} {p₁ : Pass} {ls rs ps stood : List ℕ} {p : Pass} {at : ℕ} (F : Feeding s base j ls₁ rs₁ ps₁ stood₁ p₁ ls rs ps stood p at) where
  -- the end of the text
  pub feed_end : length s ≤ at → Bounded (base + length s) p ls rs ps × Fed s base j ls₁ rs₁ ps₁ stood₁ p₁ ls rs ps stood p
  feed_end q = (
    bounded_more (omega (arith, F.to)) F.bounded,
    λ terms past real ls₀ rs₀ ps₀ ej I S.
        let R : Reached terms (past ++ real) ls₀ rs₀ ps₀ s base ls rs ps stood p at = F.reached terms past real ls₀ rs₀ ps₀ ej I S in
        let none : InPlace (base + at) R.past R.real [] = subst (InPlace (base + at) R.past R.real) (lines_past s at q) R.ahead in
        subst (λ (l : List Line). Standing terms l ls₀ rs₀ ps₀ ls rs ps stood p) (all_past (base + at) R.past R.real none ∙ R.are) R.stands,
  )
    where
      all_past : (b : ℕ) (past real : List Line) → InPlace b past real [] → past ≡ past ++ real
      all_past b past [] I = sym (append-nil past)
      all_past b past (l ∷ real) I = absurd I

  -- one line
  module _ {f : Found} (N : IsNext s at f) where
    -- as it is judged
    abbrev line : Line
    line = record { bytes = span at f.end s; ended = f.ended }

    feed_on : (stood' : List ℕ) (p' : Pass) → p'.n ≡ suc p.n → {xs : List Fault} {ls' rs' ps' : List ℕ} → Entered xs p.ledger ls rs p'.ledger ls' rs' → length xs ≤ 192
        → length ps' ≡ length ps → p'.wait.marks < 2 ^ 41 → p'.field.tail ≤ suc p.n → p'.top ≤ 18
        → ((terms : Terms) (past : List Line) (ls₀ rs₀ ps₀ : List ℕ) → j ≡ basis_of terms → taken_by past ≡ base + at → (l : Line) → Alike l line
        → Standing terms past ls₀ rs₀ ps₀ ls rs ps stood p → Standing terms (past ++ (l ∷ [])) ls₀ rs₀ ps₀ ls' rs' ps' stood' p')
        → Feeding s base j ls₁ rs₁ ps₁ stood₁ p₁ ls' rs' ps' stood' p' f.next
    feed_on stood' p' en {xs} {ls'} {rs'} {ps'} E few eps calm tail top step = record {
      to = N.within;
      bounded = record {
        few = omega (arith, en, F.bounded.few, N.moves);
        ready = E.put.ready;
        level = E.put.lines_long ∙ F.bounded.level ∙ sym eps;
        small = omega (arith, en, F.bounded.small, E.sum, few);
        calm = calm;
        tail_few = omega (arith, en, tail);
        top_few = top;
      };
      lines_long = E.put.lines_long ∙ F.lines_long;
      rules_long = E.put.rules_long ∙ F.rules_long;
      places_long = eps ∙ F.places_long;
      reached = λ terms past real ls₀ rs₀ ps₀ ej I S.
          let R : Reached terms (past ++ real) ls₀ rs₀ ps₀ s base ls rs ps stood p at = F.reached terms past real ls₀ rs₀ ps₀ ej I S in
          go R.past R.real R.are (subst (InPlace (base + at) R.past R.real) N.cut R.ahead) ej R.stands;
    }
      where
        goes : base + at + taken line ≡ base + f.next
        goes = omega (arith, sym (span_long N), N.follows, N.starts)

        go : {terms : Terms} {whole : List Line} {ls₀ rs₀ ps₀ : List ℕ} (past real : List Line) → past ++ real ≡ whole → InPlace (base + at) past real (line ∷ lines (drop f.next s))
            → j ≡ basis_of terms → Standing terms past ls₀ rs₀ ps₀ ls rs ps stood p → Reached terms whole ls₀ rs₀ ps₀ s base ls' rs' ps' stood' p' f.next
        go past [] e I ej S = absurd I
        go past (l ∷ real) e I ej S = record {
          past = past ++ (l ∷ []);
          real = real;
          are = append_assoc past (l ∷ []) real ∙ e;
          ahead = subst (λ (b : ℕ). InPlace b (past ++ (l ∷ [])) real (lines (drop f.next s))) goes I.2;
          stands = step _ past _ _ _ ej I.1 l I.0 S;
        }

    module _ {x : Kind} (ex : x ≡ kind_of (span at f.end s)) {own : ℕ} (eo : own ≡ line_marks (record { no = suc p.n; bytes = span at f.end s; ended = f.ended })) where
      abbrev row : Line → Row
      row l = record { no = suc p.n; bytes = l.bytes; ended = l.ended }

      -- the line that it is judged for has its marks, and is of its kind
      own_of : {l : Line} → Alike l line → own ≡ line_marks (row l)
      unfolding line_marks rule1
      own_of A = eo ∙ sym (λ i. mark 1 (A.clean i) + mark 4 (not (A.ended i)))

      kind_of_lem : {l : Line} → Alike l line → (k : Kind) → x ≡ k → sorted (row l) ≡ sorted_as k (row l)
      unfolding sorted
      kind_of_lem {l} A k e = ap (λ (q : Kind). sorted_as q (row l)) (A.kind ∙ sym ex ∙ e)

      -- a line of no kind
      pub feed_other : x ≡ Other → {m : ℕ} → m ≡ low_marks_at own p.since p.field.no false
          → {g' : Ledger} {ls' rs' ps' : List ℕ} → Entered (marked (p.n + 1) m) p.ledger ls rs g' ls' rs'
          → Kept (λ (off : ℕ → ℕ). off (p.n + 1) ≡ base + at) p.ledger.kept ls ps g'.kept ls' ps' → length ps' ≡ length ps
          → Feeding s base j ls₁ rs₁ ps₁ stood₁ p₁ ls' rs' ps' stood (after_low p g' p.field p.reads) f.next
      feed_other e {m} em {g'} E K eps =
          feed_on stood (after_low p g' p.field p.reads) (add-one p.n) E (omega (arith, marked_few (p.n + 1) m)) eps F.bounded.calm (omega (arith, F.bounded.tail_few)) F.bounded.top_few
          (λ terms past ls₀ rs₀ ps₀ ej eh l A S. stand_low S l (own_of A) eh false (kind_of_lem A Other e) em refl refl E K)

      -- a continuation
      pub feed_more : x ≡ Continuation → {m : ℕ} → m ≡ low_marks_at own p.since p.field.no true → {o' : Open} → o' ≡ low_open true p.field (length (span at f.end s))
          → {g' : Ledger} {ls' rs' ps' : List ℕ} → Entered (marked (p.n + 1) m) p.ledger ls rs g' ls' rs'
          → Kept (λ (off : ℕ → ℕ). off (p.n + 1) ≡ base + at) p.ledger.kept ls ps g'.kept ls' ps' → length ps' ≡ length ps
          → Feeding s base j ls₁ rs₁ ps₁ stood₁ p₁ ls' rs' ps' stood (after_low p g' o' (p.reads && not (eqb p.field.no 0))) f.next
      feed_more e {m} em {o'} eo' {g'} E K eps =
          let t : Bool = not (eqb p.field.no 0) in
          feed_on stood (after_low p g' o' (p.reads && t)) (add-one p.n) E (omega (arith, marked_few (p.n + 1) m)) eps F.bounded.calm (rw eo' (tail_on t)) F.bounded.top_few
          (λ terms past ls₀ rs₀ ps₀ ej eh l A S. stand_low S l (own_of A) eh true (kind_of_lem A Continuation e) em
          (eo' ∙ sym (ap (λ (o : Open). cond (true && t) o p.field) (A.long p.field))) (reads_on p.reads (eqb p.field.no 0) p.heading) E K)
        where
          tail_on : (t : Bool) → (cond (true && t) (more_open p.field (length (span at f.end s))) p.field).tail ≤ suc p.n
          tail_on true = omega (arith, F.bounded.tail_few)
          tail_on false = omega (arith, F.bounded.tail_few)

      -- a field
      pub feed_field : (i : ℕ) → x ≡ Field i → {span' : First Range} → span' ≡ span_closed p.span p.field p.pend
          → {stated' : Sums} → stated' ≡ stated_closed p.stated p.field p.pend → {a : Bool} → a ≡ ltb p.since (get_or stood i 0)
          → {said : Reading} → said ≡ reading_of (class_of i) (text_of (span at f.end s))
          → {o' : Open} → o' ≡ cond (eqb p.since 0) (open_loose (p.n + 1) own) (open_own j p.kc (read_as p.reads p.heading) (p.n + 1) own a i said)
          → {kc' : First Payment} → kc' ≡ cond (eqb p.since 0) p.kc (kc_own p.kc i said)
          → {p' : Pend} → p' ≡ cond (eqb p.since 0) p.pend (pend_of p.pend i said)
          → {stood' : List ℕ} → stood' ≡ set stood i (p.n + 1)
          → {g' : Ledger} {ls' rs' ps' : List ℕ} → Entered (marked p.field.no p.field.marks) p.ledger ls rs g' ls' rs'
          → Kept (λ (off : ℕ → ℕ). off p.field.no ≡ p.starts.field) p.ledger.kept ls ps g'.kept ls' ps' → length ps' ≡ length ps
          → Feeding s base j ls₁ rs₁ ps₁ stood₁ p₁ ls' rs' ps' stood' (after_field p g' o' p' kc' span' stated' (base + at)) f.next
      feed_field i e {span'} en {stated'} et' {a} ea {said} es {o'} eo' {kc'} ek {p'} ep {stood'} et {g'} E K eps =
          feed_on stood' (after_field p g' o' p' kc' span' stated' (base + at)) (add-one p.n) E (omega (arith, marked_few p.field.no p.field.marks)) eps F.bounded.calm (rw eo' (tail_none (eqb p.since 0))) F.bounded.top_few
          (λ terms past ls₀ rs₀ ps₀ ej eh l A S. stand_field S l (own_of A) eh ej i (kind_of_lem A (Field i) e) (ident_few (span at f.end s) ex i e) en et' ea (es ∙ sym (A.says (class_of i))) eo' ek ep et E K)
        where
          tail_none : (t : Bool) → (cond t (open_loose (p.n + 1) own) (open_own j p.kc (read_as p.reads p.heading) (p.n + 1) own a i said)).tail ≤ suc p.n
          tail_none true = omega arith
          tail_none false = omega arith

      -- a heading
      pub feed_head : x ≡ HeadingLine → {r : Option Heading} → r ≡ heading_of (span at f.end s)
          → {o' : Open} → o' ≡ no_open → {h' : Heading} → h' ≡ heading_in r p.heading → {reads' : Bool} → reads' ≡ not (is_unreadable r) → {stated' : Sums} → stated' ≡ no_sums
          → {b' : Block} → b' ≡ (close_as j p.block p.wait p.since p.top (read_as p.reads p.heading) (close_claims (claims_in p) p.field p.pend)).block
          → {w' : Wait} → w' ≡ (close_as j p.block p.wait p.since p.top (read_as p.reads p.heading) (close_claims (claims_in p) p.field p.pend)).wait → w'.marks < 2 ^ 41
          → {g' : Ledger} {ls' rs' ps' : List ℕ}
          → Entered (marked p.field.no p.field.marks ++ close_faults j p.block p.wait p.since p.top (read_as p.reads p.heading) (close_claims (claims_in p) p.field p.pend)) p.ledger ls rs g' ls' rs'
          → Kept (λ (off : ℕ → ℕ). (off p.field.no ≡ p.starts.field) × Stands off p.starts p.since p.wait.line) p.ledger.kept ls ps g'.kept ls' ps'
          → {k : ℕ} → WaitsAt p.starts p.since p.wait.line w'.line k → length ps' ≡ length ps
          → Feeding s base j ls₁ rs₁ ps₁ stood₁ p₁ ls' rs' ps' stood (after_head p g' o' own reads' h' stated' b' w' (base + at) k) f.next
      feed_head e {r} er {o'} eo' {h'} eh' {reads'} ed {stated'} et {b'} eb {w'} ew calm {g'} E K {k} A eps =
          feed_on stood (after_head p g' o' own reads' h' stated' b' w' (base + at) k) (add-one p.n) E
          (close_few p.field j p.block p.wait p.since p.top (read_as p.reads p.heading) (close_claims (claims_in p) p.field p.pend)) eps calm
          (rw eo' (omega arith)) (rw eo (own_few (row line)))
          (λ terms past ls₀ rs₀ ps₀ ej eh l B S. stand_head S l (own_of B) eh ej (kind_of_lem B HeadingLine e) (er ∙ sym B.head) eo' eh' ed et eb ew E K A)
