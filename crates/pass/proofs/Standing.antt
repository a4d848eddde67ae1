-- What the pass holds means the same after one line more, whatever the line is; and what the end of the file makes of it.
use mathlib.Core.Path.{◌≡◌, refl, sym, ap, ◌∙◌, subst}
use mathlib.Core.Bool.{Bool, true, false, cond, not, ◌&&◌}
use mathlib.Core.List.{List, [], ◌∷◌, ◌++◌, append-nil, append_assoc}
use Prim.Native.Nat.{ℕ, suc, ◌+◌, ◌-◌, ◌<◌}
use native.Mathlib.Numerals.{add-one}
use native.Mathlib.Omega.{arith}
use lib.Dec.{eqb, ltb}
use lib.ListN.{length, take, get_or, set, replicate, length-append, length-replicate}
use Rattle.headings.specs.declared.Heading.{Heading}
use Rattle.headings.specs.Reading.{heading_of}
use Rattle.fields.specs.declared.readings.Reading.{Reading}
use Rattle.fields.specs.Classes.{class_of}
use Rattle.fields.specs.Readings.{text_of, reading_of}
use Rattle.lines.specs.Lines.{Line, lines, taken_by, offset_of}
use Rattle.rules.specs.declared.First.{First}
use Rattle.rules.specs.declared.First.TheVariants.{Missing}
use Rattle.rules.specs.declared.Payment.{Payment}
use Rattle.rules.specs.declared.Range.{Range}
use Rattle.rules.specs.declared.Sums.{Sums}
use Rattle.rules.specs.Terms.{Terms}
use Rattle.rules.specs.Faults.{Fault, faults_in}
use Rattle.rules.specs.Rows.{Row, FieldRow, LowRow, Sorted, heading, field, low, sorted, rows_from}
use Rattle.rules.specs.Tree.{tree}
use Rattle.rules.specs.Spots.{spots}
use Rattle.rules.specs.Said.{is_unreadable}
use Rattle.rules.proofs.Orderly.{spots_orderly}
use Rattle.rules.proofs.Numbers.{lines_rise}
use Rattle.ledger.specs.declared.Ledger.{Ledger}
use Rattle.ledger.specs.Marks.{insert_all, marked}
use Rattle.ledger.specs.Slices.{Entered, Kept, Listed}
use Rattle.ledger.proofs.Insertion.{insert_all_append}
use Rattle.ledger.proofs.Entries.{put_all, put, put_comm, in_line_order}
use Rattle.ledger.proofs.Beside.{beside_start}
use Rattle.ledger.proofs.Book.{Book, book_start, book_more, book_listed}
use Rattle.own_rules.specs.declared.Basis.{Basis}
use Rattle.blocks.specs.declared.Block.{Block}
use Rattle.own_rules.specs.Model.{basis_of}
use Rattle.items.specs.Claims.{Claims, claims_as, no_sums, kc_own}
use Rattle.items.proofs.Ideal.{start, push, out, final}
use Rattle.items.proofs.Order.{run, emitted}
use Rattle.items.proofs.Firsts.{no_claims_is}
use Rattle.closing.specs.declared.Wait.{Wait}
use Rattle.judging.specs.declared.opening.Open.{Open}
use Rattle.judging.specs.declared.opening.Pend.{Pend}
use Rattle.judging.specs.Opening.{no_open, more_open, low_open, read_as, heading_in, own_claims, span_closed, stated_closed, close_claims, pend_of, open_own, open_loose, low_marks_at}
use Rattle.closing.specs.Closing.{last_marks, close_as, close_faults}
use Rattle.closing.proofs.Sets.{line_marks}
use Rattle.judging.proofs.Meaning.{Means, low_out, field_out, head_out, final_out, means_low, means_field, means_head}
use Rattle.pass.specs.declared.Pass.{Pass}
use Rattle.shutting.specs.Starts.{Stands, WaitsAt}
use Rattle.pass.specs.Standing.{off_in, faults_among, claims_in, fresh, Bounded, Placed, Standing}
use Rattle.pass.proofs.Walk.{reads_again, zeros, means_as, head_as}
use Rattle.std.specs.Prelude.{None, Option}

-- ---- where lines start
take_past : (xs ys : List Line) → take (length xs) (xs ++ ys) ≡ xs
take_past [] ys = refl
take_past (x ∷ xs) ys = ap (λ (l : List Line). x ∷ l) (take_past xs ys)

off_none : (ls : List Line) → off_in ls 0 ≡ 0
unfolding taken_by
off_none ls = refl

-- the line after some starts where these end
off_next : (past later : List Line) (n : ℕ) → n ≡ length past → off_in (past ++ later) (suc n) ≡ taken_by past
off_next past later n e =
    let k : suc n - 1 ≡ length past = omega arith in ap (λ (m : ℕ). taken_by (take m (past ++ later))) k ∙ ap taken_by (take_past past later)

-- ---- before the first line
fresh_ready : (h : Heading) {ls rs ps : List ℕ} → length ls ≡ length rs → length ls ≡ length ps → Bounded 0 (fresh h) ls rs ps
fresh_ready h e level = record {
  few = omega arith;
  ready = record { room = omega arith; same = e; order = tt };
  level = level;
  small = omega arith;
  calm = omega arith;
  tail_few = omega arith;
  top_few = omega arith;
}

fresh_means : (terms : Terms) (h : Heading) {ls rs ps : List ℕ} → length ls ≡ length rs → length ls ≡ length ps
    → Standing terms [] ls rs ps ls rs ps (replicate 1296 0) (fresh h)
fresh_means terms h e level = record {
  pieces = start;
  all = [];
  counts = refl;
  means = record {
    open_is = refl;
    since_is = refl;
    own_is = refl;
    reads_as = refl;
    claims_are = no_claims_is;
    pending = tt;
    account_is = refl;
    wait_is = refl;
    numbered = tt;
    positive = tt;
    long = length-replicate {A = ℕ} 1296 0;
    past = λ k. let z : ◌≡◌ {A = ℕ} (get_or (replicate 1296 0) k 0) 0 = zeros 1296 k in omega arith;
    inside = tt;
  };
  book = book_start e refl;
  level = level;
  placed = λ later. record {
    at_field = off_none later;
    stands = record { none = off_none later; at_head = off_none later; at_wait = off_none later };
    beside = beside_start;
  };
  rest = λ later. refl;
}

-- as the code begins
module _ {p : Pass} (ep : p ≡ fresh p.heading) {ls rs ps : List ℕ} (same : length ls ≡ length rs) (level : length ls ≡ length ps) where
  pub fresh_bounded : Bounded 0 p ls rs ps
  fresh_bounded = subst (λ (q : Pass). Bounded 0 q ls rs ps) (sym ep) (fresh_ready p.heading same level)

  pub fresh_standing : (terms : Terms) {stood : List ℕ} → stood ≡ replicate 1296 0 → Standing terms [] ls rs ps ls rs ps stood p
  fresh_standing terms {stood} es = subst (λ (q : Pass). Standing terms [] ls rs ps ls rs ps stood q) (sym ep) (subst (λ (l : List ℕ). Standing terms [] ls rs ps ls rs ps l (fresh p.heading)) (sym es) (fresh_means terms p.heading same level))

-- ---- what is held after a line: of no kind or a continuation, a field, a heading
abbrev pub after_low : Pass → Ledger → Open → Bool → Pass
after_low p g o reads = record {
  ledger = g;
  field = o;
  pend = p.pend;
  since = p.since;
  top = p.top;
  reads = reads;
  heading = p.heading;
  kc = p.kc;
  span = p.span;
  stated = p.stated;
  block = p.block;
  wait = p.wait;
  starts = p.starts;
  n = p.n + 1;
}

abbrev pub after_field : Pass → Ledger → Open → Pend → First Payment → First Range → Sums → ℕ → Pass
after_field p g o pend kc span stated here = record {
  ledger = g;
  field = o;
  pend = pend;
  since = p.since;
  top = p.top;
  reads = p.reads;
  heading = p.heading;
  kc = kc;
  span = span;
  stated = stated;
  block = p.block;
  wait = p.wait;
  starts = record { field = here; head = p.starts.head; wait = p.starts.wait };
  n = p.n + 1;
}

abbrev pub after_head : Pass → Ledger → Open → ℕ → Bool → Heading → Sums → Block → Wait → ℕ → ℕ → Pass
after_head p g o own reads h stated b w here waits = record {
  ledger = g;
  field = o;
  pend = p.pend;
  since = p.n + 1;
  top = own;
  reads = reads;
  heading = h;
  kc = Missing;
  span = Missing;
  stated = stated;
  block = b;
  wait = w;
  starts = record { field = 0; head = here; wait = waits };
  n = p.n + 1;
}

-- the first KC is kept apart
parted : (t : Bool) (a b : First Payment) (span : First Range) (stated : Sums) → claims_as (cond t a b) span stated ≡ cond t (claims_as a span stated) (claims_as b span stated)
parted true a b span stated = refl
parted false a b span stated = refl

same_no : (t : Bool) (o : Open) (k : ℕ) → (cond t (more_open o k) o).no ≡ o.no
same_no true o k = refl
same_no false o k = refl

module _ {terms : Terms} {past : List Line} {ls₀ rs₀ ps₀ ls rs ps stood : List ℕ} {p : Pass} (W : Standing terms past ls₀ rs₀ ps₀ ls rs ps stood p) where
  abbrev read : Option Heading
  read = read_as p.reads p.heading

  -- one line more, whatever it is
  module _ (l : Line) where
    abbrev row : Row
    row = record { no = suc p.n; bytes = l.bytes; ended = l.ended }

    stand_on : (z : Sorted) → sorted row ≡ z → (xs : List Fault) → put_all put (out terms W.pieces z) W.all ≡ insert_all xs W.all
        → (p' : Pass) → p'.n ≡ suc p.n → {stood' : List ℕ}
        → Means terms (push W.pieces z) (suc p.n) p'.field p'.since p'.top (read_as p'.reads p'.heading) (claims_in p') p'.pend p'.block p'.wait stood'
        → {ls' rs' ps' : List ℕ} → Entered xs p.ledger ls rs p'.ledger ls' rs'
        → ((off : ℕ → ℕ) → off (suc p.n) ≡ taken_by past → Placed off ps₀ ls ps p → Placed off ps₀ ls' ps' p')
        → Standing terms (past ++ (l ∷ [])) ls₀ rs₀ ps₀ ls' rs' ps' stood' p'
    unfolding rows_from
    stand_on z ez xs eo p' en {stood'} M {ls'} {rs'} {ps'} E P = record {
      pieces = push W.pieces z;
      all = insert_all xs W.all;
      counts = omega (arith, en, W.counts, length-append past (l ∷ []));
      means = subst (λ (k : ℕ). Means terms (push W.pieces z) k p'.field p'.since p'.top (read_as p'.reads p'.heading) (claims_in p') p'.pend p'.block p'.wait stood') (sym en) M;
      book = book_more W.book E;
      level = W.level;
      placed = λ later. subst (λ (q : List Line). Placed (off_in q) ps₀ ls' ps' p') (sym (append_assoc past (l ∷ []) later))
          (P (off_in (past ++ (l ∷ later))) (off_next past (l ∷ later) p.n W.counts) (W.placed (l ∷ later)));
      rest = λ later.
          ap (λ (k : ℕ). run terms put (push W.pieces z) (insert_all xs W.all) (rows_from (suc k) later)) en
          ∙ ap (λ (a : List Fault). run terms put (push W.pieces z) a (rows_from (suc (suc p.n)) later)) (sym eo)
          ∙ ap (λ (y : Sorted). run terms put W.pieces W.all (y ∷ rows_from (suc (suc p.n)) later)) (sym ez)
          ∙ W.rest (l ∷ later)
          ∙ ap (λ (q : List Line). run terms put start [] (rows_from 1 q)) (sym (append_assoc past (l ∷ []) later));
    }

    module _ {own : ℕ} (eo : own ≡ line_marks row) {here : ℕ} (eh : taken_by past ≡ here) where
      on_here : (off : ℕ → ℕ) → off (suc p.n) ≡ taken_by past → off (p.n + 1) ≡ here
      on_here off e = ap off (add-one p.n) ∙ e ∙ eh

      -- a continuation, or a line of no kind
      pub stand_low : (t : Bool) → sorted row ≡ low (record { row = row; continues = t }) → {m : ℕ} → m ≡ low_marks_at own p.since p.field.no t
          → {o' : Open} → o' ≡ low_open t p.field (length l.bytes)
          → {reads' : Bool} → read_as reads' p.heading ≡ cond (t && eqb p.field.no 0) None read
          → {g' : Ledger} {ls' rs' ps' : List ℕ} → Entered (marked (p.n + 1) m) p.ledger ls rs g' ls' rs'
          → Kept (λ (off : ℕ → ℕ). off (p.n + 1) ≡ here) p.ledger.kept ls ps g'.kept ls' ps'
          → Standing terms (past ++ (l ∷ [])) ls₀ rs₀ ps₀ ls' rs' ps' stood (after_low p g' o' reads')
      stand_low t ez {m} em {o'} eo' {reads'} er {g'} E K =
          let y : LowRow = record { row = row; continues = t } in
          stand_on (low y) ez (marked (p.n + 1) m)
          (low_out terms W.pieces p.n p.field p.since p.top read (claims_in p) p.pend p.block p.wait stood W.means y W.all
          ∙ (λ i. insert_all (marked (sym (add-one p.n) i) (low_marks_at (sym eo i) p.since p.field.no t)) W.all)
          ∙ ap (λ (k : ℕ). insert_all (marked (p.n + 1) k) W.all) (sym em))
          (after_low p g' o' reads') (add-one p.n)
          (rw (eo', er) (means_low terms W.pieces p.n p.field p.since p.top read (claims_in p) p.pend p.block p.wait stood W.means y)) E
          (λ off e P. record {
            at_field = ap (λ (o : Open). off o.no) eo' ∙ ap off (same_no (t && not (eqb p.field.no 0)) p.field (length l.bytes)) ∙ P.at_field;
            stands = P.stands;
            beside = K off ps₀ (on_here off e) P.beside;
          })

      module _ {j : Basis} (ej : j ≡ basis_of terms) where
        -- a field
        pub stand_field : (i : ℕ) → sorted row ≡ field (record { row = row; ident = i }) → i < 1296 → {span' : First Range} → span' ≡ span_closed p.span p.field p.pend
            → {stated' : Sums} → stated' ≡ stated_closed p.stated p.field p.pend
            → {a : Bool} → a ≡ ltb p.since (get_or stood i 0)
            → {said : Reading} → said ≡ reading_of (class_of i) (text_of l.bytes)
            → {o' : Open} → o' ≡ cond (eqb p.since 0) (open_loose (p.n + 1) own) (open_own j p.kc read (p.n + 1) own a i said)
            → {kc' : First Payment} → kc' ≡ cond (eqb p.since 0) p.kc (kc_own p.kc i said)
            → {p' : Pend} → p' ≡ cond (eqb p.since 0) p.pend (pend_of p.pend i said)
            → {stood' : List ℕ} → stood' ≡ set stood i (p.n + 1)
            → {g' : Ledger} {ls' rs' ps' : List ℕ} → Entered (marked p.field.no p.field.marks) p.ledger ls rs g' ls' rs'
            → Kept (λ (off : ℕ → ℕ). off p.field.no ≡ p.starts.field) p.ledger.kept ls ps g'.kept ls' ps'
            → Standing terms (past ++ (l ∷ [])) ls₀ rs₀ ps₀ ls' rs' ps' stood' (after_field p g' o' p' kc' span' stated' here)
        stand_field i ez few {span'} en {stated'} et' {a} ea {said} es {o'} eo' {kc'} ek {p'} ep {stood'} et {g'} E K =
            let y : FieldRow = record { row = row; ident = i } in
            let closes : Claims = close_claims (claims_in p) p.field p.pend in
            stand_on (field y) ez (marked p.field.no p.field.marks)
            (field_out terms W.pieces p.n p.field p.since p.top read (claims_in p) p.pend p.block p.wait stood W.means y W.all)
            (after_field p g' o' p' kc' span' stated' here) (add-one p.n)
            (means_as
            (eo' ∙ (λ q. cond (eqb p.since 0) (open_loose (add-one p.n q) (eo q)) (open_own (ej q) p.kc read (add-one p.n q) (eo q) (ea q) i (es q))))
            ((λ q. claims_as (ek q) (en q) (et' q)) ∙ parted (eqb p.since 0) p.kc (kc_own p.kc i said) _ _ ∙ (λ q. cond (eqb p.since 0) closes (own_claims closes i (es q))))
            (ep ∙ (λ q. cond (eqb p.since 0) p.pend (pend_of p.pend i (es q))))
            (et ∙ ap (set stood i) (add-one p.n))
            (means_field terms W.pieces p.n p.field p.since p.top read (claims_in p) p.pend p.block p.wait stood W.means y refl few)) E
            (λ off e P. record {
              at_field = ap (λ (o : Open). off o.no) eo' ∙ field_here off e (eqb p.since 0);
              stands = record { none = P.stands.none; at_head = P.stands.at_head; at_wait = P.stands.at_wait };
              beside = K off ps₀ P.at_field P.beside;
            })
          where
            field_here : (off : ℕ → ℕ) → off (suc p.n) ≡ taken_by past → (t : Bool)
                → off (cond t (open_loose (p.n + 1) own) (open_own j p.kc read (p.n + 1) own a i said)).no ≡ here
            field_here off e true = on_here off e
            field_here off e false = on_here off e

        -- a heading
        pub stand_head : sorted row ≡ heading row → {r : Option Heading} → r ≡ heading_of l.bytes
            → {o' : Open} → o' ≡ no_open → {h' : Heading} → h' ≡ heading_in r p.heading → {reads' : Bool} → reads' ≡ not (is_unreadable r) → {stated' : Sums} → stated' ≡ no_sums
            → {b' : Block} → b' ≡ (close_as j p.block p.wait p.since p.top read (close_claims (claims_in p) p.field p.pend)).block
            → {w' : Wait} → w' ≡ (close_as j p.block p.wait p.since p.top read (close_claims (claims_in p) p.field p.pend)).wait
            → {g' : Ledger} {ls' rs' ps' : List ℕ}
            → Entered (marked p.field.no p.field.marks ++ close_faults j p.block p.wait p.since p.top read (close_claims (claims_in p) p.field p.pend)) p.ledger ls rs g' ls' rs'
            → Kept (λ (off : ℕ → ℕ). (off p.field.no ≡ p.starts.field) × Stands off p.starts p.since p.wait.line) p.ledger.kept ls ps g'.kept ls' ps'
            → {k : ℕ} → WaitsAt p.starts p.since p.wait.line w'.line k
            → Standing terms (past ++ (l ∷ [])) ls₀ rs₀ ps₀ ls' rs' ps' stood (after_head p g' o' own reads' h' stated' b' w' here k)
        stand_head ez {r} er {o'} eo' {h'} eh' {reads'} ed {stated'} et {b'} eb {w'} ew {g'} E K {k} A =
            let c : Claims = close_claims (claims_in p) p.field p.pend in
            stand_on (heading row) ez (marked p.field.no p.field.marks ++ close_faults j p.block p.wait p.since p.top read c)
            (head_out terms W.pieces p.n p.field p.since p.top read (claims_in p) p.pend p.block p.wait stood W.means row W.all
            ∙ sym (λ i. insert_all (marked p.field.no p.field.marks ++ close_faults (ej i) p.block p.wait p.since p.top read c) W.all))
            (after_head p g' o' own reads' h' stated' b' w' here k) (add-one p.n)
            (head_as eo' (add-one p.n) eo ((λ i. read_as (ed i) (eh' i)) ∙ reads_again r p.heading ∙ er) (ap (claims_as Missing Missing) et)
            (eb ∙ (λ i. (close_as (ej i) p.block p.wait p.since p.top read c).block))
            (ew ∙ (λ i. (close_as (ej i) p.block p.wait p.since p.top read c).wait))
            (means_head terms W.pieces p.n p.field p.since p.top read (claims_in p) p.pend p.block p.wait stood W.means row refl)) E
            (λ off e P. record {
              at_field = ap (λ (o : Open). off o.no) eo' ∙ P.stands.none;
              stands = record { none = P.stands.none; at_head = on_here off e; at_wait = A off P.stands };
              beside = K off ps₀ (P.at_field, P.stands) P.beside;
            })

  -- the file ends
  pub stand_end : {j : Basis} → j ≡ basis_of terms → {g' : Ledger} {ls' rs' ps' : List ℕ}
      → let q = close_as j p.block p.wait p.since p.top read (close_claims (claims_in p) p.field p.pend) in
      Entered ((marked p.field.no p.field.marks ++ close_faults j p.block p.wait p.since p.top read (close_claims (claims_in p) p.field p.pend)) ++ marked q.wait.line (last_marks q.block.course.any q.wait)) p.ledger ls rs g' ls' rs'
      → Kept (λ (off : ℕ → ℕ). (off p.field.no ≡ p.starts.field) × Stands off p.starts p.since p.wait.line) p.ledger.kept ls ps g'.kept ls' ps'
      → Listed (off_in past) (faults_among terms past) ls₀ rs₀ ps₀ g' ls' rs' ps'
  unfolding rows_from
  stand_end {j} ej {g'} {ls'} {rs'} {ps'} E K =
      let c : Claims = close_claims (claims_in p) p.field p.pend in
      let xs : Basis → List Fault = λ k. marked p.field.no p.field.marks ++ close_faults k p.block p.wait p.since p.top read c in
      let ys : Basis → List Fault = λ k. marked (close_as k p.block p.wait p.since p.top read c).wait.line (last_marks (close_as k p.block p.wait p.since p.top read c).block.course.any (close_as k p.block p.wait p.since p.top read c).wait) in
      let whole : run terms put start [] (rows_from 1 past) ≡ faults_among terms past =
      emitted terms put put_comm [] (rows_from 1 past) ∙ in_line_order 1 (spots terms (tree (rows_from 1 past))) (spots_orderly terms (tree (rows_from 1 past))) (lines_rise terms 1 past) in
      let done : put_all put (final terms W.pieces) W.all ≡ faults_among terms past =
      W.rest [] ∙ ap (λ (q : List Line). run terms put start [] (rows_from 1 q)) (append-nil past) ∙ whole in
      let ends : put_all put (final terms W.pieces) W.all ≡ insert_all (xs j ++ ys j) W.all =
      final_out terms W.pieces p.n p.field p.since p.top read (claims_in p) p.pend p.block p.wait stood W.means W.all
      ∙ sym (λ i. insert_all (ys (ej i)) (insert_all (xs (ej i)) W.all))
      ∙ sym (insert_all_append (xs j) (ys j) W.all) in
      let P : Placed (off_in past) ps₀ ls ps p = subst (λ (q : List Line). Placed (off_in q) ps₀ ls ps p) (append-nil past) (W.placed []) in
      book_listed (subst (λ (q : List Fault). Book q ls₀ rs₀ g' ls' rs') (sym ends ∙ done) (book_more W.book E)) W.level (K (off_in past) ps₀ (P.at_field, P.stands) P.beside)

-- the lines of a body
pub listed_whole : (terms : Terms) (s : List ℕ) {ls₀ rs₀ ps₀ : List ℕ} {g : Ledger} {ls rs ps : List ℕ}
    → Listed (off_in (lines s)) (faults_among terms (lines s)) ls₀ rs₀ ps₀ g ls rs ps → Listed (offset_of s) (faults_in terms s) ls₀ rs₀ ps₀ g ls rs ps
unfolding offset_of faults_in
listed_whole terms s L = L
