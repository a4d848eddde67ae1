-- From one heading to the next: the lines between are passed over up to a sign, and what the jobs see of them stays.
use Prim.Native.Nat.{ℕ, zero, suc, ◌+◌, ◌-◌, ◌≤◌, ◌<◌}
use native.Mathlib.Nat.{add-zero}
use native.Mathlib.Numerals.{add-one}
use native.Mathlib.Omega.{arith}
use mathlib.Core.Path.{◌≡◌, refl, sym, ap, subst, ◌∙◌}
use mathlib.Core.Bool.{Bool, true, false, cond, ◌&&◌, ◌||◌, true≢false, false≢true}
use mathlib.Core.List.{List, [], ◌∷◌}
use mathlib.Core.Logic.{⊎_elim}
use lib.Dec.{eqb, ltb}
use lib.ListN.{length, take, drop, get_or, length-take, length-drop}
use lib.Seq.{drop-cons, drop-drop}
use borrow.Author.Tests.{eqb-true, ltb-true, ltb-false}
use Rattle.laws.specs.Ascii.{ascii}
use Rattle.laws.specs.Lists.{any_of}
use Rattle.laws.specs.Tests.{is_byte}
use Rattle.laws.proofs.Truth.{never_true, both_left, both_right, by_test}
use Rattle.laws.proofs.Any.{or_left, or_right}
use Rattle.text.specs.Strings.{begins}
use Rattle.text.specs.Characters.{is_odd}
use Rattle.text.specs.Forms.{template, fits_byte, has_form}
use Rattle.lines.specs.Lines.{Line, crlf, lines}
use Rattle.lines.specs.Reading.{line_at, span, IsNext}
use Rattle.lines.specs.declared.Found.{Found}
use Rattle.lines.proofs.Lines.{lines_past, lines_cut}
use Rattle.lines.proofs.Reading.{is_next, line_block, line_cut}
use Rattle.headings.specs.declared.Heading.{Heading}
use Rattle.headings.specs.Reading.{layout, is_heading, heading_of}
use Rattle.headings.proofs.Places.{read_size}
use Rattle.fields.specs.declared.kinds.Kind.TheVariants.{Continuation, Field, Other, Heading as HeadingKind}
use Rattle.fields.specs.Kinds.{kind_of}
use Rattle.rules.specs.declared.First.{First}
use Rattle.rules.specs.declared.First.TheVariants.{Missing}
use Rattle.rules.specs.declared.Payment.{Payment}
use Rattle.item_reader.specs.declared.Gap.{Gap}
use Rattle.item_reader.specs.declared.Title.{Title}
use Rattle.item_reader.specs.Slips.{amount_of, Headed, IsFirst, IsSlip}
use Rattle.sign_finder.specs.Signs.{stands_at, Quiet, IsSign}
use Rattle.item_reader.specs.Search.{IsGap, kc_line, reads_to, IsTitle}
use Rattle.item_reader.proofs.Starts.{kind_told, heading_told, kc_told}
use Rattle.item_reader.proofs.Passing.{slips_in, kc_in, top_in, none_in, others, kc_small, item_here, kc_none, kc_here, top_heading, top_continuation, top_field, top_other, line_slips, line_kc, byte_slips, byte_kc}
use Rattle.text.proofs.Comparing.{begins_length}
use Rattle.sign_finder.proofs.Signs.{sign_size}
use Rattle.std.specs.Prelude.{None, Option, Some}
use Rattle.std.proofs.lemmas.List.{take_rest}

-- ---- from a place to another, with no sign between
module _ (s : List ℕ) (n : ℕ) where
  drop_on : (i : ℕ) → i < length s → drop i s ≡ get_or s i 0 ∷ drop (i + 1) s
  drop_on i h = rw (add-one i) (drop-cons s i 0 h)

  over_slips : (d i : ℕ) → i + d ≤ length s → Quiet s 0x48 0x44 i (i + d) → slips_in n (others (lines (drop i s))) ≡ slips_in n (others (lines (drop (i + d) s)))
  over_slips zero i h q = ap (λ (j : ℕ). slips_in n (others (lines (drop j s)))) (sym (add-zero i))
  over_slips (suc d) i h q =
      let c = drop_on i (omega arith) in
      ap (λ (x : List ℕ). slips_in n (others (lines x))) c
      ∙ byte_slips (get_or s i 0) (drop (i + 1) s) n (ap (λ (x : List ℕ). begins x (0x0d ∷ 0x0a ∷ ascii "HD:")) (sym c) ∙ q i (omega arith) (omega arith))
      ∙ over_slips d (i + 1) (omega arith) (λ k p r. q k (omega arith) (omega arith))
      ∙ ap (λ (j : ℕ). slips_in n (others (lines (drop j s)))) (let z : i + 1 + d ≡ i + suc d = omega arith in z)

  over_kc : (d i : ℕ) → i + d ≤ length s → Quiet s 0x48 0x44 i (i + d) → Quiet s 0x4b 0x43 i (i + d) → kc_in n (others (lines (drop i s))) ≡ kc_in n (others (lines (drop (i + d) s)))
  over_kc zero i h q w = ap (λ (j : ℕ). kc_in n (others (lines (drop j s)))) (sym (add-zero i))
  over_kc (suc d) i h q w =
      let c = drop_on i (omega arith) in
      ap (λ (x : List ℕ). kc_in n (others (lines x))) c
      ∙ byte_kc (get_or s i 0) (drop (i + 1) s) n
      (ap (λ (x : List ℕ). begins x (0x0d ∷ 0x0a ∷ ascii "HD:")) (sym c) ∙ q i (omega arith) (omega arith))
      (ap (λ (x : List ℕ). begins x (0x0d ∷ 0x0a ∷ ascii "KC:")) (sym c) ∙ w i (omega arith) (omega arith))
      ∙ over_kc d (i + 1) (omega arith) (λ k p r. q k (omega arith) (omega arith)) (λ k p r. w k (omega arith) (omega arith))
      ∙ ap (λ (j : ℕ). kc_in n (others (lines (drop j s)))) (let z : i + 1 + d ≡ i + suc d = omega arith in z)

  to_slips : (i j : ℕ) → i ≤ j → j ≤ length s → Quiet s 0x48 0x44 i j → slips_in n (others (lines (drop i s))) ≡ slips_in n (others (lines (drop j s)))
  to_slips i j h l q =
      let z : i + (j - i) ≡ j = omega arith in
      over_slips (j - i) i (omega arith) (λ k p r. q k p (omega (arith, z))) ∙ ap (λ (j : ℕ). slips_in n (others (lines (drop j s)))) z

  to_kc : (i j : ℕ) → i ≤ j → j ≤ length s → Quiet s 0x48 0x44 i j → Quiet s 0x4b 0x43 i j → kc_in n (others (lines (drop i s))) ≡ kc_in n (others (lines (drop j s)))
  to_kc i j h l q w =
      let z : i + (j - i) ≡ j = omega arith in
      over_kc (j - i) i (omega arith) (λ k p r. q k p (omega (arith, z))) (λ k p r. w k p (omega (arith, z))) ∙ ap (λ (j : ℕ). kc_in n (others (lines (drop j s)))) z

-- ---- a sign: after its CR LF the line starts
begins_past : (x y : List ℕ) → begins x (0x0d ∷ 0x0a ∷ y) ≡ true → (crlf x ≡ true) × (begins (drop 2 x) y ≡ true)
unfolding begins crlf
begins_past [] y e = absurd (false≢true e)
begins_past (b ∷ []) y e = absurd (false≢true (both_right (eqb b 0x0d) false e))
begins_past (b ∷ c ∷ x) y e =
    let r = both_right (eqb b 0x0d) (eqb c 0x0a && begins x y) e in
    ((λ i. both_left (eqb b 0x0d) (eqb c 0x0a && begins x y) e i && both_left (eqb c 0x0a) (begins x y) r i), both_right (eqb c 0x0a) (begins x y) r)

module _ (s : List ℕ) where
  starts_at : (a b k : ℕ) → stands_at s a b k ≡ true → (others (lines (drop k s)) ≡ lines (drop (k + 2) s)) × (begins (drop (k + 2) s) (a ∷ b ∷ 0x3a ∷ []) ≡ true)
  starts_at a b k e =
      let p = begins_past (drop k s) (a ∷ b ∷ 0x3a ∷ []) e in
      let d = drop-drop 2 k s in
      (ap others (lines_cut (drop k s) p.0) ∙ ap lines d, ap (λ (x : List ℕ). begins x (a ∷ b ∷ 0x3a ∷ [])) (sym d) ∙ p.1)

  -- what was asked of `&s[at..]`
  pub asked : {A : Type 0} (at : ℕ) (f : List ℕ → A) {r : A} → r ≡ f (take (length s - at) (drop at s)) → f (drop at s) ≡ r
  asked at f e = ap f (sym (take_rest s at)) ∙ sym e

  none_after : (k : ℕ) → length s ≤ k → others (lines (drop k s)) ≡ []
  none_after k h = ap others (lines_past s k h)

  -- the line at a place
  module _ (p : ℕ) (h : p < length s) where
    here : IsNext s p (line_at s p)
    here = is_next s p (line_at s p) refl h

    abbrev line : Line
    line = record { bytes = span p (line_at s p).end s; ended = (line_at s p).ended }

    abbrev below : List Line
    below = lines (drop (line_at s p).next s)

    kind_here : kind_of (span p (line_at s p).end s) ≡ kind_of (drop p s)
    kind_here = kind_told (drop p s) line below here.cut

    pub kc_line_lem : begins (drop p s) (ascii "KC:") ≡ true → (n : ℕ) → kc_in n (lines (drop p s)) ≡ kc_line s p
    kc_line_lem e n = ap (kc_in n) here.cut ∙ kc_here line below n (kind_here ∙ kc_told (drop p s) e)

    no_line : begins (drop p s) (ascii "HD:") ≡ true → (n : ℕ) → kc_in n (lines (drop p s)) ≡ Missing
    no_line e n = ap (kc_in n) here.cut ∙ kc_none line below n (kind_here ∙ heading_told (drop p s) e)

    headed_at : begins (drop p s) (ascii "HD:") ≡ true → Headed s p
    headed_at e = kind_here ∙ heading_told (drop p s) e

    -- ---- continuations of what stands above
    pub top_at_heading : kind_of (drop p s) ≡ HeadingKind → (n : ℕ) → top_in n (lines (drop p s)) ≡ false
    top_at_heading e n = ap (top_in n) here.cut ∙ top_heading line below n (kind_here ∙ e)

    pub top_at_continuation : kind_of (drop p s) ≡ Continuation → (n : ℕ) → top_in n (lines (drop p s)) ≡ true
    top_at_continuation e n = ap (top_in n) here.cut ∙ top_continuation line below n (kind_here ∙ e)

    pub top_at_field : (i : ℕ) → kind_of (drop p s) ≡ Field i → (n : ℕ) → top_in n (lines (drop p s)) ≡ false
    top_at_field i e n = ap (top_in n) here.cut ∙ top_field line below n i (kind_here ∙ e)

    pub top_at_other : kind_of (drop p s) ≡ Other → (n : ℕ) → top_in n (lines (drop p s)) ≡ top_in n (lines (drop (line_at s p).next s))
    top_at_other e n = ap (top_in n) here.cut ∙ top_other line below n (kind_here ∙ e)

  pub top_at_end : (p : ℕ) → length s ≤ p → (n : ℕ) → top_in n (lines (drop p s)) ≡ false
  top_at_end p h n = ap (top_in n) (lines_past s p h) ∙ (none_in n).2

  pub full : (p : ℕ) (y : List ℕ) → 0 < length y → begins (drop p s) y ≡ true → p < length s
  full p y h e = omega (arith, begins_length (drop p s) y e, length-drop p s)

  -- ---- the next heading
  module _ (at : ℕ) (h : at ≤ length s) where
    gap_at : (end next : ℕ) → begins (drop at s) (ascii "HD:") ≡ false → IsSign s 0x48 0x44 at (length s) end → next ≡ cond (ltb end (length s)) (end + 2) end → IsFirst s at next
    gap_at end next e S q = go (ltb end (length s)) refl
      where
        to_end : (n : ℕ) → slips_in n (lines (drop at s)) ≡ slips_in n (others (lines (drop end s)))
        to_end n = line_slips (drop at s) n e ∙ to_slips s n at end S.from S.to S.none

        go : (t : Bool) → ltb end (length s) ≡ t → IsFirst s at next
        go true t =
            let l = ltb-true end (length s) t in
            let w = S.there l in
            let st = starts_at 0x48 0x44 end w in
            let z : next ≡ end + 2 = q ∙ ap (λ (t : Bool). cond t (end + 2) end) t in
            subst (IsFirst s at) (sym z)
            (record {
              after = λ n. to_end n ∙ ap (slips_in n) st.0;
              from = omega (arith, S.from);
              within = omega (arith, sign_size s 0x48 0x44 end w);
              headed = λ l. headed_at (end + 2) l st.1;
            })
        go false t =
            let l = ltb-false end (length s) t in
            let z : next ≡ end = q ∙ ap (λ (t : Bool). cond t (end + 2) end) t in
            subst (IsFirst s at) (sym z)
            (record {
              after = λ n. to_end n ∙ ap (slips_in n) (none_after end l ∙ sym (lines_past s end l));
              from = S.from;
              within = S.to;
              headed = λ u. absurd (omega arith);
            })

    pub gap_ends : {g : Gap} → IsGap s at g → (at ≤ g.end) × (g.end ≤ length s)
    gap_ends {g} G =
        ⊎_elim (λ w. (omega (arith, w.1), omega (arith, w.1))) (λ w. (w.1.from, w.1.to)) G

    pub gap_first : {g : Gap} → IsGap s at g → IsFirst s at g.next
    gap_first {g} G =
        ⊎_elim
        (λ w. subst (IsFirst s at) (sym w.2) (record { after = λ n. refl; from = omega arith; within = h; headed = λ l. headed_at at l w.0 }))
        (λ w. gap_at g.end g.next w.0 w.1 w.2)
        G

    -- ---- the first KC before it
    module _ {g : Gap} (G : IsGap s at g) {k : ℕ} (K : IsSign s 0x4b 0x43 at g.end k) (e : begins (drop at s) (ascii "KC:") ≡ false) where
      to_sign : begins (drop at s) (ascii "HD:") ≡ false → IsSign s 0x48 0x44 at (length s) g.end → (n : ℕ) → kc_in n (lines (drop at s)) ≡ kc_in n (others (lines (drop k s)))
      to_sign q S n =
          line_kc (drop at s) n q e
          ∙ to_kc s n at k K.from (omega (arith, K.to, S.to)) (λ j p r. S.none j p (omega (arith, K.to))) K.none

      pub kc_sign : k < g.end → (n : ℕ) → kc_in n (lines (drop at s)) ≡ kc_line s (k + 2)
      kc_sign l n =
          ⊎_elim
          (λ w. absurd (omega (arith, w.1, K.from)))
          (λ w.
          let st = starts_at 0x4b 0x43 k (K.there l) in
          to_sign w.0 w.1 n ∙ ap (kc_in n) st.0 ∙ kc_line_lem (k + 2) (full (k + 2) (ascii "KC:") (omega arith) st.1) st.1 n)
          G

      none_found : g.end ≤ k → begins (drop at s) (ascii "HD:") ≡ false → IsSign s 0x48 0x44 at (length s) g.end → (n : ℕ) → kc_in n (lines (drop at s)) ≡ Missing
      none_found l q S n = to_sign q S n ∙ go (ltb k (length s)) refl
        where
          same : k ≡ g.end
          same = omega (arith, K.to)

          go : (t : Bool) → ltb k (length s) ≡ t → kc_in n (others (lines (drop k s))) ≡ Missing
          go true t =
              let u : g.end < length s = omega (arith, same, ltb-true k (length s) t) in
              let st = starts_at 0x48 0x44 k (ap (stands_at s 0x48 0x44) same ∙ S.there u) in
              ap (kc_in n) st.0 ∙ no_line (k + 2) (full (k + 2) (ascii "HD:") (omega arith) st.1) st.1 n
          go false t = ap (kc_in n) (none_after k (ltb-false k (length s) t)) ∙ (none_in n).1

      pub kc_nowhere : g.end ≤ k → (n : ℕ) → kc_in n (lines (drop at s)) ≡ Missing
      kc_nowhere l n =
          ⊎_elim
          (λ w. no_line at (full at (ascii "HD:") (omega arith) w.0) w.0 n)
          (λ w. none_found l w.0 w.1 n)
          G

-- ---- a heading of 54 bytes and CR LF
form_plain : (ts x : List ℕ) → any_of (is_byte 0x0d) ts ≡ false → has_form ts x ≡ true → any_of (is_byte 0x0d) x ≡ false
unfolding any_of has_form
form_plain [] [] e f = refl
form_plain [] (b ∷ x) e f = absurd (false≢true f)
form_plain (t ∷ ts) [] e f = refl
form_plain (t ∷ ts) (b ∷ x) e f =
    rw (never_true (is_byte 0x0d b) (λ q. no_cr (eqb-true b 0x0d q))) (form_plain ts x (or_right (is_byte 0x0d t) (any_of (is_byte 0x0d) ts) e) (both_right (fits_byte t b) (has_form ts x) f))
  where
    or_none : (u v : Bool) → (u || (v && false)) ≡ true → u ≡ true
    or_none true v w = refl
    or_none false true w = w
    or_none false false w = w

    no_cr : b ≡ 0x0d → ⊥
    no_cr q =
        let w : fits_byte t 0x0d ≡ true = ap (fits_byte t) (sym q) ∙ both_left (fits_byte t b) (has_form ts x) f in
        let z : 0x0d ≡ t = eqb-true 0x0d t (or_none (eqb 0x0d t) (eqb t 48) w) in
        true≢false (ap (is_byte 0x0d) z ∙ or_left (is_byte 0x0d t) (any_of (is_byte 0x0d) ts) e)

pub read_plain : (x : List ℕ) → reads_to (heading_of x) ≡ true → any_of (is_byte 0x0d) x ≡ false
unfolding heading_of template any_of
read_plain x e = by_test (is_heading x)
    (form_plain (template layout) x refl)
    (λ q. absurd (false≢true (rw q at e)))

pub title_short : (s : List ℕ) (at : ℕ) → at + 56 ≤ length s → {r : Option Heading} → r ≡ heading_of (take (at + 54 - at) (drop at s)) → reads_to r ≡ true → begins (drop (at + 54) s) (0x0d ∷ 0x0a ∷ []) ≡ true
    → IsTitle s at (record { head = r; next = at + 56 })
title_short s at h {r} q e c =
    let m : at + 54 - at ≡ 54 = omega arith in
    let x = take 54 (drop at s) in
    let q' : r ≡ heading_of x = q ∙ ap (λ (k : ℕ). heading_of (take k (drop at s))) m in
    let plain : any_of (is_byte 0x0d) x ≡ false = read_plain x (ap reads_to (sym q') ∙ e) in
    let o = any_of is_odd (take (at + 54 - at) (drop at s)) in
    let f : line_at s at ≡ record { end = at + 54; next = at + 54 + 2; ended = true; odd = o } =
    line_block s at 54 false o (omega arith) plain refl ∙ line_cut s (at + 54) o (begins_past (drop (at + 54) s) [] c).0 in
    record {
      head = q ∙ ap (λ (k : ℕ). heading_of (span at k s)) (sym (ap (λ (f : Found). f.end) f));
      next = (let z : at + 56 ≡ at + 54 + 2 = omega arith in z) ∙ sym (ap (λ (f : Found). f.next) f);
    }

-- ---- the item at a heading
reads_when : (t : Bool) (r : Option Heading) (h : Heading) → cond t None r ≡ Some h → r ≡ Some h
reads_when true r h e = let z : ◌≡◌ {A = ℕ} 0 1 = cc in absurd (omega arith)
reads_when false r h e = e

module _ {s : List ℕ} {at : ℕ} (l : at < length s) (H : Headed s at) {t : Title} (T : IsTitle s at t) where
  N : IsNext s at (line_at s at)
  N = here s at l

  pub title_within : t.next ≤ length s
  title_within = subst (λ (p : ℕ). p ≤ length s) (sym T.next) N.within

  module _ {c : Bool} (C : (n : ℕ) → top_in n (lines (drop t.next s)) ≡ c) {next : ℕ} (F : IsFirst s t.next next) where
    pub slip_is : {kc : First Payment} → ((n : ℕ) → kc_in n (lines (drop t.next s)) ≡ kc)
        → IsSlip s at (record { slip = record { head = cond c None t.head; kc = kc }; next = next })
    slip_is {kc} K = record {
      small = subst (λ (k : First Payment). amount_of k < 1000000000000000) (K 0) (kc_small (lines (drop t.next s)) 0);
      cut = λ n.
          ap (slips_in n) N.cut
          ∙ item_here (line s at l) (below s at l) n H
          ∙ ap (λ (p : ℕ). record { head = cond (top_in n (lines (drop p s))) None (heading_of (span at (line_at s at).end s)); kc = kc_in n (lines (drop p s)) } ∷ slips_in n (lines (drop p s))) (sym T.next)
          ∙ (let q = sym T.head in λ i. record { head = cond (C n i) None (q i); kc = K n i } ∷ F.after n i);
      long = λ h w.
          let size : length (span at (line_at s at).end s) ≡ 54 = read_size (span at (line_at s at).end s) h (sym T.head ∙ reads_when c t.head h w) in
          omega (arith, size, length-take ((line_at s at).end - at) (drop at s), N.closes, N.starts, T.next, F.from);
      moves = omega (arith, N.moves, T.next, F.from);
      within = F.within;
      headed = F.headed;
    }
