-- What is known of a body means the same after a piece more, and after any pieces.
use mathlib.Core.Path.{◌≡◌, refl, sym, ap, subst, ◌∙◌}
use mathlib.Core.Bool.{true, false, cond, not, ◌&&◌}
use mathlib.Core.List.{List, [], ◌∷◌, ◌++◌, append_assoc, append-nil}
use Prim.Native.Nat.{ℕ, ◌+◌, ◌-◌, ◌≤◌, min}
use native.Mathlib.Omega.{arith}
use borrow.Author.Tests.{eqb-true, not-true}
use lib.Dec.{eqb}
use lib.ListN.{length, take, drop, replicate, length-append, length-take, length-drop}
use lib.Seq.{take_all}
use Rattle.laws.proofs.Truth.{and_parts}
use Rattle.lines.specs.Lines.{Line, lines, taken_by, taken, offset_of}
use Rattle.rules.specs.Terms.{Terms}
use Rattle.rules.specs.Faults.{faults_in}
use Rattle.ledger.specs.declared.Ledger.{Ledger}
use Rattle.ledger.specs.Slices.{Listed}
use Rattle.own_rules.specs.declared.Basis.{Basis}
use Rattle.own_rules.specs.Model.{basis_of}
use Rattle.pass.specs.declared.Pass.{Pass}
use Rattle.pass.specs.Standing.{fresh, Bounded, Standing, InPlace, Fed, Finished}
use Rattle.pass.proofs.Standing.{fresh_bounded, fresh_standing, listed_whole}
use Rattle.pass.proofs.Feeding.{taken_none, in_place, bounded_more}
use Rattle.joining.specs.declared.Text.{Text}
use Rattle.joining.specs.declared.Held.{Held}
use Rattle.joining.specs.declared.Joined.{Joined}
use Rattle.joining.specs.Whole.{ended_ones, open_one, whole, rest}
use Rattle.joining.specs.Short.{sign, short_to, ends_cr, Kept, kept, kept_text, added}
use Rattle.joining.specs.Held.{as_text, as_held, as_joined, kept_in, ended_text, Join, join_of}
use Rattle.joining.specs.Portions.{concat}
use Rattle.joining.proofs.Cutting.{alone, rest_clear, sizes, whole_append, rest_append}
use Rattle.joining.proofs.Padded.{text_is, take_padded, few_kept}
use Rattle.joining.proofs.Behind.{whole_before, rest_behind}
use Rattle.joining.proofs.Joins.{added_none, held_none, held_same, held_again, join_within, join_one, closed_one}
use Rattle.joining.proofs.Real.{kept_like, kept_nothing, lines_all, Ended, join_real, Goes, join_goes, held_few, added_few, join_fits}
use Rattle.going.specs.declared.Going.{Going}
use Rattle.going.specs.Reached.{Sound, Reached, Begun, Gone, Done, Judged}
use Rattle.going.proofs.Alike.{one_alike, alone_alike}
use Rattle.going.proofs.Pieces.{Thens, held_all}

-- ---- texts that are lent

-- the text that an array holds
pub text_part : (t : Text) (x : List ℕ) → t ≡ as_text x → length x ≤ 68 → take t.len t.text ≡ x
text_part t x e h = ap (λ (u : Text). take u.len u.text) e ∙ take_padded x h

pub text_fits : (t : Text) (x : List ℕ) → t ≡ as_text x → length x ≤ 68 → (t.len ≤ length t.text) × (t.len ≡ length (take t.len t.text))
text_fits t x e h = let p = text_is t x e h in (omega (arith, p.0, p.1), omega (arith, p.0, p.1, length-take t.len t.text))

pub few_closing : (h : Held) → length (kept_text (kept_in h)) ≤ 68
few_closing h = omega (arith, few_kept h)

-- what stands behind a place
pub behind : (s : List ℕ) (n : ℕ) → take (length s - n) (drop n s) ≡ drop n s
behind s n = take_all (length s - n) (drop n s) (omega (arith, length-drop n s))

-- what was judged of a text
pub fed_as : {x y : List ℕ} → x ≡ y → {base : ℕ} {j : Basis} {ls rs ps stood ls' rs' ps' stood' : List ℕ} {p p' : Pass}
    → Bounded (base + length x) p' ls' rs' ps' → Fed x base j ls rs ps stood p ls' rs' ps' stood' p'
    → Bounded (base + length y) p' ls' rs' ps' × Fed y base j ls rs ps stood p ls' rs' ps' stood' p'
fed_as e {base} {j} {ls} {rs} {ps} {stood} {ls'} {rs'} {ps'} {stood'} {p} {p'} B F =
    subst (λ (l : List ℕ). Bounded (base + length l) p' ls' rs' ps' × Fed l base j ls rs ps stood p ls' rs' ps' stood' p') e (B, F)

-- ---- nothing has come

abbrev none : Kept
none = record { text = []; cr = false }

whole_none : whole [] ≡ []
unfolding lines ended_ones
whole_none = refl

kept_none : kept (rest []) ≡ none
unfolding kept lines open_one short_to sign ends_cr
kept_none = refl

pub begun : {p : Pass} {h : Held} → p ≡ fresh p.heading → h ≡ as_held none → Begun (record { pass = p; held = h; at = 0; came = 0 })
begun {p} {h} ep eh ls rs ps same level =
    let e : kept_in h ≡ none = ap kept_in eh ∙ held_none in (
      record { bounded = fresh_bounded ep same level; came = omega (arith, ap (λ (k : Kept). length (kept_text k)) e) },
      λ terms. record {
        judged = subst (λ (l : List Line). Standing terms l ls rs ps ls rs ps (replicate 1296 0) p) (sym whole_none) (fresh_standing ep same level terms refl);
        held = e ∙ sym kept_none;
        at = sym (ap taken_by whole_none ∙ taken_none);
        came = refl;
      },
    )

-- ---- the whole lines of a text

pub whole_fits : (s : List ℕ) (n : ℕ) → n ≡ taken_by (whole s) → n ≤ length s
whole_fits s n e = omega (arith, sizes s)

module _ (s : List ℕ) {n : ℕ} {h h' : Held} (en : n ≡ taken_by (whole s)) (eh : h ≡ as_held none) (eh' : h' ≡ as_held (added (kept_in h) (take (length s - n) (drop n s)))) where
  held_rest : h' ≡ as_held (kept (drop n s))
  held_rest = eh' ∙ ap (λ (l : List ℕ). as_held (added (kept_in h) l)) (behind s n) ∙ ap (λ (k : Kept). as_held (added k (drop n s))) (ap kept_in eh ∙ held_none) ∙ ap as_held (added_none (drop n s))

  pub whole_sound : (base : ℕ) {p' : Pass} {ls' rs' ps' : List ℕ} → Bounded (base + length (take n s)) p' ls' rs' ps'
      → Sound (record { pass = p'; held = h'; at = base + n; came = base + length s }) ls' rs' ps'
  whole_sound base B = record {
    bounded = bounded_more (omega (arith, length-take n s)) B;
    came = omega (
      arith,
      whole_fits s n en,
      ap (λ (k : Held). length (kept_text (kept_in k))) held_rest,
      held_few (kept (drop n s)),
      ap (λ (k : Kept). length (kept_text k)) (added_none (drop n s)),
      added_few none (drop n s),
      length-drop n s,
    );
  }

  pub whole_judged : {base : ℕ} {j : Basis} {ls rs ps stood ls' rs' ps' stood' : List ℕ} {p p' : Pass} → Fed (take n s) base j ls rs ps stood p ls' rs' ps' stood' p'
      → Judged s base j ls rs ps stood p ls' rs' ps' stood' (record { pass = p'; held = h'; at = base + n; came = base + length s })
  whole_judged {base} F = record {
    stands = λ terms past ls₀ rs₀ ps₀ ej et S.
        F terms past (whole s) ls₀ rs₀ ps₀ ej (subst (InPlace base past (whole s)) (sym (ap (λ (k : ℕ). lines (take k s)) en ∙ whole_before s)) (in_place base past (whole s) et)) S;
    held = ap kept_in held_rest ∙ held_again (drop n s) ∙ ap (λ (k : ℕ). kept (drop k s)) en ∙ ap kept (rest_behind s);
    at = ap (λ (k : ℕ). base + k) en;
    came = refl;
  }

-- ---- a piece more

taken_append : (a b : List Line) → taken_by (a ++ b) ≡ taken_by a + taken_by b
unfolding taken_by
taken_append [] b = omega arith
taken_append (l ∷ a) b = omega (arith, taken_append a b)

taken_one : (l : Line) → taken_by (l ∷ []) ≡ taken l
unfolding taken_by
taken_one l = omega arith

ended_first : (l : Line) (c : List ℕ) → l.ended ≡ true → ended_ones (l ∷ lines c) ≡ l ∷ whole c
unfolding ended_ones
ended_first l c e = rw e

open_first : (l : Line) (c : List ℕ) → l.ended ≡ true → open_one (l ∷ lines c) ≡ rest c
unfolding open_one
open_first l c e = rw e

-- nothing was kept, as the code finds it
pub nothing : (h : Held) → (eqb h.len 0 && not h.cr) ≡ true → kept_in h ≡ none
unfolding kept_in
nothing h e =
    let p = and_parts (eqb h.len 0) (not h.cr) e in
    let z : min 65 h.len ≡ 0 = omega (arith, eqb-true h.len 0 p.0) in
    λ i. record { text = (ap (λ (n : ℕ). take n h.text) z) i; cr = not-true h.cr p.1 i }

pub gone_whole : {s : List ℕ} {j : Basis} {ls rs ps stood : List ℕ} {g : Going} {ls' rs' ps' stood' : List ℕ} {g' : Going} → kept_in g.held ≡ none
    → Judged s g.came j ls rs ps stood g.pass ls' rs' ps' stood' g' → Gone s j ls rs ps stood g ls' rs' ps' stood' g'
gone_whole {s} {g = g} {ls'} {rs'} {ps'} {stood'} {g'} en J terms t ls₀ rs₀ ps₀ ej R =
    let r : rest t ≡ [] = kept_nothing (rest t) (sym R.held ∙ en) in
    let w : whole (t ++ s) ≡ whole t ++ whole s = whole_append t s ∙ ap (λ (l : List ℕ). whole t ++ whole (l ++ s)) r in
    let q : rest (t ++ s) ≡ rest s = rest_append t s ∙ ap (λ (l : List ℕ). rest (l ++ s)) r in
    let e : taken_by (whole t) ≡ g.came = omega (arith, sizes t, ap length r, R.came) in
    record {
      judged = subst (λ (l : List Line). Standing terms l ls₀ rs₀ ps₀ ls' rs' ps' stood' g'.pass) (sym w) (J.stands terms (whole t) ls₀ rs₀ ps₀ ej e R.judged);
      held = J.held ∙ ap kept (sym q);
      at = omega (arith, J.at, ap taken_by w, taken_append (whole t) (whole s));
      came = omega (arith, J.came, R.came, length-append t s);
    }

-- the line that is kept goes on
module _ (g : Going) (s : List ℕ) {d : Joined} (ed : d ≡ as_joined (join_of (kept_in g.held) s)) where
  pub join_next : d.next ≤ length s
  join_next = omega (arith, ap (λ (k : Joined). k.next) ed, join_within (kept_in g.held) s)

  join_kept : length (kept_text (kept_in d.held)) + cond d.ended 2 0 ≤ length (kept_text (kept_in g.held)) + d.next
  join_kept =
      let G : Join = join_of (kept_in g.held) s in
      omega (
        arith,
        ap (λ (k : Joined). k.next) ed,
        ap (λ (k : Joined). length (kept_text (kept_in k.held)) + cond k.ended 2 0) ed,
        held_few G.line,
        join_fits (kept_in g.held) s,
      )

  pub open_sound : {ls rs ps : List ℕ} → Sound g ls rs ps → Sound (record { pass = g.pass; held = d.held; at = g.at; came = g.came + length s }) ls rs ps
  open_sound S = record { bounded = S.bounded; came = omega (arith, S.came, join_kept, join_next) }

  -- where the line was joined, of a text of which it is the rest
  as_joined_lem : (x : List ℕ) → kept_in g.held ≡ kept x → d ≡ as_joined (join_of (kept x) s)
  as_joined_lem x ek = ed ∙ ap (λ (k : Kept). as_joined (join_of k s)) ek

  pub gone_open : d.ended ≡ false → {j : Basis} {ls rs ps stood : List ℕ}
      → Gone s j ls rs ps stood g ls rs ps stood (record { pass = g.pass; held = d.held; at = g.at; came = g.came + length s })
  gone_open f {ls = ls} {rs} {ps} {stood} terms t ls₀ rs₀ ps₀ ej R =
      let e : d ≡ as_joined (join_of (kept (rest t)) s) = as_joined_lem (rest t) R.held in
      let G : Goes (rest t) s (join_of (kept (rest t)) s) = join_goes (rest t) s (rest_clear t) (sym (ap (λ (k : Joined). k.ended) e) ∙ f) in
      let w : whole (t ++ s) ≡ whole t = whole_append t s ∙ ap (λ (l : List Line). whole t ++ l) G.none_whole ∙ append-nil (whole t) in
      record {
        judged = subst (λ (l : List Line). Standing terms l ls₀ rs₀ ps₀ ls rs ps stood g.pass) (sym w) R.judged;
        held = ap (λ (k : Joined). kept_in k.held) e
            ∙ ap (λ (k : Kept). kept_in (as_held k)) G.kept_of
            ∙ held_again (rest t ++ s)
            ∙ ap kept (sym (rest_append t s ∙ G.all_rest));
        at = R.at ∙ ap taken_by (sym w);
        came = omega (arith, R.came, length-append t s);
      }

  -- it ends in s
  module _ (f : d.ended ≡ true) where
    pub ended_room : {ls rs ps : List ℕ} → Sound g ls rs ps → g.at + length (ended_text (kept_in d.held)) ≤ g.came + d.next
    ended_room S =
        let two : ◌≡◌ {A = ℕ} (cond d.ended 2 0) 2 = rw f in
        omega (arith, S.came, join_kept, two, length-append (kept_text (kept_in d.held)) (0x0d ∷ 0x0a ∷ []))

    pub gone_ended : {j : Basis} {ls rs ps stood ls₁ rs₁ ps₁ stood₁ ls' rs' ps' stood' : List ℕ} {p₁ : Pass} {g' : Going}
        → Fed (ended_text (kept_in d.held)) g.at j ls rs ps stood g.pass ls₁ rs₁ ps₁ stood₁ p₁
        → Judged (take (length s - d.next) (drop d.next s)) (g.came + d.next) j ls₁ rs₁ ps₁ stood₁ p₁ ls' rs' ps' stood' g'
        → Gone s j ls rs ps stood g ls' rs' ps' stood' g'
    gone_ended {j} {ls₁ = ls₁} {rs₁} {ps₁} {stood₁} {ls'} {rs'} {ps'} {stood'} {p₁} {g'} F J₁ terms t ls₀ rs₀ ps₀ ej R =
        let J : Judged (drop d.next s) (g.came + d.next) j ls₁ rs₁ ps₁ stood₁ p₁ ls' rs' ps' stood' g' =
        subst (λ (l : List ℕ). Judged l (g.came + d.next) j ls₁ rs₁ ps₁ stood₁ p₁ ls' rs' ps' stood' g') (behind s d.next) J₁ in
        let x : List ℕ = rest t in
        let k : Join = join_of (kept x) s in
        let e : d ≡ as_joined k = as_joined_lem x R.held in
        let ends : k.ended ≡ true = sym (ap (λ (k : Joined). k.ended) e) ∙ f in
        let E : Ended x s k = join_real x s (rest_clear t) ends in
        let c : List ℕ = drop d.next s in
        let l : Line = record { bytes = E.real; ended = true } in
        let cut : lines (x ++ s) ≡ l ∷ lines c = E.cut ∙ ap (λ (n : ℕ). l ∷ lines (drop n s)) (sym (ap (λ (k : Joined). k.next) e)) in
        let line : kept_in d.held ≡ k.line = ap (λ (k : Joined). kept_in k.held) e ∙ held_same k.line E.few in
        let one : lines (ended_text (kept_in d.held)) ≡ record { bytes = kept_text k.line; ended = true } ∷ [] =
        ap (λ (q : Kept). lines (ended_text q)) line ∙ join_one x s (rest_clear t) ends in
        let S₁ : Standing terms (whole t ++ (l ∷ [])) ls₀ rs₀ ps₀ ls₁ rs₁ ps₁ stood₁ p₁ =
        F terms (whole t) (l ∷ []) ls₀ rs₀ ps₀ ej (subst (InPlace g.at (whole t) (l ∷ [])) (sym one) (one_alike E.real (kept_text k.line) E.like g.at (whole t) (sym R.at))) R.judged in
        let far : taken_by (whole t ++ (l ∷ [])) ≡ g.came + d.next =
        omega (arith, taken_append (whole t) (l ∷ []), taken_one l, sizes t, E.long, ap (λ (k : Joined). k.next) e, R.came) in
        let w : whole (t ++ s) ≡ (whole t ++ (l ∷ [])) ++ whole c =
        whole_append t s ∙ ap (λ (ls : List Line). whole t ++ ended_ones ls) cut ∙ ap (λ (ls : List Line). whole t ++ ls) (ended_first l c refl) ∙ sym (append_assoc (whole t) (l ∷ []) (whole c)) in
        let q : rest (t ++ s) ≡ rest c = rest_append t s ∙ ap open_one cut ∙ open_first l c refl in
        record {
          judged = subst (λ (ls : List Line). Standing terms ls ls₀ rs₀ ps₀ ls' rs' ps' stood' g'.pass) (sym w) (J.stands terms (whole t ++ (l ∷ [])) ls₀ rs₀ ps₀ ej far S₁);
          held = J.held ∙ ap kept (sym q);
          at = omega (arith, J.at, ap taken_by w, taken_append (whole t ++ (l ∷ [])) (whole c), far);
          came = omega (arith, J.came, R.came, length-append t s, length-drop d.next s, join_next);
        }

-- ---- no more comes

pub done : {g : Going} {j : Basis} {ls rs ps stood ls₁ rs₁ ps₁ stood₁ ls' rs' ps' : List ℕ} {p₁ : Pass} {r : Ledger} → Fed (kept_text (kept_in g.held)) g.at j ls rs ps stood g.pass ls₁ rs₁ ps₁ stood₁ p₁
    → Finished j ls₁ rs₁ ps₁ p₁ r ls' rs' ps' → Done j ls rs ps stood g r ls' rs' ps'
done {g} {ls₁ = ls₁} {rs₁} {ps₁} {stood₁} {p₁ = p₁} F N terms t ls₀ rs₀ ps₀ ej R =
    let x : List ℕ = rest t in
    let last : lines (kept_text (kept_in g.held)) ≡ alone (kept_text (kept x)) = ap (λ (k : Kept). lines (kept_text k)) R.held ∙ closed_one x (rest_clear t) in
    let S : Standing terms (whole t ++ alone x) ls₀ rs₀ ps₀ ls₁ rs₁ ps₁ stood₁ p₁ =
    F terms (whole t) (alone x) ls₀ rs₀ ps₀ ej (subst (InPlace g.at (whole t) (alone x)) (sym last) (alone_alike x (kept_text (kept x)) (kept_like x) g.at (whole t) (sym R.at))) R.judged in
    listed_whole terms t
    (N terms (lines t) ls₀ rs₀ ps₀ stood₁ ej (subst (λ (l : List Line). Standing terms l ls₀ rs₀ ps₀ ls₁ rs₁ ps₁ stood₁ p₁) (sym (lines_all t)) S))

-- ---- any pieces

-- what is known, with the slices as they stand
pub record State : Type 0 where
  pub lines_in : List ℕ
  pub rules_in : List ℕ
  pub offsets_in : List ℕ
  pub stood_in : List ℕ
  pub going : Going

-- a piece came to a, which made it b
abbrev pub Then : Basis → List ℕ → State → State → Type 0
Then j s a b = Gone s j a.lines_in a.rules_in a.offsets_in a.stood_in a.going b.lines_in b.rules_in b.offsets_in b.stood_in b.going

abbrev ReachedAt : Terms → List ℕ → List ℕ → List ℕ → List ℕ → State → Type 0
ReachedAt terms t ls₀ rs₀ ps₀ a = Reached terms t ls₀ rs₀ ps₀ a.lines_in a.rules_in a.offsets_in a.stood_in a.going

-- what is known then is what would be known of the text that they make
pub over_all : {j : Basis} {ss : List (List ℕ)} {a b : State} → Thens (Then j) ss a b → (terms : Terms) (t ls₀ rs₀ ps₀ : List ℕ) → j ≡ basis_of terms
    → ReachedAt terms t ls₀ rs₀ ps₀ a → ReachedAt terms (t ++ concat ss) ls₀ rs₀ ps₀ b
over_all T terms t ls₀ rs₀ ps₀ ej R = held_all (λ (l : List ℕ) (a : State). ReachedAt terms l ls₀ rs₀ ps₀ a) (λ s a b G l H. G terms l ls₀ rs₀ ps₀ ej H) T t R

-- and from the start on, at the end: the faults of that text are listed, as the pass over the whole lists them
pub all_listed : {j : Basis} {ss : List (List ℕ)} {a b : State} → Begun a.going → length a.lines_in ≡ length a.rules_in → length a.lines_in ≡ length a.offsets_in
    → a.stood_in ≡ replicate 1296 0 → Thens (Then j) ss a b → {r : Ledger} {ls rs ps : List ℕ}
    → Done j b.lines_in b.rules_in b.offsets_in b.stood_in b.going r ls rs ps → (terms : Terms) → j ≡ basis_of terms
    → Listed (offset_of (concat ss)) (faults_in terms (concat ss)) a.lines_in a.rules_in a.offsets_in r ls rs ps
all_listed {ss = ss} {a} B same level es T D terms ej =
    let ls : List ℕ = a.lines_in in
    let rs : List ℕ = a.rules_in in
    let ps : List ℕ = a.offsets_in in
    let R : ReachedAt terms [] ls rs ps a = subst (λ (l : List ℕ). Reached terms [] ls rs ps ls rs ps l a.going) (sym es) ((B ls rs ps same level).1 terms) in
    D terms (concat ss) ls rs ps ej (over_all T terms [] ls rs ps ej R)
