-- A movement booked, and the walk over all of a file's postings.
use Prim.Native.Nat.{ℕ, ◌≤◌, ◌<◌}
use native.Mathlib.Omega.{arith}
use mathlib.Core.Path.{◌≡◌, refl, sym, ap, subst, ◌∙◌}
use mathlib.Core.Bool.{Bool, true, false, cond, not, ◌&&◌, ◌||◌, true≢false, or-false}
use mathlib.Core.List.{List, [], ◌∷◌, map}
use lib.ListN.{length, get_or, drop, drop_of_length-le}
use lib.Seq.{get_or-set_other}
use lib.IntN.{ℤ, pos, ◌+ℤ◌}
use Rattle.laws.proofs.Truth.{by_test}
use Rattle.lines.specs.Lines.{lines}
use Rattle.rules.specs.Rows.{rows_from}
use Rattle.item_reader.specs.declared.Next.{Next}
use Rattle.item_reader.specs.Slips.{slips_from, Headed, IsFirst, IsSlip}
use Rattle.turnovers.specs.Scheme.{posting_of}
use Rattle.turnovers.specs.declared.Move.{Move}
use Rattle.std.specs.Prelude.{Option, Some, None}
use Rattle.booking.specs.declared.Told.{Told}
use Rattle.sums.specs.Sums.{AddsBoth, signed, beyond}
use Rattle.booking.specs.Sheet.{cell, is_listed, moved, goes_beyond, all_are_listed, some_passes, after}
use Rattle.booking.specs.Booking.{Sound, told, told_by, Kept, KeptBy, Booked}

-- what is found with a movement of listed participants
module _ (codes : List ℕ) (m : Move) (listed : is_listed codes m ≡ true) (t : Told) (ts : List ℤ) where
  abbrev tell : Bool → Told
  tell b = record { unlisted = t.unlisted; beyond = b }

  told_listed : tell (cond t.beyond true (goes_beyond codes ts m)) ≡ told codes t ts m
  unfolding told
  told_listed = rw listed

  pub told_before : t.beyond ≡ true → t ≡ told codes t ts m
  told_before b = ap tell (b ∙ sym (ap (λ (b : Bool). cond b true (goes_beyond codes ts m)) b)) ∙ told_listed

  abbrev x : ℤ
  x = signed m.minus m.amount

  abbrev here : ℕ
  here = cell codes m.payer.0 m.from

  abbrev there : ℕ
  there = cell codes m.other.0 m.to

  module _ (S : Sound m) (b : t.beyond ≡ false) {r : Bool} {ts' : List ℤ} (A : AddsBoth ts here there x r ts') where
    apart : here ≡ there → ⊥
    apart q = S.apart (omega (arith, q, S.from, S.to))

    both_is : r ≡ goes_beyond codes ts m
    both_is =
        A.passes ∙ ap (λ (z : ℤ). beyond (get_or ts here (pos 0) +ℤ x) || beyond (z +ℤ x)) (get_or-set_other ts here there (get_or ts here (pos 0) +ℤ x) (pos 0) (λ q. apart (sym q)))

    pub told_both : tell r ≡ told codes t ts m
    told_both = ap tell (both_is ∙ sym (ap (λ (b : Bool). cond b true (goes_beyond codes ts m)) b)) ∙ told_listed

-- ---- the walk over all postings, by what is left
pub record Left (codes : List ℕ) (ts₀ : List ℤ) (all : List (Option Move)) (ts : List ℤ) (t : Told) (left : List (Option Move)) : Type 0 where
  pub unlisted : not (all_are_listed codes all) ≡ (t.unlisted || not (all_are_listed codes left))
  pub beyond : t.unlisted ≡ false → some_passes codes ts₀ all ≡ (t.beyond || some_passes codes ts left)
  pub sheet : t.unlisted ≡ false → t.beyond ≡ false → after codes ts₀ all ≡ after codes ts left

one_more : (L u A : Bool) → (u || not (L && A)) ≡ (cond L u true || not A)
one_more true u A = refl
one_more false true A = refl
one_more false false A = refl

both_of : (L u : Bool) → cond L u true ≡ false → (L ≡ true) × (u ≡ false)
both_of true u e = (refl, e)
both_of false u e = absurd (true≢false e)

or_more : (b P S S' q : Bool) → q ≡ cond b true P → (q ≡ false → S' ≡ S) → (b || (P || S)) ≡ (q || S')
or_more true P S S' q e h = sym (ap (λ (b : Bool). b || S') e)
or_more false true S S' q e h = sym (ap (λ (b : Bool). b || S') e)
or_more false false S S' q e h = sym (h e) ∙ sym (ap (λ (b : Bool). b || S') e)

not_before : (b P : Bool) → cond b true P ≡ false → (b ≡ false) × (P ≡ false)
not_before true P e = absurd (true≢false e)
not_before false P e = (refl, e)

module _ (codes : List ℕ) (t : Told) (ts : List ℤ) (m : Move) where
  told_unlisted : (told codes t ts m).unlisted ≡ cond (is_listed codes m) t.unlisted true
  unfolding told
  told_unlisted = by_test (is_listed codes m)
      (λ q. rw q)
      (λ q. rw q)

  told_beyond : is_listed codes m ≡ true → (told codes t ts m).beyond ≡ cond t.beyond true (goes_beyond codes ts m)
  unfolding told
  told_beyond e = rw e

module _ {codes : List ℕ} {ts₀ : List ℤ} {all : List (Option Move)} {ts : List ℤ} {t : Told} {ps : List (Option Move)} {ts' : List ℤ} {t' : Told} where
  step_nothing : Left codes ts₀ all ts t (None ∷ ps) → t' ≡ t → KeptBy codes ts None t' ts' → Left codes ts₀ all ts' t' ps
  step_nothing W q K = record {
    unlisted = W.unlisted ∙ sym (ap (λ (t : Told). t.unlisted || not (all_are_listed codes ps)) q);
    beyond = λ e.
        W.beyond (ap (λ (t : Told). t.unlisted) (sym q) ∙ e)
        ∙ or_more t.beyond false (some_passes codes ts ps) (some_passes codes ts' ps) t'.beyond (ap (λ (t : Told). t.beyond) q ∙ same t.beyond) (λ f. ap (λ (l : List ℤ). some_passes codes l ps) (K e f));
    sheet = λ e f. W.sheet (ap (λ (t : Told). t.unlisted) (sym q) ∙ e) (ap (λ (t : Told). t.beyond) (sym q) ∙ f) ∙ sym (ap (λ (l : List ℤ). after codes l ps) (K e f));
  }
    where
      same : (b : Bool) → b ≡ cond b true false
      same true = refl
      same false = refl

  step_move : (m : Move) → Left codes ts₀ all ts t (Some m ∷ ps) → t' ≡ told codes t ts m → Kept codes ts m t' ts' → Left codes ts₀ all ts' t' ps
  step_move m W q K = record {
    unlisted = W.unlisted ∙ one_more (is_listed codes m) t.unlisted (all_are_listed codes ps) ∙ sym (ap (λ (b : Bool). b || not (all_are_listed codes ps)) is_unlisted);
    beyond = λ e.
        let h = both_of (is_listed codes m) t.unlisted (sym is_unlisted ∙ e) in
        W.beyond h.1
        ∙ or_more t.beyond (goes_beyond codes ts m) (some_passes codes (moved codes ts m) ps) (some_passes codes ts' ps) t'.beyond
        (is_beyond h.0) (λ f. ap (λ (l : List ℤ). some_passes codes l ps) (K e f));
    sheet = λ e f.
        let h = both_of (is_listed codes m) t.unlisted (sym is_unlisted ∙ e) in
        W.sheet h.1 (not_before t.beyond (goes_beyond codes ts m) (sym (is_beyond h.0) ∙ f)).0 ∙ sym (ap (λ (l : List ℤ). after codes l ps) (K e f));
  }
    where
      is_unlisted : t'.unlisted ≡ cond (is_listed codes m) t.unlisted true
      is_unlisted = ap (λ (t : Told). t.unlisted) q ∙ told_unlisted codes t ts m

      is_beyond : is_listed codes m ≡ true → t'.beyond ≡ cond t.beyond true (goes_beyond codes ts m)
      is_beyond e = ap (λ (t : Told). t.beyond) q ∙ told_beyond codes t ts m e

  pub step : (p : Option Move) → Left codes ts₀ all ts t (p ∷ ps) → t' ≡ told_by codes t ts p → KeptBy codes ts p t' ts' → Left codes ts₀ all ts' t' ps
  step None W q K = step_nothing W q K
  step (Some m) W q K = step_move m W q K

pub left_end : {codes : List ℕ} {ts₀ : List ℤ} {all : List (Option Move)} {ts : List ℤ} {t : Told} → Left codes ts₀ all ts t [] → Booked codes ts₀ all t ts
left_end {codes} {ts₀} {all} {ts} {t} W = record {
  unlisted = u;
  beyond = λ e. sym (W.beyond (u ∙ ap not e) ∙ or-false t.beyond);
  sheet = λ e f. sym (W.sheet (u ∙ ap not e) (sym (W.beyond (u ∙ ap not e) ∙ or-false t.beyond) ∙ f));
}
  where
    u : t.unlisted ≡ not (all_are_listed codes all)
    u = sym (W.unlisted ∙ or-false t.unlisted)

-- ---- .. of a file's body
abbrev pub postings_from : ℕ → List ℕ → List (Option Move)
postings_from n s = map posting_of (slips_from n s)

pub record Walk (codes : List ℕ) (ts₀ : List ℤ) (s : List ℕ) (ts : List ℤ) (t : Told) (at : ℕ) : Type 0 where
  pub to : at ≤ length s
  pub headed : at < length s → Headed s at
  pub left : Left codes ts₀ (postings_from 1 s) ts t (postings_from 1 (drop at s))

nothing_left : (s : List ℕ) (at : ℕ) → length s ≤ at → postings_from 1 (drop at s) ≡ []
unfolding rows_from lines
nothing_left s at h = ap (postings_from 1) (drop_of_length-le s h)

module _ {codes : List ℕ} {s : List ℕ} where
  pub walk_start : {ts : List ℤ} {at : ℕ} → IsFirst s 0 at → Walk codes ts s ts (record { unlisted = false; beyond = false }) at
  walk_start {ts} B = record {
    to = B.within;
    headed = B.headed;
    left = subst (λ (l : List (Option Move)). Left codes ts (postings_from 1 s) ts (record { unlisted = false; beyond = false }) l) (ap (map posting_of) (B.after 1)) (start ts (postings_from 1 s));
  }
    where
      start : (ts : List ℤ) (all : List (Option Move)) → Left codes ts all ts (record { unlisted = false; beyond = false }) all
      start ts all = record { unlisted = refl; beyond = λ e. refl; sheet = λ e f. refl }

  module _ {ts₀ ts : List ℤ} {t : Told} {at : ℕ} (W : Walk codes ts₀ s ts t at) where
    pub walk_on : {x : Next} → IsSlip s at x → {t' : Told} {ts' : List ℤ} {p : Option Move} → p ≡ posting_of x.slip → t' ≡ told_by codes t ts p → KeptBy codes ts p t' ts' → Walk codes ts₀ s ts' t' x.next
    walk_on {x} X {t'} {ts'} {p} e q K = record {
      to = X.within;
      headed = X.headed;
      left = step p (subst (λ (l : List (Option Move)). Left codes ts₀ (postings_from 1 s) ts t l) (ap (map posting_of) (X.cut 1) ∙ ap (λ (p : Option Move). p ∷ postings_from 1 (drop x.next s)) (sym e)) W.left) q K;
    }

    pub walk_end : length s ≤ at → Booked codes ts₀ (postings_from 1 s) t ts
    walk_end h = left_end (subst (λ (l : List (Option Move)). Left codes ts₀ (postings_from 1 s) ts t l) (nothing_left s at h) W.left)
