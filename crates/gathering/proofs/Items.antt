-- The loops that make rows of keys: of a file's items, of the ranges that a register keeps.
use Prim.Native.Nat.{ℕ, ◌+◌, ◌-◌, ◌*◌, ◌≤◌, ◌<◌}
use native.Mathlib.Omega.{arith}
use mathlib.Core.Path.{◌≡◌, refl, sym, ap, subst, ◌∙◌}
use mathlib.Core.Bool.{Bool, true, false, cond}
use mathlib.Core.List.{List, [], ◌∷◌, ◌++◌, append-nil}
use lib.Dec.{eqb}
use lib.ListN.{length, take, drop, set}
use borrow.Author.Tests.{eqb-false, eq-eqb, ne_eqb}
use Rattle.laws.proofs.Truth.{by_test}
use Rattle.days.specs.Days.{later}
use Rattle.lines.specs.Lines.{lines}
use Rattle.rules.specs.Rows.{rows_from}
use Rattle.item_reader.specs.declared.Next.{Next}
use Rattle.item_reader.specs.declared.Slip.{Slip}
use Rattle.item_reader.specs.declared.Numbered.{Numbered}
use Rattle.item_reader.specs.Slips.{slips_from, Headed, IsFirst, IsSlip}
use Rattle.item_reader.specs.Accepted.{Each, Readable, IsNumbered}
use Rattle.register.specs.Bytes.{big_at}
use Rattle.register.specs.Register.{Range, ranges_in}
use Rattle.register.specs.Entering.{Use, used_at, used, kept}
use Rattle.register.specs.Spans.{Span, day_key, use_keys, span_of, spans_of, froms, tos}
use Rattle.register_reader.proofs.Standing.{range, next_is}
use Rattle.gathering.specs.Keys.{key_at, Gathered, Kept}
use Rattle.merging.proofs.Turns.{drop_past, stored}
use Rattle.headings.specs.declared.Heading.{Heading}
use Rattle.std.specs.Prelude.{None, Option, Some}

-- ---- the keys of a file
keyed : (head : Option Heading) (us : List Use) → use_keys (used_at head us) ≡ cond (eqb (key_at head) 0) (use_keys us) (key_at head ∷ use_keys us)
keyed (Some h) us = by_test (eqb h.number.0 0)
    (λ p. rw p)
    (λ p. rw p (rw (ne_eqb (day_key h.day h.number.0) 0 (λ e. eqb-false h.number.0 0 p (omega (arith, e))))))
keyed None us = refl

module _ {s : List ℕ} {at : ℕ} {x : Numbered} (X : IsNumbered s at x) where
  key_is : key_at (Some X.heading) ≡ cond (eqb x.number 0) 0 (day_key x.day x.number)
  key_is = let d = sym X.day in let n = sym X.number in λ i. cond (eqb (n i) 0) 0 (day_key (d i) (n i))

  pub key_none : x.number ≡ 0 → 0 ≡ key_at (Some X.heading)
  key_none z = sym (key_is ∙ (rw (eq-eqb x.number 0 z)))

  pub key_used : (x.number ≡ 0 → ⊥) → {k : ℕ} → k ≡ day_key x.day x.number → (k ≡ key_at (Some X.heading)) × (k ≡ 0 → ⊥)
  key_used z q = (q ∙ sym (key_is ∙ (rw (ne_eqb x.number 0 z))), λ e. z (omega (arith, e, q)))

pub record Gathering (s keys : List ℕ) (n at : ℕ) : Type 0 where
  pub to : at ≤ length s
  pub headed : at < length s → Headed s at
  pub reads : Each Readable (slips_from 1 (drop at s))
  pub few : 54 * n ≤ at
  pub left : use_keys (used (slips_from 1 s)) ≡ take n keys ++ use_keys (used (slips_from 1 (drop at s)))

abbrev keys_from : List ℕ → List ℕ
keys_from s = use_keys (used (slips_from 1 s))

nothing_left : (s : List ℕ) (at : ℕ) → length s ≤ at → keys_from (drop at s) ≡ []
unfolding rows_from lines
nothing_left s at h = ap keys_from (drop_past s at h)

module _ {s keys : List ℕ} where
  pub gather_start : {at : ℕ} → IsFirst s 0 at → Each Readable (slips_from 1 s) → Gathering s keys 0 at
  gather_start B R = record {
    to = B.within;
    headed = B.headed;
    reads = subst (Each Readable) (B.after 1) R;
    few = omega arith;
    left = ap (λ (l : List Slip). use_keys (used l)) (B.after 1);
  }

  module _ {n at : ℕ} (G : Gathering s keys n at) {x : Next} (X : IsSlip s at x) {k : ℕ} (e : k ≡ key_at x.slip.head) where
    on : keys_from (drop at s) ≡ cond (eqb k 0) (keys_from (drop x.next s)) (k ∷ keys_from (drop x.next s))
    on =
        ap (λ (l : List Slip). use_keys (used l)) (X.cut 1)
        ∙ keyed x.slip.head (used (slips_from 1 (drop x.next s)))
        ∙ ap (λ (k : ℕ). cond (eqb k 0) (keys_from (drop x.next s)) (k ∷ keys_from (drop x.next s))) (sym e)

    still : Each Readable (slips_from 1 (drop x.next s))
    still = (subst (Each Readable) (X.cut 1) G.reads).1

    pub gather_none : k ≡ 0 → Gathering s keys n x.next
    gather_none z = record {
      to = X.within;
      headed = X.headed;
      reads = still;
      few = omega (arith, G.few, X.moves);
      left = G.left ∙ ap (λ (l : List ℕ). take n keys ++ l) (on ∙ (rw (eq-eqb k 0 z)));
    }

    module _ (z : k ≡ 0 → ⊥) {most : ℕ} (room : length s ≤ 54 * most) (long : length keys ≡ most) where
      past : at + 54 ≤ x.next
      past = go x.slip.head refl
        where
          go : (head : Option Heading) → x.slip.head ≡ head → at + 54 ≤ x.next
          go (Some h) q = X.long h q
          go None q = absurd (z (e ∙ ap key_at q))

      pub gather_room : n < length keys
      gather_room = omega (arith, past, X.within, G.few, room, long)

      pub gather_key : Gathering s (set keys n k) (n + 1) x.next
      gather_key = record {
        to = X.within;
        headed = X.headed;
        reads = still;
        few = omega (arith, G.few, past);
        left = stored n keys k (keys_from (drop x.next s)) (keys_from s) gather_room (G.left ∙ ap (λ (l : List ℕ). take n keys ++ l) (on ∙ (rw (ne_eqb k 0 z))));
      }

  pub gather_end : {n at : ℕ} → Gathering s keys n at → length s ≤ at → {most : ℕ} → length s ≤ 54 * most → length keys ≡ most → Gathered (length s) (used (slips_from 1 s)) n keys
  gather_end {n} {at} G h room long = record {
    few = omega (arith, G.few, G.to);
    within = omega (arith, G.few, G.to, room, long);
    holds = sym (G.left ∙ ap (λ (l : List ℕ). take n keys ++ l) (nothing_left s at h) ∙ append-nil (take n keys));
  }

-- ---- the ranges that stay
abbrev kept_from : List ℕ → ℕ → ℕ → ℕ → List Span
kept_from reg day left at = spans_of (kept day (ranges_in left (drop at reg)))

pub record Keeping (reg : List ℕ) (day n : ℕ) (starts ends : List ℕ) (k at left : ℕ) : Type 0 where
  pub rest : at + 12 * left ≡ 13 + 12 * n
  pub few : k + left ≤ n
  pub firsts : froms (kept_from reg day n 13) ≡ take k starts ++ froms (kept_from reg day left at)
  pub lasts : tos (kept_from reg day n 13) ≡ take k ends ++ tos (kept_from reg day left at)

pub keep_start : (reg : List ℕ) (day n : ℕ) (starts ends : List ℕ) → Keeping reg day n starts ends 0 13 n
keep_start reg day n starts ends = record { rest = refl; few = omega arith; firsts = refl; lasts = refl }

module _ {reg : List ℕ} {day n : ℕ} {starts ends : List ℕ} {k at left : ℕ} (K : Keeping reg day n starts ends k at left) (more : 0 < left)
    {d f l : ℕ} (ed : d ≡ big_at 4 at reg) (ef : f ≡ big_at 4 (at + 4) reg) (el : l ≡ big_at 4 (at + 8) reg) {b : Bool} (eb : b ≡ later day d 10) where
  next_kept : kept_from reg day left at ≡ cond b (kept_from reg day (left - 1) (at + 12)) (span_of (range d f l) ∷ kept_from reg day (left - 1) (at + 12))
  next_kept =
      ap (λ (rs : List Range). spans_of (kept day rs)) (next_is left at reg more ∙ (λ i. range (sym ed i) (sym ef i) (sym el i) ∷ ranges_in (left - 1) (drop (at + 12) reg)))
      ∙ ap (λ (b : Bool). spans_of (cond b (kept day (ranges_in (left - 1) (drop (at + 12) reg))) (range d f l ∷ kept day (ranges_in (left - 1) (drop (at + 12) reg))))) (sym eb)
      ∙ out b
    where
      out : (b : Bool) → spans_of (cond b (kept day (ranges_in (left - 1) (drop (at + 12) reg))) (range d f l ∷ kept day (ranges_in (left - 1) (drop (at + 12) reg))))
          ≡ cond b (kept_from reg day (left - 1) (at + 12)) (span_of (range d f l) ∷ kept_from reg day (left - 1) (at + 12))
      out true = refl
      out false = refl

  pub keep_drop : b ≡ true → Keeping reg day n starts ends k (at + 12) (left - 1)
  keep_drop e =
      let q : kept_from reg day left at ≡ kept_from reg day (left - 1) (at + 12) = next_kept ∙ (rw e) in
      record {
        rest = omega (arith, K.rest, more);
        few = omega (arith, K.few);
        firsts = K.firsts ∙ ap (λ (ss : List Span). take k starts ++ froms ss) q;
        lasts = K.lasts ∙ ap (λ (ss : List Span). take k ends ++ tos ss) q;
      }

  pub keep_take : b ≡ false → k < length starts → k < length ends → {x y : ℕ} → x ≡ day_key d f → y ≡ day_key d l → Keeping reg day n (set starts k x) (set ends k y) (k + 1) (at + 12) (left - 1)
  keep_take e hs he {x} {y} ex ey =
      let q : kept_from reg day left at ≡ record { from = x; to = y } ∷ kept_from reg day (left - 1) (at + 12) =
      next_kept ∙ (rw e (λ i. record { from = sym ex i; to = sym ey i } ∷ kept_from reg day (left - 1) (at + 12))) in
      record {
        rest = omega (arith, K.rest, more);
        few = omega (arith, K.few, more);
        firsts = stored k starts x (froms (kept_from reg day (left - 1) (at + 12))) (froms (kept_from reg day n 13)) hs (K.firsts ∙ ap (λ (ss : List Span). take k starts ++ froms ss) q);
        lasts = stored k ends y (tos (kept_from reg day (left - 1) (at + 12))) (tos (kept_from reg day n 13)) he (K.lasts ∙ ap (λ (ss : List Span). take k ends ++ tos ss) q);
      }

pub keep_end : {reg : List ℕ} {day n : ℕ} {starts ends : List ℕ} {k at left : ℕ} → Keeping reg day n starts ends k at left → left ≤ 0 → n ≤ length starts → n ≤ length ends → Kept (spans_of (kept day (ranges_in n (drop 13 reg)))) k starts ends
keep_end {reg} {day} {n} {starts} {ends} {k} {at} {left} K h hs he =
    let z : left ≡ 0 = omega arith in
    let q : kept_from reg day left at ≡ [] = ap (λ (left : ℕ). kept_from reg day left at) z in
    record {
      starts_in = omega (arith, K.few);
      ends_in = omega (arith, K.few);
      starts_at = sym (K.firsts ∙ ap (λ (ss : List Span). take k starts ++ froms ss) q ∙ append-nil (take k starts));
      ends_at = sym (K.lasts ∙ ap (λ (ss : List Span). take k ends ++ tos ss) q ∙ append-nil (take k ends));
    }
