-- A heading that is known to read: its numbers stand at their places, and the next one may be searched for from the line after it on.
use Prim.Native.Nat.{ℕ, ◌+◌, ◌-◌, ◌≤◌, ◌<◌}
use native.Mathlib.Omega.{arith}
use mathlib.Core.Path.{◌≡◌, refl, sym, ap, subst, ◌∙◌}
use mathlib.Core.Bool.{Bool, true, false, cond}
use mathlib.Core.List.{List, ◌∷◌, ◌++◌}
use mathlib.Core.Logic.{inl, inr}
use lib.ListN.{length, take, drop, replicate, length-take, length-drop}
use lib.Seq.{take-take, drop-drop}
use Rattle.laws.specs.Lists.{any_of}
use Rattle.laws.specs.Tests.{is_byte}
use Rattle.ledger.proofs.Putting.{drop_take}
use Rattle.text.specs.Characters.{is_odd}
use Rattle.text.specs.Digits.{all_are_digits, value}
use Rattle.text.specs.Forms.{template, part_at, numbers}
use Rattle.text.proofs.Pieces.{ready, placed}
use Rattle.lines.specs.Lines.{Line, lines}
use Rattle.lines.specs.Reading.{line_at, span, after, IsNext}
use Rattle.words.specs.Words.{bytes_of}
use Rattle.lines.specs.declared.Found.{Found}
use Rattle.lines.proofs.Reading.{is_next, line_block}
use Rattle.headings.specs.declared.Heading.{Heading}
use Rattle.headings.specs.Reading.{layout, heading_from, is_heading, heading_of}
use Rattle.headings.proofs.Places.{found, read_size}
use Rattle.item_reader.specs.Slips.{slips_from, Headed, IsFirst, IsHead}
use Rattle.item_reader.specs.Search.{reads_to, IsPast}
use Rattle.item_reader.specs.Accepted.{Each, Readable, IsNumbered}
use Rattle.item_reader.proofs.Passing.{slips_in, kc_in, top_in, kc_alike, top_alike, kc_small, item_here}
use Rattle.item_reader.proofs.Slips.{read_plain}
use Rattle.std.specs.Prelude.{None, Some}

-- a part of a front
part_of : (k n m : ℕ) (x : List ℕ) → k + n ≤ m → take n (drop k (take m x)) ≡ take n (drop k x)
part_of k n m x h = ap (take n) (drop_take k m x) ∙ take-take n (m - k) (drop k x) (omega arith)

reads_form : (x : List ℕ) (h : Heading) → heading_of x ≡ Some h → is_heading x ≡ true
unfolding heading_of
reads_form x h e = go (is_heading x) refl e
  where
    go : (t : Bool) → is_heading x ≡ t → cond t (Some (heading_from (numbers layout x))) None ≡ Some h → is_heading x ≡ true
    go true q w = q
    go false q w = let z : ◌≡◌ {A = ℕ} 0 1 = cc in absurd (omega arith)

module _ (s : List ℕ) (at : ℕ) (l : at < length s) (H : Headed s at) (R : Each Readable (slips_from 1 (drop at s))) where
  N : IsNext s at (line_at s at)
  N = is_next s at (line_at s at) refl l

  abbrev text : List ℕ
  text = span at (line_at s at).end s

  abbrev below : List Line
  below = lines (drop (line_at s at).next s)

  item_at : (n : ℕ) → slips_from n (drop at s) ≡ record { head = cond (top_in n below) None (heading_of text); kc = kc_in n below } ∷ slips_in n below
  item_at n = ap (slips_in n) N.cut ∙ item_here (record { bytes = text; ended = (line_at s at).ended }) below n H

  known : Readable (record { head = cond (top_in 1 below) None (heading_of text); kc = kc_in 1 below })
  known = (subst (Each Readable) (item_at 1) R).0

  -- it has no continuation, and its line reads
  told : (top_in 1 below ≡ false) × (heading_of text ≡ Some known.0)
  told = go (top_in 1 below) refl known.1
    where
      go : (t : Bool) → top_in 1 below ≡ t → cond t None (heading_of text) ≡ Some known.0 → (top_in 1 below ≡ false) × (heading_of text ≡ Some known.0)
      go true q e = let z : ◌≡◌ {A = ℕ} 0 1 = cc in absurd (omega arith)
      go false q e = (q, e)

  form : is_heading text ≡ true
  form = reads_form text known.0 told.1

  end_at : (line_at s at).end ≡ at + 54
  end_at =
      omega (arith, read_size text known.0 told.1, length-take ((line_at s at).end - at) (drop at s), length-drop at s, N.starts, N.closes, N.within)

  pub room : at + 54 ≤ length s
  room = omega (arith, end_at, N.closes, N.within)

  text_is : text ≡ take 54 (drop at s)
  text_is =
      ap (λ (e : ℕ). take (e - at) (drop at s)) end_at ∙ ap (λ (k : ℕ). take k (drop at s)) (let z : at + 54 - at ≡ 54 = omega arith in z)

  -- ---- its numbers
  part_at_lem : (k n : ℕ) → k + n ≤ 54 → take n (drop k text) ≡ take n (drop (at + k) s)
  part_at_lem k n h =
      ap (λ (x : List ℕ). take n (drop k x)) text_is ∙ part_of k n 54 (drop at s) h ∙ ap (take n) (drop-drop k at s)

  pub digits_at : (k n : ℕ) → template layout ≡ take k (template layout) ++ (replicate n 48 ++ drop (k + n) (template layout)) → length (take k (template layout)) ≡ k → n ≤ 9 → k + n ≤ 54
      → (at + k + n ≤ length s) × (n ≤ 9) × (all_are_digits (take n (drop (at + k) s)) ≡ true)
  digits_at k n e z h f =
      (omega (arith, room), h, sym (ap all_are_digits (part_at_lem k n f)) ∙ (ready (template layout) text k n form e z h).2)

  abbrev said : Heading
  said = heading_from (placed layout 0 text)

  reads : heading_of text ≡ Some said
  reads = sym (found text form).1

  -- ---- the line after it
  abbrev odd : Bool
  odd = any_of is_odd (take (at + 54 - at) (drop at s))

  same : after false (line_at s at) ≡ after odd (line_at s (at + 54))
  same =
      line_block s at 54 false odd room (subst (λ (x : List ℕ). any_of (is_byte 0x0d) x ≡ false) text_is (read_plain text (ap reads_to reads))) refl

  -- where a byte stands behind the 54, CR LF does
  goes_on : at + 54 < length s → at + 54 < (line_at s at).next
  goes_on h =
      let e : (line_at s at).next ≡ (line_at s (at + 54)).next = ap (λ (f : Found). f.next) same in
      omega (arith, e, (is_next s (at + 54) (line_at s (at + 54)) refl h).moves)

  next_at : {p : ℕ} → IsPast (length s) at p → p ≡ (line_at s at).next
  next_at {p} = go (line_at s at).ended N.follows
    where
      go : (t : Bool) → (line_at s at).next ≡ (line_at s at).end + cond t 2 0 → IsPast (length s) at p → p ≡ (line_at s at).next
      go true e (inl (h, q)) = absurd (omega (arith, e, h, end_at, N.within))
      go true e (inr (h, q)) = omega (arith, e, q, end_at)
      go false e (inl (h, q)) = omega (arith, e, q, end_at)
      go false e (inr (h, q)) = absurd (omega (arith, e, end_at, goes_on (omega (arith, h))))

  pub past_within : {p : ℕ} → IsPast (length s) at p → p ≤ length s
  past_within P = omega (arith, next_at P, N.within)

  -- ---- the item
  module _ {p next : ℕ} (P : IsPast (length s) at p) (F : IsFirst s p next) where
    on : at + 54 ≤ next
    on = omega (arith, next_at P, F.from, N.closes, end_at)

    head_known : IsHead s at (record { head = Some said; next = next })
    head_known = record {
      kc = kc_in 0 below;
      item = record {
        small = kc_small below 0;
        cut = λ n.
            let t : top_in n below ≡ false = top_alike below n 1 ∙ told.0 in
            let k = kc_alike below n 0 in
            let f = ap (λ (q : ℕ). slips_from n (drop q s)) (sym (next_at P)) ∙ F.after n in
            item_at n ∙ (λ i. record { head = cond (t i) None (reads i); kc = k i } ∷ f i);
        long = λ h w. on;
        moves = omega (arith, on);
        within = F.within;
        headed = F.headed;
      };
    }

    pub numbered : {day word number : ℕ} → day ≡ part_at s (at + 6) 8 → bytes_of 8 word ≡ take 8 (drop (at + 6) s) → number ≡ part_at s (at + 23) 7
        → IsNumbered s at (record { day = day; word = word; number = number; next = next })
    numbered d w n = record {
      heading = said;
      head = head_known;
      day = d ∙ sym (ap value (part_at_lem 6 8 (omega arith)));
      number = n ∙ sym (ap value (part_at_lem 23 7 (omega arith)));
      word = ap value w ∙ sym d;
    }
