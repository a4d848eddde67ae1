-- What deriving writes into the bytes from a place on, where it refuses nothing.
use mathlib.Core.Path.{◌≡◌, refl, sym, ap, ◌∙◌}
use mathlib.Core.Bool.{false}
use mathlib.Core.List.{List, ◌++◌, append-nil}
use Prim.Native.Nat.{ℕ, ◌+◌, ◌-◌, ◌≤◌, ◌<◌}
use native.Mathlib.Omega.{arith}
use lib.ListN.{length, take, drop, length-drop, drop_of_length-le}
use lib.Seq.{take_all, drop-drop}
use borrow.Author.Tests.{le-ltb, eqb-true, not-false}
use Rattle.laws.specs.Lists.{put}
use Rattle.laws.specs.Refusals.{first}
use Rattle.laws.proofs.Put.{put_is}
use Rattle.text.specs.Strings.{Wrote}
use Rattle.headings.specs.declared.ItemNo.{ItemNo}
use Rattle.headings.specs.declared.Heading.{Heading}
use Rattle.headings.specs.Reading.{heading_of}
use Rattle.heading_writer.specs.Writing.{target_after}
use Rattle.outcomes.specs.declared.DeriveError.{DeriveError}
use Rattle.outcomes.specs.Deriving.{turn_refusals_of, issue_refusals_of, tell_refusals, number_refusals, derive_refusals, outgoing_text, derived_target, Derives}
use Rattle.outcomes.proofs.Granted.{granted}
use Rattle.outcomes.proofs.Sound.{small_number}
use Rattle.outgoing_lines.specs.Outgoing.{Orders, as_derived, outcome_at, standing_at, number_at, underived, heading_after}
use Rattle.outgoing_lines.specs.Going.{ending}
use Rattle.outgoing_lines.proofs.Chosen.{ended_length, heading_length}
use Rattle.std.specs.Prelude.{None, Option, Some, Result}

-- a part put back with a text at its start
mid_put : (out text : List ℕ) (at n : ℕ) → length text ≡ n → take at out ++ ((text ++ drop n (drop at out)) ++ drop (length out - at) (drop at out)) ≡ put out at text
mid_put out text at n e =
    let short : length (drop at out) ≤ length out - at = omega (arith, length-drop at out) in
    ap (λ (r : List ℕ). take at out ++ ((text ++ drop n (drop at out)) ++ r)) (drop_of_length-le (drop at out) short)
    ∙ ap (λ (r : List ℕ). take at out ++ r) (append-nil (text ++ drop n (drop at out)))
    ∙ ap (λ (r : List ℕ). take at out ++ (text ++ r)) (drop-drop n at out ∙ ap (λ (m : ℕ). drop (at + m) out) (sym e))
    ∙ sym (put_is out at text)

-- ---- nothing is refused
-- with room for 54 bytes there is room for them in more
more_room : (r : Option Heading) (n : ItemNo) (room : ℕ) → 54 ≤ room → issue_refusals_of r n 54 ≡ issue_refusals_of r n room
more_room None n room h = refl
more_room (Some h) n room l = rw (le-ltb room 54 l)

-- a heading that nothing is refused for reads
pub record Readable (s : List ℕ) : Type 0 where
  pub heading : Heading
  pub reads : heading_of s ≡ Some heading

readable : (s : List ℕ) (o p : ℕ) (n : ItemNo) (room : ℕ) → first (derive_refusals s o p n room) ≡ 0 → Readable s
unfolding derive_refusals tell_refusals number_refusals
readable s o p n room z = go (heading_of s) refl z
  where
    go : (r : Option Heading) → heading_of s ≡ r → first (turn_refusals_of r o p ++ issue_refusals_of r n room) ≡ 0 → Readable s
    go None e z = absurd (omega arith)
    go (Some h) e z = record { heading = h; reads = e }

module _ (q : Orders) (k : ℕ) (line : List ℕ) (fine : underived q k line ≡ false) where
  none : first (derive_refusals line (as_derived (outcome_at q k)) (standing_at q k) (number_at q k) 54) ≡ 0
  unfolding underived
  none = eqb-true _ 0 (not-false _ fine)

  none_in : (room : ℕ) → 54 ≤ room → first (derive_refusals line (as_derived (outcome_at q k)) (standing_at q k) (number_at q k) room) ≡ 0
  unfolding derive_refusals number_refusals
  none_in room h = rw (← more_room (heading_of line) (number_at q k) room h) none

  read_as : Readable line
  read_as = readable line _ _ _ 54 none

  pub number_small : q.start + k < 10000000
  number_small =
      small_number read_as.heading.kind (q.start + k) (granted line (as_derived (outcome_at q k)) (standing_at q k) (number_at q k) 54 read_as.heading read_as.reads none).in_class_lem

  pub derived_length : length (heading_after q k line) ≡ 54
  derived_length = heading_length q k line read_as.heading read_as.reads

  pub derived_room : (at n : ℕ) → at + length (heading_after q k line ++ ending) ≤ n → at + 56 ≤ n
  derived_room at n h = omega (arith, derived_length, ended_length (heading_after q k line))

  -- ---- what is written
  module _ (out : List ℕ) (at : ℕ) (room : at + 54 ≤ length out) {o p : ℕ} {r : Result (Unit {0}) DeriveError} {t : List ℕ} (eo : o ≡ as_derived (outcome_at q k)) (ep : p ≡ standing_at q k)
      (w : Derives line o p (number_at q k) (take (length out - at) (drop at out)) r t) where
    target_is : t ≡ heading_after q k line ++ drop 54 (drop at out)
    unfolding derived_target heading_after
    target_is =
        w.target
        ∙ (λ i. derived_target line (eo i) (ep i) (number_at q k) (take_all (length out - at) (drop at out) (omega (arith, length-drop at out)) i))
        ∙ ap (λ (m : ℕ). target_after m (outgoing_text (heading_of line) (as_derived (outcome_at q k)) (number_at q k)) (drop at out)) (none_in (length (drop at out)) (omega (arith, length-drop at out)))

    pub derived_put : Wrote out at (heading_after q k line) (take at out ++ (t ++ drop (length out - at) (drop at out))) (at + 54)
    derived_put = record {
      room = omega (arith, derived_length);
      ends = omega (arith, derived_length);
      holds = ap (λ (x : List ℕ). take at out ++ (x ++ drop (length out - at) (drop at out))) target_is ∙ mid_put out (heading_after q k line) at 54 derived_length;
    }
