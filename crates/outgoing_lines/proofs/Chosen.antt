-- What goes out for a field, by its identifier; and how long what goes out for a line is.
use mathlib.Core.Path.{◌≡◌, ap, subst, ◌∙◌}
use mathlib.Core.List.{List, ◌++◌}
use Prim.Native.Nat.{ℕ, ◌+◌, ◌≤◌, min}
use native.Mathlib.Omega.{arith}
use lib.ListN.{length, length-append}
use borrow.Author.Tests.{eq-eqb, ne_eqb}
use Rattle.laws.specs.Ascii.{ascii}
use Rattle.text.specs.Strings.{Wrote}
use Rattle.text.proofs.Wrote.{then}
use Rattle.headings.specs.declared.Heading.{Heading}
use Rattle.headings.specs.Reading.{heading_of}
use Rattle.heading_writer.proofs.Answers.{text_size}
use Rattle.fields.specs.Kinds.{place}
use Rattle.turning.specs.Turning.{turned}
use Rattle.outcomes.specs.Deriving.{numbered, outgoing_text}
use Rattle.outgoing_lines.specs.Outgoing.{Orders, as_derived, ec_bytes, ec_text, nines, field_after, outcome_at, number_at, heading_after}
use Rattle.outgoing_lines.specs.Going.{ending, field_text}
use Rattle.std.specs.Prelude.{None, Option, Some}

-- ---- a field by its identifier's number
module _ (o i : ℕ) (line : List ℕ) where
  pub ec_field : i ≡ 516 → field_text o i line ≡ ec_text line nines o
  unfolding field_after place
  ec_field e = rw (eq-eqb i 516 e)

  pub other_field : (i ≡ 516 → ⊥) → field_text o i line ≡ line
  unfolding field_after place
  other_field e = rw (ne_eqb i 516 e)

-- ---- lengths
pub ended_length : (t : List ℕ) → length (t ++ ending) ≡ 2 + length t
ended_length t = length-append t ending ∙ omega arith

module _ (q : Orders) (k : ℕ) (line : List ℕ) where
  pub heading_length : (h : Heading) → heading_of line ≡ Some h → length (heading_after q k line) ≡ 54
  unfolding heading_after
  heading_length h e =
      ap (λ (r : Option Heading). length (outgoing_text r (as_derived (outcome_at q k)) (number_at q k))) e ∙ text_size (numbered (turned h (as_derived (outcome_at q k))) (number_at q k))

  pub heading_none : heading_of line ≡ None → length (heading_after q k line) ≡ 0
  unfolding heading_after
  heading_none e = ap (λ (r : Option Heading). length (outgoing_text r (as_derived (outcome_at q k)) (number_at q k))) e

pub capped : {n m : ℕ} → n ≡ m → m ≤ 4000000001 → min 4000000001 n ≡ m
capped e h = omega arith

-- ---- one text for another, with its CR LF
pub room_as : {t u : List ℕ} (at n : ℕ) → t ≡ u → at + length (t ++ ending) ≤ n → at + length (u ++ ending) ≤ n
room_as at n e h = subst (λ (x : List ℕ). at + length (x ++ ending) ≤ n) e h

pub wrote_as : {t u before after : List ℕ} {at end : ℕ} → t ≡ u → Wrote before at (t ++ ending) after end → Wrote before at (u ++ ending) after end
wrote_as {t} {u} {before} {after} {at} {end} e w = subst (λ (x : List ℕ). Wrote before at (x ++ ending) after end) e w

-- ---- the EC line
module _ (own replacement : List ℕ) (o : ℕ) {r before mid : List ℕ} {at next : ℕ} (e : r ≡ ec_bytes own replacement o) (w : Wrote before at (ascii "EC:") mid next) where
  pub ec_wrote : {after : List ℕ} {end : ℕ} → Wrote mid next (r ++ ending) after end → Wrote before at (ec_text own replacement o ++ ending) after end
  ec_wrote v = then w (wrote_as e v)
