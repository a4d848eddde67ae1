-- Texts written one after the other are one text.
use mathlib.Core.Path.{◌≡◌, sym, ap, ◌∙◌}
use mathlib.Core.List.{List, ◌++◌, append_assoc}
use Prim.Native.Nat.{ℕ, ◌+◌, ◌≤◌}
use native.Mathlib.Omega.{arith}
use lib.ListN.{length, length-append}
use lib.Seq.{paste, take-length}
use Rattle.laws.proofs.Put.{put_is, length_put, put_both}
use Rattle.text.specs.Strings.{Wrote}

pub same_length : {before : List ℕ} {at : ℕ} {text after : List ℕ} {end : ℕ} → Wrote before at text after end → length after ≡ length before
same_length {before} {at} {text} w = ap length w.holds ∙ length_put before at text w.room

pub then : {before : List ℕ} {at : ℕ} {a mid : List ℕ} {next : ℕ} {b after : List ℕ} {end : ℕ} → Wrote before at a mid next → Wrote mid next b after end → Wrote before at (a ++ b) after end
then {before} {at} {a} {mid} {next} {b} {after} {end} v w = record {
  room = rw length-append (omega (arith, v.ends, w.room, same_length v));
  ends = rw length-append (omega (arith, v.ends, w.ends));
  holds = w.holds ∙ rw (v.ends, v.holds) (put_both before at a v.room b);
}

-- what a loop has pasted, byte by byte
pub pasted : (before : List ℕ) (at : ℕ) (text : List ℕ) (i : ℕ) {after : List ℕ} → at + length text ≤ length before → i ≡ length text → after ≡ paste before at text i → Wrote before at text after (at + i)
pasted before at text i h e p = record {
  room = h;
  ends = ap (λ (n : ℕ). at + n) e;
  holds = p ∙ rw (e, take-length, append_assoc) (sym (put_is before at text));
}
