-- Laws of `lines`: its two steps, and that the first line is the front of the bytes.
use mathlib.Core.Path.{◌≡◌, refl, ap, ◌∙◌}
use mathlib.Core.Bool.{Bool, true, false}
use mathlib.Core.List.{List, [], ◌∷◌}
use Prim.Native.Nat.{ℕ, suc, ◌<◌, ◌≤◌}
use native.Mathlib.Omega.{arith}
use lib.ListN.{length, take, drop, drop_of_length-le}
use Rattle.laws.specs.Tests.{is_byte}
use Rattle.lines.specs.Lines.{Line, crlf, onto, lines, taken}

pub lines_none : lines [] ≡ []
unfolding lines
lines_none = refl

-- at the end no line is left
pub lines_past : (s : List ℕ) (at : ℕ) → length s ≤ at → lines (drop at s) ≡ []
lines_past s at h = ap lines (drop_of_length-le s h) ∙ lines_none

-- CR LF cuts
pub lines_cut : (s : List ℕ) → crlf s ≡ true → lines s ≡ record { bytes = []; ended = true } ∷ lines (drop 2 s)
unfolding lines crlf
lines_cut [] e = cc
lines_cut (b ∷ []) e = cc
lines_cut (b ∷ c ∷ s) e = rw e

-- any other byte goes onto the line
pub lines_on : (b : ℕ) (s : List ℕ) → crlf (b ∷ s) ≡ false → lines (b ∷ s) ≡ onto b (lines s)
unfolding lines
lines_on b [] e = refl
lines_on b (c ∷ s) e = rw e

pub crlf_short : (s : List ℕ) → length s ≤ 1 → crlf s ≡ false
unfolding crlf
crlf_short [] h = refl
crlf_short (b ∷ []) h = refl
crlf_short (b ∷ c ∷ s) h = absurd (omega arith)

-- only a CR begins a CR LF
pub crlf_not : (b : ℕ) (s : List ℕ) → is_byte 0x0d b ≡ false → crlf (b ∷ s) ≡ false
unfolding crlf
crlf_not b [] e = refl
crlf_not b (c ∷ s) e = rw e

-- ---- the first line

-- bytes of which there is one at least have a first line: their front; what stands after it has the others
pub record Cut (s : List ℕ) : Type 0 where
  pub first : Line
  pub others : List Line
  pub whole : lines s ≡ first ∷ others
  pub front : take (length first.bytes) s ≡ first.bytes
  pub after : lines (drop (taken first) s) ≡ others
  pub some : 0 < taken first
  pub fits : taken first ≤ length s

pub cut : (b : ℕ) (s : List ℕ) → Cut (b ∷ s)
unfolding lines onto
cut b [] = record { first = record { bytes = b ∷ []; ended = false }; others = []; whole = refl; front = refl; after = refl; some = omega arith; fits = omega arith }
cut b (c ∷ s) = go (cut c s) (crlf (b ∷ c ∷ s)) refl
  where
    go : Cut (c ∷ s) → (t : Bool) → crlf (b ∷ c ∷ s) ≡ t → Cut (b ∷ c ∷ s)
    go C true e = record { first = record { bytes = []; ended = true }; others = lines s; whole = rw e; front = refl; after = refl; some = omega arith; fits = omega arith }
    go C false e =
        let m : taken (record { bytes = b ∷ C.first.bytes; ended = C.first.ended }) ≡ suc (taken C.first) = omega arith in
        record {
          first = record { bytes = b ∷ C.first.bytes; ended = C.first.ended };
          others = C.others;
          whole = lines_on b (c ∷ s) e ∙ ap (onto b) C.whole;
          front = ap (λ (l : List ℕ). b ∷ l) C.front;
          after = ap (λ (k : ℕ). lines (drop k (b ∷ c ∷ s))) m ∙ C.after;
          some = omega arith;
          fits = omega (arith, C.fits);
        }
