-- A loop that writes range after range: what stands there is the register with the ranges so far.
use mathlib.Core.Path.{◌≡◌, refl, sym, ap, ◌∙◌, subst}
use mathlib.Core.List.{List, [], ◌∷◌, ◌++◌, append_assoc, append-nil}
use Prim.Native.Nat.{ℕ, zero, suc, ◌+◌, ◌/◌, ◌%◌, ◌≤◌, ◌<◌}
use native.Mathlib.Numerals.{add-one}
use native.Mathlib.Omega.{arith}
use lib.ListN.{length, take, get_or}
use lib.Seq.{take_all}
use Rattle.laws.proofs.Put.{put_none}
use Rattle.text.specs.Strings.{Wrote}
use Rattle.text.proofs.Wrote.{then}
use Rattle.register.specs.Register.{head_bytes, range_bytes, ranges_bytes, register_bytes}
use Rattle.register.specs.Spans.{ranges_of}

pub length_ranges_of : (ks ls : List ℕ) → length ks ≡ length ls → length (ranges_of ks ls) ≡ length ks
length_ranges_of [] ls e = refl
length_ranges_of (a ∷ ks) [] e = absurd (omega arith)
length_ranges_of (a ∷ ks) (b ∷ ls) e = ap suc (length_ranges_of ks ls (omega arith))

-- the bytes of the first i ranges
abbrev pub firsts : List ℕ → List ℕ → ℕ → List ℕ
firsts ks ls i = ranges_bytes (ranges_of (take i ks) (take i ls))

one_more : (ks ls : List ℕ) (i : ℕ) → i < length ks → i < length ls → firsts ks ls (suc i) ≡ firsts ks ls i ++ range_bytes (get_or ks i 0 / 10000000) (get_or ks i 0 % 10000000) (get_or ls i 0 % 10000000)
one_more [] ls i h l = absurd (omega arith)
one_more (a ∷ ks) [] i h l = absurd (omega arith)
one_more (a ∷ ks) (b ∷ ls) zero h l = append-nil (range_bytes (a / 10000000) (a % 10000000) (b % 10000000))
one_more (a ∷ ks) (b ∷ ls) (suc i) h l =
    ap (λ (t : List ℕ). range_bytes (a / 10000000) (a % 10000000) (b % 10000000) ++ t) (one_more ks ls i (omega arith) (omega arith))
    ∙ sym (append_assoc (range_bytes (a / 10000000) (a % 10000000) (b % 10000000)) (firsts ks ls i) (range_bytes (get_or ks i 0 / 10000000) (get_or ks i 0 % 10000000) (get_or ls i 0 % 10000000)))

-- what stands after the first i ranges, from a place on
abbrev pub So : List ℕ → ℕ → List ℕ → List ℕ → ℕ → List ℕ → ℕ → Type 0
So before start ks ls i after at = Wrote before start (firsts ks ls i) after at

pub put_start : (before : List ℕ) (start : ℕ) (ks ls : List ℕ) → start ≤ length before → So before start ks ls 0 before start
put_start before start ks ls h = record { room = omega arith; ends = omega arith; holds = sym (put_none before start) }

pub put_more : {before mid after : List ℕ} {start at end : ℕ} (ks ls : List ℕ) (i : ℕ) → i < length ks → length ks ≡ length ls → So before start ks ls i mid at
    → Wrote mid at (range_bytes (get_or ks i 0 / 10000000) (get_or ks i 0 % 10000000) (get_or ls i 0 % 10000000)) after end → So before start ks ls (i + 1) after end
put_more ks ls i h e S w = rw (add-one i, one_more ks ls i h (omega arith)) (then S w)

pub put_end : {before mid after : List ℕ} {start at : ℕ} (code latest : ℕ) (ks ls : List ℕ) (i : ℕ) → length ks ≤ i → length ks ≡ length ls
    → Wrote before 0 (head_bytes code latest (length ks)) mid start → So mid start ks ls i after at
    → Wrote before 0 (register_bytes (record { code = code; latest = latest; ranges = ranges_of ks ls })) after at
put_end {before} {mid} {after} {start} {at} code latest ks ls i h e w S =
    let a : ranges_of (take i ks) (take i ls) ≡ ranges_of ks ls = rw (take_all i ks h, take_all i ls (omega arith)) in
    subst (λ (t : List ℕ). Wrote before 0 t after at) (λ j. head_bytes code latest (sym (length_ranges_of ks ls e) j) ++ ranges_bytes (a j)) (then w S)
