-- Laws of the body: what its length says of the file, and the search for its end.
use mathlib.Core.Path.{◌≡◌, refl, sym, ap, ◌∙◌}
use mathlib.Core.Bool.{Bool, true, false, cond, not, ◌&&◌, ◌||◌}
use mathlib.Core.List.{List, [], ◌∷◌}
use Prim.Native.Nat.compare
use Prim.Native.Nat.{ℕ, zero, suc, ◌+◌, ◌-◌, ◌<◌, ◌≤◌}
use native.Mathlib.Numerals.{add-one}
use native.Mathlib.Omega.{arith}
use lib.Dec.{eqb, ltb}
use lib.ListN.{length, take, drop, length-take, length-drop}
use lib.Seq.{drop-cons, drop-drop}
use borrow.Author.Tests.{lt-ltb, ltb-false, ne_eqb}
use Rattle.std.specs.List.{position_or_len, position}
use Rattle.std.specs.Prelude.{Some, None}
use Rattle.std.specs.Option.{unwrap_or}
use Rattle.laws.proofs.Truth.{by_test}
use Rattle.laws.specs.Lists.{any_of}
use Rattle.laws.specs.Tests.{is_byte}
use Rattle.laws.proofs.Any.{or_left, or_right}
use Rattle.lines.specs.Lines.{has_mark, behind_mark, has_leftovers, starts_with_mark, body}

-- the body is the front of the file
pub body_take : (s : List ℕ) → take (length (body s)) s ≡ body s
unfolding body
body_take [] = refl
body_take (b ∷ s) = go (body_take s) (is_byte 0x1a b)
  where
    go : take (length (body s)) s ≡ body s → (t : Bool) → take (length (cond t [] (b ∷ body s))) (b ∷ s) ≡ cond t [] (b ∷ body s)
    go ih true = refl
    go ih false = ap (λ (l : List ℕ). b ∷ l) ih

pub body_le : (s : List ℕ) → length (body s) ≤ length s
body_le s = omega (arith, length-take (length (body s)) s, ap length (body_take s))

-- with no 1A it is all of the file
pub body_whole : (s : List ℕ) → has_mark s ≡ false → body s ≡ s
unfolding body any_of
body_whole [] e = refl
body_whole (b ∷ s) e =
    let here : is_byte 0x1a b ≡ false = or_left (is_byte 0x1a b) (has_mark s) e in
    rw here (ap (λ (l : List ℕ). b ∷ l) (body_whole s (or_right (is_byte 0x1a b) (has_mark s) e)))

-- it is shorter than the file exactly where there is a 1A
pub body_shorter : (s : List ℕ) → ltb (length (body s)) (length s) ≡ has_mark s
unfolding body any_of
body_shorter [] = refl
body_shorter (b ∷ s) = go (is_byte 0x1a b) (body_shorter s)
  where
    go : (t : Bool) → ltb (length (body s)) (length s) ≡ has_mark s → ltb (length (cond t [] (b ∷ body s))) (suc (length s)) ≡ (t || has_mark s)
    go true ih = lt-ltb 0 (suc (length s)) (omega arith)
    go false ih = rw compare.suc-suc ih

-- a byte stands after the first 1A exactly where the file is longer than its body and that mark
pub leftovers_long : (s : List ℕ) → ltb (suc (length (body s))) (length s) ≡ has_leftovers s
unfolding body behind_mark
leftovers_long [] = refl
leftovers_long (b ∷ s) = go (is_byte 0x1a b) (leftovers_long s)
  where
    go : (t : Bool) → ltb (suc (length (body s))) (length s) ≡ has_leftovers s
        → ltb (suc (length (cond t [] (b ∷ body s)))) (suc (length s)) ≡ ltb 0 (length (cond t s (behind_mark s)))
    go true ih = rw compare.suc-suc refl
    go false ih = rw compare.suc-suc ih

-- the first byte is 1A exactly where the body is empty and there is a 1A
pub body_empty : (s : List ℕ) → starts_with_mark s ≡ (eqb (length (body s)) 0 && has_mark s)
unfolding body any_of
body_empty [] = refl
body_empty (b ∷ s) = go (is_byte 0x1a b)
  where
    go : (t : Bool) → t ≡ (eqb (length (cond t [] (b ∷ body s))) 0 && (t || has_mark s))
    go true = refl
    go false = rw (ne_eqb (suc (length (body s))) 0 (λ e. omega arith))

-- ---- the search

-- n bytes without 1A
skip : (n : ℕ) (l : List ℕ) → n ≤ length l → any_of (is_byte 0x1a) (take n l) ≡ false → length (body l) ≡ n + length (body (drop n l))
unfolding body any_of
skip zero l h e = omega arith
skip (suc n) [] h e = absurd (omega arith)
skip (suc n) (b ∷ l) h e =
    let here : is_byte 0x1a b ≡ false = or_left (is_byte 0x1a b) (any_of (is_byte 0x1a) (take n l)) e in
    let on : length (body l) ≡ n + length (body (drop n l)) = skip n l (omega arith) (or_right (is_byte 0x1a b) (any_of (is_byte 0x1a) (take n l)) e) in
    rw here (omega arith)

-- a block without 1A is passed by
pub pass_block : (s rest block after : List ℕ) (n : ℕ) → length (body s) + length rest ≡ length s + length (body rest) → n ≤ length rest → block ≡ take n rest → after ≡ drop n rest
    → any_of (is_byte 0x1a) block ≡ false → length (body s) + length after ≡ length s + length (body after)
pass_block s rest block after n h k b a e =
    let on : length (body rest) ≡ n + length (body after) = skip n rest k (ap (any_of (is_byte 0x1a)) (sym b) ∙ e) ∙ ap (λ (l : List ℕ). n + length (body l)) (sym a) in
    let fewer : length after ≡ length rest - n = ap length a ∙ length-drop n rest in
    omega arith

-- the first 1A, or the end
first_mark : (s : List ℕ) → length (body s) ≡ position_or_len (is_byte 0x1a) s
unfolding body
first_mark [] = refl
first_mark (b ∷ s) = go (first_mark s) (is_byte 0x1a b)
  where
    go : length (body s) ≡ position_or_len (is_byte 0x1a) s → (t : Bool) → length (cond t [] (b ∷ body s)) ≡ cond (not t) (1 + position_or_len (is_byte 0x1a) s) 0
    go ih true = refl
    go ih false = omega arith

pub body_at : (s : List ℕ) → unwrap_or (position (is_byte 0x1a) s) (length s) ≡ length (body s)
body_at s =
    let n : ℕ = position_or_len (is_byte 0x1a) s in
    let few : n ≤ length s = omega (arith, body_le s, first_mark s) in
    by_test (ltb n (length s))
    (λ e. ap (λ (t : Bool). unwrap_or (cond t (Some n) None) (length s)) e ∙ sym (first_mark s))
    (λ e. let all : length s ≡ n = omega (arith, ltb-false n (length s) e) in ap (λ (t : Bool). unwrap_or (cond t (Some n) None) (length s)) e ∙ all ∙ sym (first_mark s))
