-- Each way through writing the items' lines and what follows them.
use Prim.Native.Nat.{ℕ, ◌+◌, ◌≤◌, min}
use native.Mathlib.Omega.{arith}
use mathlib.Core.Path.{◌≡◌, refl, sym, ap, subst}
use mathlib.Core.Bool.{Bool, true, false, ◌||◌}
use mathlib.Core.List.{List, [], ◌∷◌, ◌++◌}
use lib.Dec.{ltb}
use lib.ListN.{length, length-append}
use borrow.Author.Tests.{le-ltb}
use Rattle.std.specs.List.{list_any}
use Rattle.laws.specs.Lists.{any_of}
use Rattle.laws.specs.Refusals.{first}
use Rattle.text.specs.Strings.{Wrote}
use Rattle.text.proofs.Wrote.{then}
use Rattle.std.specs.Prelude.{Result, Ok, Err}
use Rattle.delivery.specs.declared.DeliverError.{DeliverError}
use Rattle.delivery.specs.declared.DeliverError.TheVariants.{TooLarge}
use Rattle.delivery.specs.Model.{Answers, lines_refusals}
use Rattle.delivery.proofs.Answered.{refused, done}

-- `front` are the items' lines, whose length is told up to the limit, and `rest` is what follows them
module _ (front rest before : List ℕ) {t : ℕ} (z : min 4000000001 (length front) ≡ t) where
  abbrev text : List ℕ
  text = front ++ rest

  abbrev refusal : ℕ
  refusal = first (lines_refusals false text (length before))

  long : length text ≡ length front + length rest
  long = length-append front rest

  module _ (h : t + length rest ≤ 4000000000) where
    e : ltb 4000000000 (length text) ≡ false
    e = le-ltb 4000000000 (length text) (omega (arith, z, long, h))

    module _ (l : t + length rest ≤ length before) where
      pub lines_done : {mid after : List ℕ} {next end : ℕ} → Wrote before 0 front mid next → Wrote mid next rest after end → Answers refusal text before (Ok end) after
      lines_done v w =
          let f : ltb (length before) (length text) ≡ false = le-ltb (length before) (length text) (omega (arith, z, long, h, l)) in done (rw (e, f)) (then v w)

-- std's word for it, and that of the rules
pub same_any : (f : ℕ → Bool) (xs : List ℕ) → list_any f xs ≡ any_of f xs
unfolding any_of
same_any f [] = refl
same_any f (x ∷ xs) = ap (λ (b : Bool). f x || b) (same_any f xs)

-- a sum that is too large, whatever the text
pub sums_large : (large : Bool) (text before : List ℕ) → large ≡ true → Answers (first (lines_refusals large text (length before))) text before (Err TooLarge) before
sums_large large text before e =
    refused (Err TooLarge) (sym (ap (λ (b : Bool). first (lines_refusals b text (length before))) e)) (omega arith) (λ old. refl)

-- what a first text says of the same one in other words
pub same_lines : (large : Bool) {text text' before : List ℕ} {r : Result ℕ DeliverError} {after : List ℕ} → large ≡ false → text ≡ text'
    → Answers (first (lines_refusals false text (length before))) text before r after → Answers (first (lines_refusals large text' (length before))) text' before r after
same_lines large {text} {text'} {before} {r} {after} e p A =
    subst (λ (b : Bool). Answers (first (lines_refusals b text' (length before))) text' before r after) (sym e)
    (subst (λ (t : List ℕ). Answers (first (lines_refusals false t (length before))) t before r after) p A)
