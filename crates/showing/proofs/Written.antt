-- A turnover's bytes: they are 20 at most, and the code writes them.
use Prim.Native.Nat.{ℕ, suc, ◌+◌, ◌^◌, ◌≤◌}
use native.Mathlib.Omega.{arith}
use mathlib.Core.Path.{◌≡◌, refl, sym, ap, ◌∙◌}
use mathlib.Core.List.{List, [], ◌∷◌, ◌++◌}
use lib.ListN.{length, drop, set, length-set}
use lib.IntN.{ℤ, pos, negsuc, nat_abs}
use mir.Syntax.{w64}
use mir.Val.{SFits, to_z, of_z}
use mir.ValLaws.{to_z-of_z}
use Rattle.laws.specs.Lists.{put}
use Rattle.laws.proofs.Put.{put_is, length_put}
use Rattle.text.specs.Decimals.{decimal}
use Rattle.text.specs.Strings.{Wrote}
use Rattle.text.proofs.Bare.{decimal_within}
use Rattle.showing.specs.Shown.{shown, sign_of, Shows}

size : (z : ℤ) → SFits w64 z → nat_abs z ≤ 2 ^ 63
size (pos a) f = omega (arith, f.sfits)
size (negsuc a) f = omega (arith, f.sfits)

shown_is : (z : ℤ) → sign_of z ∷ decimal (nat_abs z) ≡ shown z
shown_is (pos n) = refl
shown_is (negsuc n) = refl

pub shown_short : (z : ℤ) → SFits w64 z → length (shown z) ≤ 20
shown_short z f =
    let s : length (decimal (nat_abs z)) ≤ 19 = decimal_within 18 (nat_abs z) (omega arith) (omega (arith, size z f)) in
    omega (arith, s, ap length (shown_is z))

-- one byte at the front, and then a text
front : (s : ℕ) (ds target : List ℕ) → 1 ≤ length target → put (set target 0 s) 1 ds ≡ s ∷ (ds ++ drop (suc (length ds)) target)
front s ds [] h = absurd (omega arith)
front s ds (b ∷ bs) h = put_is (s ∷ bs) 1 ds ∙ ap (λ (k : ℕ). s ∷ (ds ++ drop k (s ∷ bs))) (let e : 1 + length ds ≡ suc (length ds) = omega arith in e)

module _ (z : ℤ) (f : SFits w64 z) {m s : ℕ} (p : m ≡ nat_abs (to_z w64 (of_z w64 z))) (q : s ≡ sign_of (to_z w64 (of_z w64 z))) where
  bytes : s ∷ decimal m ≡ shown z
  bytes = (λ i. q i ∷ decimal (p i)) ∙ ap (λ (x : ℤ). sign_of x ∷ decimal (nat_abs x)) (to_z-of_z w64 z f) ∙ shown_is z

  module _ (target : List ℕ) (long : length (set target 0 s) ≡ 20) where
    pub room : 1 + length (decimal m) ≤ length (set target 0 s)
    room = omega (arith, long, ap length bytes, shown_short z f)

    pub shows : {after : List ℕ} {r : ℕ} → Wrote (set target 0 s) 1 (decimal m) after r → Shows target z after r
    shows {after} {r} W = record {
      long = taken ∙ ap length bytes;
      text =
          W.holds ∙ front s (decimal m) target (omega (arith, long, length-set target 0 s)) ∙ ap (λ (k : ℕ). s ∷ (decimal m ++ drop k target)) (sym taken)
          ∙ ap (λ (l : List ℕ). l ++ drop r target) bytes;
      kept = ap length W.holds ∙ length_put (set target 0 s) 1 (decimal m) W.room ∙ length-set target 0 s;
    }
      where
        taken : r ≡ suc (length (decimal m))
        taken = omega (arith, W.ends)
