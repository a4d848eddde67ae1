-- The marks of ten groups, one after the other.
use Rattle.std.proofs.Common.{◌≡◌, ℕ, zero, suc, ◌+◌, ◌*◌, ◌%◌, ◌^◌, ◌<◌, ◌≤◌, List, ap, add-one, arith, pow_mono, ◌∙◌}
use Rattle.std.proofs.lemmas.Nat.{pow-add}
use Rattle.std.proofs.Math.Nat.{pow-succ'}
use Rattle.laws.specs.Tests.{mark}
use Rattle.rules.specs.declared.Sum.{Sum}
use Rattle.blocks.specs.Model.{group_breaks, group_marks}

module _ (counts sums : List ℕ) (groups : List Sum) where
  -- those of the first n
  unfoldable pub marks_to : ℕ → ℕ
  marks_to zero = 0
  marks_to (suc n) = marks_to n + mark (30 + n) (group_breaks counts sums groups n)

  pub no_marks : 0 ≡ marks_to 0
  unfolding marks_to
  no_marks = omega arith

  pub marks_more : (n : ℕ) → marks_to (n + 1) ≡ marks_to n + mark (30 + n) (group_breaks counts sums groups n)
  unfolding marks_to
  marks_more n = ap marks_to (add-one n)

  pub marks_of_ten : marks_to 10 ≡ group_marks counts sums groups
  unfolding marks_to group_marks
  marks_of_ten = omega arith

-- the mark of 30 moved by fewer than ten places
pub moved : (d : ℕ) → d < 10 → 2 ^ 30 * 2 ^ d % 2 ^ 64 ≡ 2 ^ (30 + d)
moved d h =
    let few : 2 ^ d ≤ 2 ^ 9 = pow_mono {i = d} {j = 9} (omega arith) in
    let parts : 2 ^ (30 + d) ≡ 2 ^ 30 * 2 ^ d = pow-add 2 30 d in
    omega arith

pub twice : (d : ℕ) → 2 ^ (30 + (d + 1)) ≡ 2 * 2 ^ (30 + d)
twice d = let e : 30 + (d + 1) ≡ suc (30 + d) = omega arith in ap (λ (n : ℕ). 2 ^ n) e ∙ pow-succ' 2 (30 + d)
