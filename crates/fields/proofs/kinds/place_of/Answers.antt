use Rattle.std.proofs.Common.{◌∙◌, ap, ℕ, ◌+◌, arith}
use borrow.Author.Rules.{rules}
use Rattle.fields.proofs.Places.{digit_at, letter_at, no_symbol}
use Rattle.fields.proofs.kinds.place_of.Goals as goal

pub returns-then-is_ascii_digit : goal.returns-then-is_ascii_digit
returns-then-is_ascii_digit c =
    let d = c.if-is_ascii_digit.ensures.cases in
    (c.from.ensures ∙ digit_at c.args.b (omega (arith, d)) (omega (arith, d)), omega (arith, d, c.from.ensures))

pub returns-then-is_ascii_uppercase : goal.returns-then-is_ascii_uppercase
returns-then-is_ascii_uppercase c =
    let l = c.if-is_ascii_uppercase.ensures.cases in
    let e = c.from-then-is_ascii_uppercase.ensures in
    (ap (λ (n : ℕ). n + 10) e ∙ letter_at c.args.b (omega (arith, l)) (omega (arith, l)), omega (arith, l, e))

pub returns-else-is_ascii_uppercase : goal.returns-else-is_ascii_uppercase
returns-else-is_ascii_uppercase c =
    (no_symbol c.args.b (search rules) (λ p q. omega (arith, c.if-is_ascii_digit.ensures.cases)) (λ p q. omega (arith, c.if-is_ascii_uppercase.ensures.cases)), omega arith)
