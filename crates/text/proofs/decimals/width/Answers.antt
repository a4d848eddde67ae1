use Rattle.text.proofs.Bare.{digits_before, one_digit}
use Rattle.text.proofs.decimals.width.Goals as goal

pub returns-in-Some-clause-enough : goal.returns-in-Some-clause-enough
returns-in-Some-clause-enough c = let h = c.in-Some.ensures in digits_before c.in-Some.before c.args.v h.bound h.power_le h.next_power_gt

pub returns-in-None-clause-enough : goal.returns-in-None-clause-enough
returns-in-None-clause-enough c = one_digit c.args.v c.in-None.ensures.none
