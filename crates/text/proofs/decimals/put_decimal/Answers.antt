use Prim.Native.Nat.{ℕ}
use native.Mathlib.Omega.{arith}
use mathlib.Core.Path.{◌≡◌, ap}
use mathlib.Core.List.{List}
use lib.ListN.{length}
use borrow.Author.Rules.{rules}
use Rattle.text.specs.Strings.{Wrote}
use Rattle.text.proofs.Widths.{length_digits}
use Rattle.text.proofs.decimals.put_decimal.Goals as goal

same : {before after : List ℕ} {at end : ℕ} {x y : List ℕ} → x ≡ y → Wrote before at x after end → Wrote before at y after end
same e w = rw (← e) w

pub put_digits-requires : goal.put_digits-requires
put_digits-requires c = omega (arith, length_digits c.width-n.result c.args.v, ap length c.width-n.ensures.enough, c.requires)

pub returns : goal.returns
returns c = record { text = same c.width-n.ensures.enough c.put_digits.ensures.text; end = search rules }
