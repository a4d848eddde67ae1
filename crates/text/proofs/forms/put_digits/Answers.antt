use Prim.Native.Nat.{ℕ, ◌+◌, ◌≤◌}
use mathlib.Core.Path.{◌≡◌, refl}
use mathlib.Core.List.{List}
use lib.ListN.{length}
use borrow.Author.Rules.{rules}
use Rattle.laws.specs.Lists.{put}
use Rattle.text.specs.Digits.{digits}
use Rattle.text.specs.Strings.{Wrote}
use Rattle.text.proofs.Widths.{length_digits}
use Rattle.text.proofs.forms.put_digits.Goals as goal

wrote : {before after : List ℕ} {at : ℕ} (n v : ℕ) → at + n ≤ length before → after ≡ put before at (digits n v) → Wrote before at (digits n v) after (at + n)
wrote n v h e = record { room = rw length_digits h; ends = rw length_digits; holds = e }

pub returns : goal.returns
returns c = let a = c.args in record { text = wrote a.n a.v (search rules) c.write.ensures; end = refl }
