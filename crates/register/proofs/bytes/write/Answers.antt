use Prim.Native.Nat.{ℕ, ◌+◌, ◌≤◌}
use mathlib.Core.Path.{◌≡◌, refl}
use mathlib.Core.List.{List}
use lib.ListN.{length}
use Rattle.laws.specs.Lists.{put}
use Rattle.text.specs.Strings.{Wrote}
use Rattle.register.specs.Bytes.{big}
use Rattle.register.proofs.Widths.{length_big}
use borrow.Author.Rules.{rules}
use Rattle.register.proofs.bytes.write.Goals as goal

wrote : {before after : List ℕ} {at : ℕ} (n v : ℕ) → at + n ≤ length before → after ≡ put before at (big n v) → Wrote before at (big n v) after (at + n)
wrote n v h e = record { room = rw length_big h; ends = rw length_big; holds = e }

pub returns : goal.returns
returns c = let a = c.args in record { text = wrote a.n a.value (search rules) c.store.ensures; end = refl }
