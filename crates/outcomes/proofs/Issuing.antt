-- The second step of deriving, where it writes.
use mathlib.Core.Path.{◌≡◌}
use mathlib.Core.Bool.{true}
use mathlib.Core.List.{List, ◌++◌}
use Prim.Native.Nat.{ℕ, ◌≤◌}
use lib.ListN.{length, drop}
use borrow.Author.Tests.{le-ltb}
use Rattle.headings.specs.declared.ItemNo.{ItemNo}
use Rattle.headings.specs.declared.Heading.{Heading}
use Rattle.heading_writer.specs.Writing.{heading_text}
use Rattle.outcome_tables.specs.Outcomes.{in_class}
use Rattle.outcomes.specs.Deriving.{numbered, issued_target}

pub issued : (kind : ℕ) (g : Heading) (n : ItemNo) (t : List ℕ) → in_class kind n.0 ≡ true → 54 ≤ length t
    → heading_text (numbered g n) ++ drop 54 t ≡ issued_target kind g n t
unfolding issued_target
issued kind g n t e l = rw (e, le-ltb _ 54 l)
