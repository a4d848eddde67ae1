-- The set of marks of a heading, as the sum in which the code makes it.
use Prim.Native.Nat.{ℕ, ◌+◌}
use mathlib.Core.Path.{◌≡◌}
use mathlib.Core.Bool.{Bool}
use mathlib.Core.List.{List, ◌∷◌, ◌++◌, map}
use native.Mathlib.Omega.{arith}
use Rattle.laws.specs.Tests.{mark}
use Rattle.rules.specs.Tests.{◌if◌}
use Rattle.rules.specs.Terms.{Terms}
use Rattle.rules.specs.Rows.{Row}
use Rattle.rules.specs.Tree.{Item}
use Rattle.rules.specs.LineRules.{rule1, rule4}
use Rattle.rules.specs.Spots.{own_tests, block_tests}
use Rattle.rules.specs.Said.{head_of, is_unreadable, digest}
use Rattle.rules.specs.HeadingRules.{rule6_at}
use Rattle.ledger.specs.Marks.{set_of}
use Rattle.account.specs.Summary.{marks_by}
use Rattle.items.proofs.Ideal.{tests_as}
use Rattle.headings.specs.declared.Heading.{Heading}
use Rattle.std.specs.Prelude.{None, Option, Some}

unfoldable pub line_marks : Row → ℕ
line_marks r = mark 1 (rule1 r) + mark 4 (rule4 r)

module _ (terms : Terms) where
  -- all marks of a heading but 16
  unfoldable pub head_marks : List Item → Item → ℕ
  head_marks above i = line_marks i.head.owner + mark 6 (rule6_at i.head) + marks_by terms (map digest above) (digest i) (head_of i.head)

  pub head_set : (z : Bool) (above : List Item) (i : Item) → set_of (tests_as terms z above i) ≡ head_marks above i + mark 16 z
  unfolding tests_as head_marks line_marks own_tests block_tests
  head_set z above i = go (head_of i.head)
    where
      go : (hd : Option Heading)
          → set_of ((1 if rule1 i.head.owner) ∷ (4 if rule4 i.head.owner) ∷ (6 if is_unreadable hd)
          ∷ (own_tests terms (digest i) hd ++ ((16 if z) ∷ block_tests (map digest above) (digest i) hd)))
          ≡ line_marks i.head.owner + mark 6 (is_unreadable hd) + marks_by terms (map digest above) (digest i) hd + mark 16 z
      go (Some h) = omega arith
      go None = omega arith
