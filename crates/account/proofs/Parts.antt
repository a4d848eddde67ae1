-- The account by its parts: what the code keeps apart, put together, is what `close_model` says.
use Prim.Native.Nat.{ℕ, ◌+◌}
use mathlib.Core.Path.{◌≡◌, refl}
use mathlib.Core.Bool.{Bool, true, false}
use mathlib.Core.List.{List}
use native.Mathlib.Omega.{arith}
use Rattle.headings.specs.declared.Heading.{Heading}
use Rattle.headings.specs.ItemTypes.{is_closing}
use Rattle.rules.specs.declared.First.{First}
use Rattle.rules.specs.declared.Payment.{Payment}
use Rattle.rules.specs.declared.Range.{Range}
use Rattle.rules.specs.declared.Sums.{Sums}
use Rattle.own_rules.specs.declared.Basis.{Basis}
use Rattle.blocks.specs.declared.Course.{Course}
use Rattle.blocks.specs.Model.{block_of, open_marks, ending_marks, group_marks, closing_marks}
use Rattle.own_rules.specs.Model.{own_marks}
use Rattle.account.specs.Model.{heading_block, touched_block, empty_block, kc_block, read_block, read_marks, close_at, After, read_course, course_marks, close_course, counts_on, sums_on, groups_on}
use Rattle.std.specs.Prelude.{None, Option, Some}

module _ (j : Basis) (c : Course) (counts sums : List ℕ) (kc : First Payment) (span : First Range) (stated : Sums) where
  abbrev together : Option Heading → After
  together r =
      record {
        block = block_of (close_course j c kc span r).course (counts_on counts kc r) (sums_on sums kc r);
        marks = (close_course j c kc span r).marks + groups_on counts sums stated r;
      }

  abbrev closed : Option Heading → After
  closed r = close_at j (block_of c counts sums) (record { head = r; kc = kc; span = span; sums = stated }) r

  by_reading : (h : Heading) (b : Bool) → is_closing h.kind ≡ b → closed (Some h) ≡ together (Some h)
  unfolding close_at read_block read_marks closing_marks kc_block heading_block empty_block close_course read_course course_marks counts_on sums_on groups_on
  by_reading h true e = simp e (λ i. record { block = empty_block c.classed c.priority; marks = more i })
    where
      more : own_marks j h kc + (ending_marks c h span + group_marks counts sums stated.groups) ≡ (own_marks j h kc + ending_marks c h span) + group_marks counts sums stated.groups
      more = omega arith
  by_reading h false e = simp e (λ i. record { block = kc_block (heading_block (block_of c counts sums) h) h.kind kc; marks = none i })
    where
      none : own_marks j h kc + open_marks c h ≡ (own_marks j h kc + open_marks c h) + 0
      none = omega arith

  by_unreadable : closed None ≡ together None
  unfolding close_at touched_block close_course counts_on sums_on groups_on
  by_unreadable = refl

  pub by_parts : (r : Option Heading) → closed r ≡ together r
  by_parts (Some h) = by_reading h (is_closing h.kind) refl
  by_parts None = by_unreadable
