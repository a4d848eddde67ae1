-- Model of the code, not part of the statement: what each function of `account` computes of an account and an item.
use Rattle.std.specs.Prelude.{ℕ, ◌+◌, Bool, true, false, cond, not, ◌&&◌, ◌||◌, List, replicate, None, Option, Some}
use Rattle.headings.specs.declared.Heading.{Heading}
use Rattle.headings.specs.ItemTypes.{is_closing, is_payment, is_priority, group_of}
use Rattle.rules.specs.declared.First.{First}
use Rattle.rules.specs.declared.First.TheVariants.{Missing, Unread, Says}
use Rattle.rules.specs.declared.Payment.{Payment}
use Rattle.rules.specs.declared.Range.{Range}
use Rattle.rules.specs.declared.Sums.{Sums}
use Rattle.rules.specs.declared.Digest.{Digest}
use Rattle.own_rules.specs.declared.Basis.{Basis}
use Rattle.blocks.specs.declared.Block.{Block}
use Rattle.blocks.specs.declared.Course.{Course}
use Rattle.blocks.specs.Model.{course_of, count_cap, sum_cap, open_marks, ending_marks, group_marks, closing_marks}
use Rattle.own_rules.specs.Model.{own_marks}
use Rattle.group_sums.specs.Model.{plus_at}
use Rattle.account.specs.declared.Accounted.{Accounted}
use Rattle.account.specs.declared.Outline.{Outline}

unfoldable pub counts_after : List ℕ → ℕ → First Payment → List ℕ
counts_after xs kind Missing = xs
counts_after xs kind Unread = xs
counts_after xs kind (Says p) = cond (is_payment kind) (plus_at count_cap xs (group_of kind) 1) xs

unfoldable pub sums_after : List ℕ → ℕ → First Payment → List ℕ
sums_after xs kind Missing = xs
sums_after xs kind Unread = xs
sums_after xs kind (Says p) = cond (is_payment kind) (plus_at sum_cap xs (group_of kind) p.amount.0) xs

-- ---- the account with an item more
-- the first KC of an item of this type
unfoldable pub kc_block : Block → ℕ → First Payment → Block
kc_block b kind kc = record { course = b.course; counts = counts_after b.counts kind kc; sums = sums_after b.sums kind kc }

-- a readable heading more that is no 51
unfoldable pub heading_course : Course → Heading → Course
heading_course c h =
    record {
      classed = c.classed || is_payment h.kind;
      priority = (c.classed && c.priority) || (not c.classed && (is_payment h.kind && is_priority h.kind));
      any = true;
      some = true;
      day = cond c.some c.day h.day;
      first = cond c.some c.first h.number;
      last = h.number;
    }

unfoldable pub heading_block : Block → Heading → Block
heading_block b h = record { course = heading_course b.course h; counts = b.counts; sums = b.sums }

-- an unreadable heading more
abbrev pub touched_course : Course → Course
touched_course c =
    record {
      classed = c.classed;
      priority = c.priority;
      any = true;
      some = c.some;
      day = c.day;
      first = c.first;
      last = c.last;
    }

unfoldable pub touched_block : Block → Block
touched_block b = record { course = touched_course b.course; counts = b.counts; sums = b.sums }

-- no item of the open block yet
abbrev pub empty_course : Bool → Bool → Course
empty_course classed priority =
    record {
      classed = classed;
      priority = priority;
      any = false;
      some = false;
      day = 0;
      first = record { 0 = 0 };
      last = record { 0 = 0 };
    }

unfoldable pub empty_block : Bool → Bool → Block
empty_block classed priority = record { course = empty_course classed priority; counts = replicate 10 0; sums = replicate 10 0 }

unfoldable pub read_block : Block → Heading → First Payment → Block
read_block b h kc = cond (is_closing h.kind) (empty_block b.course.classed b.course.priority) (kc_block (heading_block b h) h.kind kc)

unfoldable pub read_marks : Basis → Block → Digest → Heading → ℕ
read_marks j b it h =
    own_marks j h it.kc + cond (is_closing h.kind) (closing_marks b h it.span it.sums) (open_marks (course_of b) h)

-- the account and the marks after an item
pub record After : Type 0 where
  pub block : Block
  pub marks : ℕ

unfoldable pub close_at : Basis → Block → Digest → Option Heading → After
close_at j b it (Some h) = record { block = read_block b h it.kc; marks = read_marks j b it h }
close_at j b it None = record { block = touched_block b; marks = 0 }

abbrev pub close_model : Basis → Block → Digest → After
close_model j b it = close_at j b it it.head

-- ---- the same by parts: the course, the groups, and the marks with and without them
unfoldable pub read_course : Course → Heading → Course
read_course c h =
    cond (is_closing h.kind) (empty_course c.classed c.priority) (heading_course c h)

unfoldable pub course_marks : Basis → Course → Heading → First Payment → First Range → ℕ
course_marks j c h kc span = own_marks j h kc + cond (is_closing h.kind) (ending_marks c h span) (open_marks c h)

unfoldable pub close_course : Basis → Course → First Payment → First Range → Option Heading → Accounted
close_course j c kc span (Some h) = record { course = read_course c h; marks = course_marks j c h kc span }
close_course j c kc span None = record { course = touched_course c; marks = 0 }

abbrev pub course_model : Basis → Course → Outline → Accounted
course_model j c it = close_course j c it.kc it.span it.head

unfoldable pub counts_on : List ℕ → First Payment → Option Heading → List ℕ
counts_on xs kc (Some h) = cond (is_closing h.kind) (replicate 10 0) (counts_after xs h.kind kc)
counts_on xs kc None = xs

unfoldable pub sums_on : List ℕ → First Payment → Option Heading → List ℕ
sums_on xs kc (Some h) = cond (is_closing h.kind) (replicate 10 0) (sums_after xs h.kind kc)
sums_on xs kc None = xs

unfoldable pub groups_on : List ℕ → List ℕ → Sums → Option Heading → ℕ
groups_on counts sums stated (Some h) = cond (is_closing h.kind) (group_marks counts sums stated.groups) 0
groups_on counts sums stated None = 0
