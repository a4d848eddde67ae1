-- Model of the code, not part of the statement: an item closes, and its heading waits for rule 16 where it is the first of its block.
use Rattle.std.specs.Prelude.{ℕ, ◌+◌, ◌^◌, Bool, true, false, cond, not, List, ◌++◌, eqb, Option}
use Rattle.laws.specs.Tests.{mark}
use Rattle.rules.specs.declared.First.{First}
use Rattle.rules.specs.declared.Payment.{Payment}
use Rattle.rules.specs.declared.Range.{Range}
use Rattle.rules.specs.declared.Digest.{Digest}
use Rattle.rules.specs.Faults.{Fault}
use Rattle.rules.specs.Blocks.{closes_at}
use Rattle.rules.specs.Said.{is_unreadable}
use Rattle.ledger.specs.Marks.{marked}
use Rattle.own_rules.specs.declared.Basis.{Basis}
use Rattle.blocks.specs.declared.Block.{Block}
use Rattle.blocks.specs.declared.Course.{Course}
use Rattle.account.specs.Model.{close_model, close_course, counts_on, sums_on}
use Rattle.items.specs.Claims.{Claims}
use Rattle.closing.specs.declared.Wait.{Wait}
use Rattle.closing.specs.declared.Shut.{Shut}
use Rattle.headings.specs.declared.Heading.{Heading}

-- nobody waits
abbrev pub no_wait : Wait
no_wait = record { line = 0; marks = 0 }

-- what is there when an item has closed: the account with it, and who waits then; the marks of the one who waited, where the block ends;
-- the heading's own marks, where they are complete
pub record Ended : Type 0 where
  pub block : Block
  pub wait : Wait
  pub told : ℕ
  pub marks : ℕ

abbrev pub shut : Block → Wait → ℕ → ℕ → Ended
shut b w t m = record { block = b; wait = w; told = t; marks = m }

-- an item closed: without a heading nothing is; where it ends its block, the one who waited is told; the first of a block waits itself
abbrev pub shut_as : (headed ends any : Bool) → Block → Block → Wait → ℕ → ℕ → Ended
shut_as false ends any b b' w n m = shut b w 0 0
shut_as true true any b b' w n m = shut b' no_wait (cond any w.marks 0) m
shut_as true false true b b' w n m = shut b' w 0 m
shut_as true false false b b' w n m = shut b' (record { line = n; marks = m }) 0 0

-- where the file ends, the one who waits has 16
unfoldable pub last_marks : Bool → Wait → ℕ
last_marks any w = cond any (w.marks + 2 ^ 16) 0

-- the item, by what its heading reads as and what its fields claim
abbrev pub digest_of : Option Heading → Claims → Digest
digest_of r c = record { head = r; kc = c.kc; span = c.span; sums = c.sums }

-- it closes: its heading stands at the line n (0: none), has the marks m of its line and reads as r
unfoldable pub close_as : Basis → Block → Wait → ℕ → ℕ → Option Heading → Claims → Ended
close_as j b w n m r c =
    let closed = close_model j b (digest_of r c) in
    shut_as (not (eqb n 0)) (closes_at r) b.course.any b closed.block w n (m + mark 6 (is_unreadable r) + closed.marks)

-- what is entered then
abbrev pub close_faults : Basis → Block → Wait → ℕ → ℕ → Option Heading → Claims → List Fault
close_faults j b w n m r c = marked w.line (close_as j b w n m r c).told ++ marked n (close_as j b w n m r c).marks

-- ---- the same of the account's course alone, as the code has it; the marks 30 to 39 are given
abbrev pub shut_by : (headed ends any : Bool) → Course → Course → Wait → ℕ → ℕ → Shut
shut_by false ends any c c' w n m = record { course = c; wait = w; told = 0; marks = 0 }
shut_by true true any c c' w n m = record { course = c'; wait = no_wait; told = cond any w.marks 0; marks = m }
shut_by true false true c c' w n m = record { course = c'; wait = w; told = 0; marks = m }
shut_by true false false c c' w n m = record { course = c'; wait = record { line = n; marks = m }; told = 0; marks = 0 }

unfoldable pub close_by : Basis → Course → Wait → ℕ → ℕ → Option Heading → First Payment → First Range → ℕ → Shut
close_by j c w n m r kc span groups =
    let closed = close_course j c kc span r in
    shut_by (not (eqb n 0)) (closes_at r) c.any c closed.course w n (m + mark 6 (is_unreadable r) + closed.marks + groups)

abbrev pub by_faults : Basis → Course → Wait → ℕ → ℕ → Option Heading → First Payment → First Range → ℕ → List Fault
by_faults j c w n m r kc span groups = marked w.line (close_by j c w n m r kc span groups).told ++ marked n (close_by j c w n m r kc span groups).marks

-- .. and of its groups: without a heading nothing is counted in
abbrev pub counts_by : List ℕ → ℕ → Option Heading → First Payment → List ℕ
counts_by xs n r kc = cond (eqb n 0) xs (counts_on xs kc r)

abbrev pub sums_by : List ℕ → ℕ → Option Heading → First Payment → List ℕ
sums_by xs n r kc = cond (eqb n 0) xs (sums_on xs kc r)
