-- An item closes by parts: the account's course, its groups and the marks that the code keeps apart, put together, are what `close_as` says.
use mathlib.Core.Path.{◌≡◌, refl, ap, ◌∙◌}
use mathlib.Core.Bool.{Bool, true, false, cond, not}
use mathlib.Core.List.{List}
use Prim.Native.Nat.{ℕ, ◌+◌}
use native.Mathlib.Omega.{arith}
use lib.Dec.{eqb}
use Rattle.laws.specs.Tests.{mark}
use Rattle.rules.specs.Blocks.{closes_at}
use Rattle.rules.specs.Said.{is_unreadable}
use Rattle.own_rules.specs.declared.Basis.{Basis}
use Rattle.blocks.specs.declared.Course.{Course}
use Rattle.blocks.specs.Model.{block_of}
use Rattle.account.specs.Model.{close_course, counts_on, sums_on, groups_on}
use Rattle.account.proofs.Parts.{by_parts}
use Rattle.items.specs.Claims.{Claims}
use Rattle.closing.specs.declared.Wait.{Wait}
use Rattle.closing.specs.declared.Shut.{Shut}
use Rattle.closing.specs.Closing.{Ended, shut_as, shut_by, close_as, close_by, counts_by, sums_by}
use Rattle.headings.specs.declared.Heading.{Heading}
use Rattle.std.specs.Prelude.{Option}

-- a course that has closed, with groups beside it
abbrev pub whole : Shut → List ℕ → List ℕ → Ended
whole s counts sums = record { block = block_of s.course counts sums; wait = s.wait; told = s.told; marks = s.marks }

parted : (z t a : Bool) (c c' : Course) (cs cs' ss ss' : List ℕ) (w : Wait) (n m : ℕ)
    → shut_as (not z) t a (block_of c cs ss) (block_of c' cs' ss') w n m ≡ whole (shut_by (not z) t a c c' w n m) (cond z cs cs') (cond z ss ss')
parted true t a c c' cs cs' ss ss' w n m = refl
parted false true a c c' cs cs' ss ss' w n m = refl
parted false false true c c' cs cs' ss ss' w n m = refl
parted false false false c c' cs cs' ss ss' w n m = refl

module _ (j : Basis) (c : Course) (counts sums : List ℕ) (w : Wait) (n m : ℕ) (r : Option Heading) (cl : Claims) where
  pub close_parts : close_as j (block_of c counts sums) w n m r cl
      ≡ whole (close_by j c w n m r cl.kc cl.span (groups_on counts sums cl.sums r)) (counts_by counts n r cl.kc) (sums_by sums n r cl.kc)
  unfolding close_as close_by
  close_parts =
      (λ i. let closed = by_parts j c counts sums cl.kc cl.span cl.sums r i in
      shut_as (not (eqb n 0)) (closes_at r) c.any (block_of c counts sums) closed.block w n (m + mark 6 (is_unreadable r) + closed.marks))
      ∙ ap (shut_as (not (eqb n 0)) (closes_at r) c.any (block_of c counts sums)
      (block_of (close_course j c cl.kc cl.span r).course (counts_on counts cl.kc r) (sums_on sums cl.kc r)) w n) more
      ∙ parted (eqb n 0) (closes_at r) c.any c (close_course j c cl.kc cl.span r).course counts (counts_on counts cl.kc r) sums (sums_on sums cl.kc r) w n _
    where
      more : m + mark 6 (is_unreadable r) + ((close_course j c cl.kc cl.span r).marks + groups_on counts sums cl.sums r)
          ≡ m + mark 6 (is_unreadable r) + (close_course j c cl.kc cl.span r).marks + groups_on counts sums cl.sums r
      more = omega arith
