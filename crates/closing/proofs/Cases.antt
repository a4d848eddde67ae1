-- The closing of an item, by the tests in the order in which the code asks them.
use mathlib.Core.Path.{◌≡◌, refl, sym, ap, ◌∙◌}
use mathlib.Core.Bool.{Bool, true, false, cond, not}
use Prim.Native.Nat.{ℕ, ◌+◌}
use lib.Dec.{eqb}
use Rattle.laws.specs.Tests.{mark}
use Rattle.rules.specs.declared.First.{First}
use Rattle.rules.specs.declared.Payment.{Payment}
use Rattle.rules.specs.declared.Range.{Range}
use Rattle.rules.specs.Blocks.{closes_at}
use Rattle.rules.specs.Said.{is_unreadable}
use Rattle.own_rules.specs.declared.Basis.{Basis}
use Rattle.blocks.specs.declared.Course.{Course}
use Rattle.account.specs.declared.Accounted.{Accounted}
use Rattle.account.specs.Model.{close_course}
use Rattle.closing.specs.declared.Wait.{Wait}
use Rattle.closing.specs.Closing.{no_wait, shut_by, close_by}
use Rattle.headings.specs.declared.Heading.{Heading}
use Rattle.std.specs.Prelude.{Option}

module _ (j : Basis) (c : Course) (w : Wait) (n own : ℕ) (r : Option Heading) (kc : First Payment) (span : First Range) (groups : ℕ) where
  pub close_none : eqb n 0 ≡ true → record { course = c; wait = w; told = 0; marks = 0 } ≡ close_by j c w n own r kc span groups
  unfolding close_by
  close_none h = rw h

  -- the course with the item, and its heading's marks
  module _ (h : eqb n 0 ≡ false) (cl : Accounted) (ec : cl ≡ close_course j c kc span r) (m : ℕ) (em : m ≡ own + mark 6 (is_unreadable r) + cl.marks + groups) where
    by_tests : (t a : Bool) → closes_at r ≡ t → c.any ≡ a → shut_by true t a c cl.course w n m ≡ close_by j c w n own r kc span groups
    unfolding close_by
    by_tests t a p q =
        sym (λ i. shut_by (not (h i)) (p i) (q i) c (sym ec i).course w n
        ((ap (λ (x : Accounted). own + mark 6 (is_unreadable r) + x.marks + groups) (sym ec) ∙ sym em) i))

    pub close_ends : closes_at r ≡ true → (x : Wait) → x ≡ no_wait → (t : ℕ) → t ≡ cond c.any w.marks 0
        → record { course = cl.course; wait = x; told = t; marks = m } ≡ close_by j c w n own r kc span groups
    close_ends p x ex t et = (λ i. record { course = cl.course; wait = ex i; told = et i; marks = m }) ∙ by_tests true c.any p refl

    pub close_next : closes_at r ≡ false → c.any ≡ true → record { course = cl.course; wait = w; told = 0; marks = m } ≡ close_by j c w n own r kc span groups
    close_next p q = by_tests false true p q

    pub close_first : closes_at r ≡ false → c.any ≡ false
        → record { course = cl.course; wait = record { line = n; marks = m }; told = 0; marks = 0 } ≡ close_by j c w n own r kc span groups
    close_first p q = by_tests false false p q
