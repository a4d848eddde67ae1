-- An item closes: where the heading starts that waits then, and what was entered, said in another way.
use mathlib.Core.Path.{◌≡◌, refl, sym, ap, ◌∙◌, subst}
use mathlib.Core.Bool.{Bool, true, false, cond, not}
use mathlib.Core.List.{List}
use Prim.Native.Nat.{ℕ, ◌+◌}
use lib.Dec.{eqb}
use borrow.Author.Tests.{eqb-true, eqb-false}
use Rattle.laws.specs.Tests.{mark}
use Rattle.rules.specs.declared.First.{First}
use Rattle.rules.specs.declared.Payment.{Payment}
use Rattle.rules.specs.declared.Range.{Range}
use Rattle.rules.specs.Faults.{Fault}
use Rattle.rules.specs.Said.{is_unreadable}
use Rattle.rules.specs.Blocks.{closes_at}
use Rattle.ledger.specs.declared.Ledger.{Ledger}
use Rattle.ledger.specs.Slices.{Entered}
use Rattle.own_rules.specs.declared.Basis.{Basis}
use Rattle.blocks.specs.declared.Course.{Course}
use Rattle.account.specs.Model.{close_course}
use Rattle.closing.specs.declared.Wait.{Wait}
use Rattle.closing.specs.Closing.{shut_by, close_by}
use Rattle.shutting.specs.declared.Starts.{Starts}
use Rattle.shutting.specs.Starts.{Stands, WaitsAt, start_of}
use Rattle.headings.specs.declared.Heading.{Heading}
use Rattle.std.specs.Prelude.{Option}

-- where the heading starts that waits then: the line is none, or that of the heading, or the one that waited
module _ (s : Starts) (n : ℕ) (w : Wait) (off : ℕ → ℕ) (S : Stands off s n w.line) where
  one_of_three : (l : ℕ) → ((l ≡ 0 → ⊥) → (l ≡ n → ⊥) → off l ≡ s.wait) → off l ≡ start_of s l n
  one_of_three l h = go (eqb l 0) refl (eqb l n) refl
    where
      go : (a : Bool) → eqb l 0 ≡ a → (b : Bool) → eqb l n ≡ b → off l ≡ cond a 0 (cond b s.head s.wait)
      go true ea b eb = ap off (eqb-true l 0 ea) ∙ S.none
      go false ea true eb = ap off (eqb-true l n eb) ∙ S.at_head
      go false ea false eb = h (eqb-false l 0 ea) (eqb-false l n eb)

  starts_at : (headed ends any : Bool) (b b' : Course) (m : ℕ) → off (shut_by headed ends any b b' w n m).wait.line ≡ start_of s (shut_by headed ends any b b' w n m).wait.line n
  starts_at false ends any b b' m = one_of_three w.line (λ x y. S.at_wait)
  starts_at true true any b b' m = one_of_three 0 (λ x y. absurd (x refl))
  starts_at true false true b b' m = one_of_three w.line (λ x y. S.at_wait)
  starts_at true false false b b' m = one_of_three n (λ x y. absurd (y refl))

pub waits_at : (j : Basis) (c : Course) (w : Wait) (n m : ℕ) (r : Option Heading) (kc : First Payment) (span : First Range) (groups : ℕ) (s : Starts) {x : Wait} → x ≡ (close_by j c w n m r kc span groups).wait → {k : ℕ} → k ≡ start_of s x.line n
    → WaitsAt s n w.line x.line k
unfolding close_by
waits_at j c w n m r kc span groups s {x} e {k} ek off S =
    let closed = close_course j c kc span r in
    ap (λ (y : Wait). off y.line) e ∙ starts_at s n w off S (not (eqb n 0)) (closes_at r) c.any c closed.course (m + mark 6 (is_unreadable r) + closed.marks + groups)
    ∙ sym (ap (λ (y : Wait). start_of s y.line n) e) ∙ sym ek

-- what was entered, said in another way
pub entered_list : {xs ys : List Fault} {g : Ledger} {ls rs : List ℕ} {g' : Ledger} {ls' rs' : List ℕ} → xs ≡ ys → Entered xs g ls rs g' ls' rs' → Entered ys g ls rs g' ls' rs'
entered_list {g} {ls} {rs} {g'} {ls'} {rs'} e E = subst (λ (zs : List Fault). Entered zs g ls rs g' ls' rs') e E
