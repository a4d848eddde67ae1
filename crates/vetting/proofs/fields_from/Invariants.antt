use Rattle.std.proofs.Common.{◌-◌, ◌≡◌, false, ◌+◌, ◌≤◌, length, ℕ}
use Rattle.rules.specs.Terms.{Terms}
use Rattle.own_rules.specs.Model.{basis_of}
use Rattle.vetting.specs.Vetting.{Stamped}
use Rattle.vetting.specs.Parts.{low_at}
use Rattle.vetting.proofs.Fields.{Fielding}
use Rattle.vetting.proofs.fields_from.Given as goal

abbrev pub invariant-loop-ident : goal.invariant-loop-ident
invariant-loop-ident l = record {
  from : l.at ≤ l.next;
  within : l.next ≤ length l.s;
  clear : low_at l.s l.next ≡ false;
  stamped : Stamped l.stood (l.stamp + 1);
  fielding : (terms : Terms) → l.basis ≡ basis_of terms → (n : ℕ) → Fielding terms l.h l.s l.at n l.stamp l.stood l.kc l.next;
}

abbrev pub decreases-loop-ident : goal.decreases-loop-ident
decreases-loop-ident l = length l.s - l.next
