-- What a C host is answered and finds behind its pointers after a call, each call's whole promise one record.
use Rattle.std.specs.Prelude.{ℕ, ◌≡◌, List, length}
use Rattle.laws.specs.Refusals.{first}
use Rattle.rules.specs.Terms.{input}
use Rattle.rules.specs.Faults.{Fault, faults}
use Rattle.listing.specs.Checking.{check_refusals, slices_after, offset_at}
use Rattle.results.specs.Stored.{stored_at}

-- certis_total: the refusal or 0, and the true total
pub record TotalAt (file : List ℕ) (code day before r after : ℕ) : Type 0 where
  pub number : r ≡ first (check_refusals file (input code day) 0 0 0)
  pub total : after ≡ stored_at r (length (faults (input code day) file)) before

-- certis_check: the same with three lent slices, and these
pub record CheckedAt (file : List ℕ) (code day : ℕ) (ls₀ rs₀ ps₀ : List ℕ) (before r : ℕ) (ls rs ps : List ℕ) (after : ℕ) : Type 0 where
  pub number : r ≡ first (check_refusals file (input code day) (length ls₀) (length rs₀) (length ps₀))
  pub total : after ≡ stored_at r (length (faults (input code day) file)) before
  pub lines : ls ≡ slices_after r (λ (f : Fault). f.line) (faults (input code day) file) ls₀
  pub rules : rs ≡ slices_after r (λ (f : Fault). f.rule) (faults (input code day) file) rs₀
  pub offsets : ps ≡ slices_after r (offset_at file) (faults (input code day) file) ps₀
