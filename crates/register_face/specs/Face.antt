-- What a C host is answered and finds behind its pointers after a call, each call's whole promise one record.
use Rattle.std.specs.Prelude.{ℕ, ◌≡◌, List, length}
use Rattle.laws.specs.Refusals.{first}
use Rattle.register.specs.Register.{register_of}
use Rattle.register.specs.Entering.{entered}
use Rattle.adding.specs.Answers.{size_after, target_after}
use Rattle.entering.specs.Jobs.{uses_of, enter_refusals, new_register, blank_refusals}

-- certis_register_new: the refusal or 0, and the target
pub record BlankedAt (code : ℕ) (before : List ℕ) (r : ℕ) (after : List ℕ) : Type 0 where
  pub number : r ≡ first (blank_refusals code (length before))
  pub target : after ≡ target_after (first (blank_refusals code (length before))) (new_register code) before

-- certis_register_enter: the refusal or 0, the target, and how many bytes were written
pub record EnteredAt (register file : List ℕ) (code day : ℕ) (before : List ℕ) (size₀ r : ℕ) (after : List ℕ) (size : ℕ) : Type 0 where
  pub number : r ≡ first (enter_refusals register file code day (length before))
  pub target : after ≡ target_after (first (enter_refusals register file code day (length before))) (entered (register_of register) day (uses_of file)) before
  pub written : size ≡ size_after r (entered (register_of register) day (uses_of file)) size₀
