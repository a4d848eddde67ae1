-- 'a version 1 register keeps its ranges and meaning': entering a file in it and in the register of version 2 with the same code, latest
-- day and ranges gives the same answer and the same bytes.
use Prim.Native.Nat.{ℕ, ◌≤◌}
use mathlib.Core.Path.{◌≡◌, sym, ◌∙◌, subst}
use mathlib.Core.Bool.{Bool, true, not}
use mathlib.Core.List.{List, ◌∷◌, ◌++◌}
use lib.Dec.{eqb, ltb}
use lib.ListN.{length}
use Rattle.laws.specs.Refusals.{Refusal, ◌if◌}
use Rattle.rules.specs.Terms.{input}
use Rattle.rules.specs.Faults.{faults}
use Rattle.listing.specs.Checking.{check_refusals}
use Rattle.register.specs.Register.{Register, bytes_in, most_of, register_of, well_formed, is_register}
use Rattle.register.specs.Entering.{entered}
use Rattle.register.proofs.Formed.{kept_meaning}
use Rattle.std.specs.Prelude.{Result}
use Rattle.adding.specs.declared.EnterError.{EnterError}
use Rattle.adding.specs.Answers.{uses_refusals, Answers}
use Rattle.entering.specs.Jobs.{uses_of, Enters}
use Rattle.entering.proofs.Unique.{enter_unique}

module _ (file : List ℕ) (code day : ℕ) (before : List ℕ) where
  -- the refusals, by whether the bytes are a register and by which they are
  abbrev asked : Bool → Register → List Refusal
  asked good g =
      check_refusals file (input code day) 0 0 0 ++
      ((23 if not good) ∷
      (24 if not (eqb g.code code)) ∷
      (25 if ltb day g.latest) ∷
      (26 if not (eqb (length (faults (input code day) file)) 0)) ∷
      uses_refusals g (uses_of file) day (length before))

  alike : (s t : List ℕ) → is_register s ≡ is_register t → register_of s ≡ register_of t → {r : Result ℕ EnterError} {after : List ℕ} → Enters s file code day before r after → Enters t file code day before r after
  alike s t a b {r} {after} E =
      subst (λ (g : Register). Answers (asked (is_register t) g) (entered g day (uses_of file)) before r after) b
      (subst (λ (good : Bool). Answers (asked good (register_of s)) (entered (register_of s) day (uses_of file)) before r after) a E)

  pub enter_kept : (g : Register) → length g.ranges ≤ most_of 1 → well_formed g ≡ true → {r r' : Result ℕ EnterError} {after after' : List ℕ}
      → Enters (bytes_in 1 g) file code day before r after → Enters (bytes_in 2 g) file code day before r' after' → (r ≡ r') × (after ≡ after')
  enter_kept g h e E E' =
      let m = kept_meaning g h e in
      enter_unique (bytes_in 2 g) file code day before (alike (bytes_in 1 g) (bytes_in 2 g) (m.stands_1 ∙ sym m.stands_2) (m.means_1 ∙ sym m.means_2) E) E'
