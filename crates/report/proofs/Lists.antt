-- What checking promises, as the program prints it.
use mathlib.Core.Path.{◌≡◌, sym, ◌∙◌}
use mathlib.Core.List.{List}
use Prim.Native.Nat.{ℕ, min}
use lib.ListN.{length}
use Rattle.laws.specs.Refusals.{first}
use Rattle.rules.specs.Terms.{input}
use Rattle.rules.specs.Faults.{faults}
use Rattle.ledger.specs.Slices.{held}
use Rattle.std.specs.Prelude.{Result, Some}
use Rattle.listing.specs.declared.checking.Unchecked.{Unchecked}
use Rattle.listing.specs.Checking.{Checks, check_refusals, checked_number, checked_or}
use Rattle.listing_texts.specs.declared.job.Job.{Job}
use Rattle.report.specs.Program.{answer_text, file_text}
use Rattle.report.proofs.Answers.{answered}

pub shown : (file : List ℕ) (job : Job) (ls₀ rs₀ ps₀ ls rs ps : List ℕ) (r : Result ℕ Unchecked) (k t : ℕ)
    → Checks file (input job.code job.day) ls₀ rs₀ ps₀ r ls rs ps
    → k ≡ checked_number r → t ≡ checked_or r 0 → length ls₀ ≡ 256 → length rs₀ ≡ 256 → length ps₀ ≡ 256
    → answer_text k job.code job.day (held (min 256 t) ls rs) t ≡ file_text (Some job) file
shown file job ls₀ rs₀ ps₀ ls rs ps r k t h ek et el er ep =
    let q : k ≡ first (check_refusals file (input job.code job.day) 256 256 256) = ek ∙ h.number ∙ rw (el, er, ep) in
    answered (faults (input job.code job.day) file) k job.code job.day t ls₀ rs₀ ls rs el er (λ z.
    let e = sym (ek ∙ h.number) ∙ z in
    (et ∙ h.total 0 ∙ rw e, h.lines ∙ rw e, h.rules ∙ rw e)) ∙ rw q
