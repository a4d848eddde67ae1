use Rattle.std.proofs.Common.{◌≡◌, ℕ, ◌∙◌}
use Rattle.std.specs.Prelude.{Result, Ok, Err, MatchResult}
use Rattle.adding.specs.declared.EnterError.{EnterError}
use Rattle.adding.specs.Answers.{unentered_number, entered_number}
use Rattle.register_face.proofs.enter.Goals as goal

number_is : (r : Result ℕ EnterError) {k : ℕ} → MatchResult r (λ _. k ≡ 0) (λ e. k ≡ unentered_number e) → k ≡ entered_number r
number_is (Ok _) e = e
number_is (Err _) e = e

pub returns : goal.returns
returns c =
    let e = c.enter-answer.ensures in
    let n = number_is _ c.leave.ensures.number ∙ e.number in
    record { number = n; target = e.target; written = c.leave.ensures.after ∙ e.written _ ∙ rw n }
