-- What a C host is answered and finds behind its pointers after a call, the whole promise one record.
use Rattle.std.specs.Prelude.{ℕ, ◌≡◌, List}
use Rattle.laws.specs.Refusals.{first}
use Rattle.figures.specs.Accounts.{account_refusals, halves_of, prefix_answer, number_answer}
use Rattle.results.specs.Stored.{stored_at}

-- certis_account: the refusal or 0, the answer for the prefix and that for the number
pub record AccountAt (prefix number : List ℕ) (prefix₀ number₀ r prefix₁ number₁ : ℕ) : Type 0 where
  pub refusal : r ≡ first (account_refusals prefix number)
  pub first_half : prefix₁ ≡ stored_at r (prefix_answer (halves_of prefix number).prefix) prefix₀
  pub second_half : number₁ ≡ stored_at r (number_answer (halves_of prefix number).number) number₀
