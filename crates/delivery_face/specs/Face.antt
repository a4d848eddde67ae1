-- What a C host is answered and finds behind its pointers after a call, the whole promise one record.
use Rattle.std.specs.Prelude.{ℕ, ◌≡◌, cond, List, ◌++◌, eqb, length, drop}
use Rattle.laws.specs.Refusals.{first}
use Rattle.outgoing_lines.specs.Outgoing.{Orders}
use Rattle.results.specs.Stored.{stored_at}
use Rattle.delivery.specs.Delivery.{output_file, deliver_refusals}

-- certis_deliver: the refusal or 0, the target, and how many bytes were written
pub record DeliveredAt (items : List ℕ) (q : Orders) (certis day : ℕ) (before : List ℕ) (size₀ r : ℕ) (after : List ℕ) (size : ℕ) : Type 0 where
  pub number : r ≡ first (deliver_refusals items q certis day (length before))
  pub target : after ≡ cond (eqb (first (deliver_refusals items q certis day (length before))) 0) (output_file items q certis day ++ drop (length (output_file items q certis day)) before) before
  pub written : size ≡ stored_at r (length (output_file items q certis day)) size₀
