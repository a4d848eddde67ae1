-- What a C host is answered and finds behind its pointers after a call, each call's whole promise one record.
use Rattle.std.specs.Prelude.{ℕ, ◌≡◌, List, length}
use Rattle.laws.specs.Refusals.{first}
use Rattle.outcomes.specs.Deriving.{tell_refusals, outgoing_kind, recipient, derive_refusals, derived_target}
use Rattle.results.specs.Stored.{stored_at}

-- certis_tell: the refusal or 0, the outgoing type and the recipient's code
pub record ToldAt (s : List ℕ) (o p kind₀ code₀ r kind₁ code₁ : ℕ) : Type 0 where
  pub number : r ≡ first (tell_refusals s o p)
  pub kind : kind₁ ≡ stored_at r (outgoing_kind s o) kind₀
  pub code : code₁ ≡ stored_at r (recipient s o) code₀

-- certis_derive: the refusal or 0, and the target
pub record DerivedAt (s : List ℕ) (o p n : ℕ) (t₀ : List ℕ) (r : ℕ) (t : List ℕ) : Type 0 where
  pub number : r ≡ first (derive_refusals s o p (record { 0 = n }) (length t₀))
  pub target : t ≡ derived_target s o p (record { 0 = n }) t₀
