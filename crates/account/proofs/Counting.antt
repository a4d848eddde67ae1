-- Where no heading reads, or no payment is said, no count or sum changes.
use Rattle.std.proofs.Common.{◌≡◌, ℕ, List, refl}
use Rattle.headings.specs.declared.Heading.{Heading}
use Rattle.std.specs.Prelude.{None, Option, Some}
use Rattle.rules.specs.declared.First.{First}
use Rattle.rules.specs.declared.First.TheVariants.{Missing, Unread, Says}
use Rattle.rules.specs.declared.Payment.{Payment}
use Rattle.account.specs.Model.{counts_after, sums_after, counts_on, sums_on}

pub uncounted : (counts sums : List ℕ) (kind : ℕ) (kc : First Payment) → ((p : Payment) → kc ≡ Says p → ⊥) → (counts ≡ counts_after counts kind kc) × (sums ≡ sums_after sums kind kc)
unfolding counts_after sums_after
uncounted counts sums kind Missing h = (refl, refl)
uncounted counts sums kind Unread h = (refl, refl)
uncounted counts sums kind (Says p) h = absurd (h p refl)

pub unread : (counts sums : List ℕ) (kc : First Payment) (head : Option Heading) → ((h : Heading) → head ≡ Some h → ⊥) → (counts ≡ counts_on counts kc head) × (sums ≡ sums_on sums kc head)
unfolding counts_on sums_on
unread counts sums kc None h = (refl, refl)
unread counts sums kc (Some x) h = absurd (h x refl)
