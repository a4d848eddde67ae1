-- What an item posts is sound: two different turnovers, and an amount of fifteen digits at most.
use Prim.Native.Nat.{ℕ, ◌<◌}
use Rattle.headings.specs.declared.Heading.{Heading}
use Rattle.rules.specs.declared.First.{First}
use Rattle.rules.specs.declared.First.TheVariants.{Missing, Unread, Says}
use Rattle.rules.specs.declared.Payment.{Payment}
use Rattle.item_reader.specs.declared.Slip.{Slip}
use Rattle.item_reader.specs.Slips.{amount_of}
use Rattle.turnovers.specs.declared.Sides.{Sides}
use Rattle.turnovers.specs.Scheme.{scheme_of, posting_by, posting_at, posting_of}
use Rattle.turnovers.proofs.Schemes.{Parted, scheme_parted}
use Rattle.booking.specs.Booking.{SoundAt}
use Rattle.std.specs.Prelude.{None, Option, Some}

sound_by : (h : Heading) (a : ℕ) → a < 1000000000000000 → (x : Option Sides) → Parted x → SoundAt (posting_by h a x)
sound_by h a l (Some x) P = record { from = P.0; to = P.1; apart = P.2; small = l }
sound_by h a l None P = tt

sound_at : (r : Option Heading) (k : First Payment) → amount_of k < 1000000000000000 → SoundAt (posting_at r k)
sound_at (Some h) (Says p) l = sound_by h p.amount.0 l (scheme_of h.kind) (scheme_parted h.kind)
sound_at (Some h) Missing l = tt
sound_at (Some h) Unread l = tt
sound_at None k l = tt

-- what an item posts is sound, where its amount has fifteen digits at most
pub sound : (s : Slip) → amount_of s.kc < 1000000000000000 → SoundAt (posting_of s)
unfolding posting_of
sound s l = sound_at s.head s.kc l
