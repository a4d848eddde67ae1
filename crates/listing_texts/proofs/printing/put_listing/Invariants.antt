use Prim.Native.Nat.{◌+◌, ◌-◌, ◌*◌, ◌≤◌}
use mathlib.Core.Path.{◌≡◌}
use lib.ListN.{length}
use Rattle.text.specs.Strings.{Wrote}
use Rattle.ledger.specs.Slices.{held}
use Rattle.listing_texts.specs.Printing.{row_texts}
use borrow.Author.Rules.{rules}
use Rattle.listing_texts.proofs.printing.put_listing.Given as goal

abbrev pub invariant-loop-i : goal.invariant-loop-i
invariant-loop-i l = (l.i ≤ l.n) × (l.at ≤ l.initial.at + 52 * l.i) × (length l.out ≡ length l.initial.out) × Wrote l.initial.out l.initial.at (row_texts (held l.i l.lines l.rules)) l.out l.at
