use Prim.Native.Nat.{◌-◌}
use mathlib.Core.Path.{◌≡◌, refl, ◌∙◌}
use native.Mathlib.Omega.{arith}
use Rattle.text.proofs.Wrote.{then, same_length as as_long}
use Rattle.listing_texts.specs.Printing.{listing_text}
use Rattle.listing_texts.proofs.Listings.{rows_none, rows_more, at_start}
use borrow.Author.Rules.{rules}
use Rattle.listing_texts.proofs.printing.put_listing.Goals as goal

pub loop-i-init : goal.loop-i-init
loop-i-init c = (omega arith, omega arith, refl, rows_none _ _ (search rules))

pub loop-i-preserved : goal.loop-i-preserved
loop-i-preserved c = (search rules, search rules, as_long c.put_row-at.ensures.text ∙ c.loop-i.invariant.2, rows_more c.loop-i.i _ _ (search rules) (search rules) c.loop-i.invariant.3 c.put_row-at.ensures.text)

pub returns : goal.returns
unfolding listing_text
returns c = let e : c.loop-i.i ≡ c.args.n = omega arith in
    at_start (then (then c.put_header-at.ensures.text (rw e at c.loop-i.invariant.3)) c.put_total.ensures)
