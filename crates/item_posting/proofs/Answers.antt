-- What posting the items of a file answers, by the tests in their order.
use Rattle.std.specs.Prelude.{Option}
use mathlib.Core.Path.{◌≡◌, sym, ◌∙◌}
use mathlib.Core.Bool.{true, false, not}
use mathlib.Core.List.{List}
use Prim.Native.Nat.{ℕ}
use lib.IntN.{ℤ}
use borrow.Author.Tests.{not-false}
use Rattle.turnovers.specs.declared.Move.{Move}
use Rattle.booking.specs.declared.Told.{Told}
use Rattle.booking.specs.Sheet.{all_are_listed, some_passes}
use Rattle.booking.specs.Booking.{Booked}
use Rattle.std.specs.Prelude.{Ok, Err}
use Rattle.item_posting.specs.declared.PostError.TheVariants.{NotListed, TooLarge}
use Rattle.item_posting.specs.Items.{PostsItems}

module _ {codes : List ℕ} {ts ts' : List ℤ} {ps : List (Option Move)} {t : Told} (B : Booked codes ts ps t ts') where
  pub items_unlisted : t.unlisted ≡ true → PostsItems codes ts ps (Err NotListed) ts
  items_unlisted e = let a : not (all_are_listed codes ps) ≡ true = sym B.unlisted ∙ e in record { number = rw a; sheet = rw a }

  module _ (e : t.unlisted ≡ false) where
    a : not (all_are_listed codes ps) ≡ false
    a = sym B.unlisted ∙ e

    b : t.beyond ≡ some_passes codes ts ps
    b = B.beyond (not-false (all_are_listed codes ps) a)

    pub items_beyond : t.beyond ≡ true → PostsItems codes ts ps (Err TooLarge) ts
    items_beyond f = let q : some_passes codes ts ps ≡ true = sym b ∙ f in record { number = rw (a, q); sheet = rw (a, q) }

    pub items_done : t.beyond ≡ false → PostsItems codes ts ps (Ok tt) ts'
    items_done f =
        let q : some_passes codes ts ps ≡ false = sym b ∙ f in
        record { number = rw (a, q); sheet = B.sheet (not-false (all_are_listed codes ps) a) q ∙ (rw (a, q)) }
