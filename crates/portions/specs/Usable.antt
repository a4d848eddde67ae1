-- The states that can go on, as a test of their numbers: `is_open` is what refusal 18 is asked by, in `Adds` and `Closes`. The bounds that it
-- asks are those that the code needs; that each state of an open file is within them is `usable` of `Holds`.
use Rattle.std.specs.Prelude.{ℕ, ◌+◌, ◌*◌, ◌^◌, Bool, ◌&&◌, List, leb, ltb, eqb, length}
use Rattle.pass.specs.declared.Pass.{Pass}
use Rattle.joining.specs.Short.{kept_text}
use Rattle.joining.specs.Held.{kept_in}
use Rattle.going.specs.declared.Going.{Going}
use Rattle.portions.specs.declared.Portions.{Portions}
use Rattle.handing.specs.Ready.{is_ready}

abbrev pub bounded_by : ℕ → ℕ → ℕ → ℕ → ℕ → ℕ → Bool
bounded_by at n total marks tail top = leb n at && (leb total (256 * n) && (ltb marks (2 ^ 41) && (leb tail n && leb top 18)))

abbrev pub is_bounded : ℕ → Pass → Bool
is_bounded at p = bounded_by at p.n p.ledger.total p.wait.marks p.field.tail p.top

-- `Sound` of `going`, as a test
unfoldable pub is_sound : Going → List ℕ → List ℕ → List ℕ → Bool
is_sound g ls rs ps =
    is_bounded g.at g.pass && (eqb (length ls) (length ps) && (leb (g.at + length (kept_text (kept_in g.held))) g.came && is_ready g.pass.ledger.kept ls rs))

-- open, and its numbers are within their bounds
unfoldable pub is_open : Portions → List ℕ → List ℕ → List ℕ → Bool
is_open p ls rs ps = p.takes && ((leb p.going.came p.bytes && leb p.bytes 10000001) && is_sound p.going ls rs ps)
